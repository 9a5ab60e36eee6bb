use Rattle.plcr_machine.proofs.Cases.{not_both}
use Rattle.plcr_machine.proofs.Judging.{missed-here, missed-on}
use Rattle.plcr_machine.proofs.plain.walks.none_was_missed.Goals as goal

pub returns-then-not-is_met_or_went : goal.returns-then-not-is_met_or_went
returns-then-not-is_met_or_went c = (
  (λ t. cc),
  λ none.
      let here = missed-here c.args.lists.now c.args.from c.args.to c.args.met.now c.args.images.now c.loop-image.image-index c.image-item.result c.loop-image-test.true c.image-item.is (c.loop-image.invariant.0 none) in
      not_both c.is_met_or_went.result (c.is_met_or_went.ensures.1 here.0) c.if-not-is_met_or_went.true,
)

pub loop-image-preserved : goal.loop-image-preserved
loop-image-preserved c = (
  (λ none. (missed-here c.args.lists.now c.args.from c.args.to c.args.met.now c.args.images.now c.loop-image.image-index c.image-item.result c.loop-image-test.true c.image-item.is (c.loop-image.invariant.0 none)).1),
  λ none. c.loop-image.invariant.1 (missed-on c.args.lists.now c.args.from c.args.to c.args.met.now c.args.images.now c.loop-image.image-index c.image-item.result c.loop-image-test.true c.image-item.is (c.is_met_or_went.ensures.0 c.if-not-is_met_or_went.false) none),
)
