use Rattle.std.proofs.Common.{◌≡◌, ◌∙◌, ◌∷◌, [], All, subst, ap}
use Rattle.plcr_imagelist.specs.Holds.{WalkerState}
use Rattle.plcr_turns.proofs.Fronts.{all_front}
use Rattle.plcr_turns.proofs.tests.meet_all.Goals as goal

pub loop-image-preserved : goal.loop-image-preserved
loop-image-preserved c = (
  c.meet-writer.ensures.list ∙ c.loop-image.invariant.0,
  all_front (λ (i : WalkerState). i.table ≡ c.args.list.now) c.pop.new.self.items (c.in-Some.image ∷ [])
      (subst (All (λ (i : WalkerState). i.table ≡ c.args.list.now)) c.in-Some.ensures.items c.loop-image.invariant.1),
)
