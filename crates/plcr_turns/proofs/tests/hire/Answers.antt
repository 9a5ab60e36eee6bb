use Rattle.std.proofs.Common.{◌≡◌, ℕ, ◌+◌, ◌<◌, ◌∙◌, List, ◌∷◌, [], length, All, Some, slice_get, sym, ap, subst, add-one, arith}
use Rattle.std.proofs.lemmas.Option.{get_or_from_slice_get}
use Rattle.crossbeam_queue.specs.Passes.{view, IsPassOf}
use Rattle.plcr_imagelist.specs.Holds.{WalkerState}
use Rattle.plcr_turns.specs.declared.view.View.{View}
use Rattle.plcr_turns.specs.declared.tests.Runner.{Runner}
use Rattle.plcr_turns.specs.declared.tests.TheConstants.{LINES}
use Rattle.plcr_turns.specs.Gathering.{HasHanded}
use Rattle.plcr_turns.specs.Views.{left_view}
use Rattle.plcr_turns.specs.Working.{IsWorking}
use Rattle.plcr_turns.specs.inner.Ready.{IsReady, share_at}
use Rattle.plcr_turns.proofs.Fronts.{all_front, all_more, all_last}
use Rattle.plcr_turns.proofs.Gathered.{hands_next}
use Rattle.plcr_turns.proofs.tests.hire.Goals as goal

line_total : (totals : List ℕ) (n total : ℕ) → n < length totals → All (λ t. t ≡ LINES) totals → slice_get totals n ≡ Some total → total ≡ LINES
line_total totals n total less all at = sym (get_or_from_slice_get totals n total 0 at) ∙ all n 0 less

pub hand_out-turns-requires-clause-script : goal.hand_out-turns-requires-clause-script
hand_out-turns-requires-clause-script c = (hands_next c.loop-script.script c.args.list.now c.args.totals.now (view c.loop-script.pass) c.loop-script.invariant.1 c.loop-script-test.true).0

pub loop-script-preserved : goal.loop-script-preserved
loop-script-preserved c =
    let next = hands_next c.loop-script.script c.args.list.now c.args.totals.now (view c.loop-script.pass) c.loop-script.invariant.1 c.loop-script-test.true in
    let same = c.hand_out-turns.ensures.queue.0 in
    let was = c.loop-script.invariant.0 in
    let total : next.2.0 ≡ LINES = line_total c.args.totals.now c.loop-script.script next.2.0 c.loop-script-test.true c.requires.totals next.2.1 in (
      (same.0 ∙ was.0, same.1 ∙ was.1, same.2 ∙ was.2),
      subst (λ (v : View). HasHanded (c.loop-script.script + 1) c.args.list.now c.args.totals.now v) (sym c.hand_out-turns.ensures.left)
          (subst (λ n. HasHanded n c.args.list.now c.args.totals.now (left_view (view c.loop-script.pass))) (sym (add-one c.loop-script.script)) next.1),
      all_front (λ (i : WalkerState). i.table ≡ c.args.list.now) c.pop.new.self.items (c.in-Some.image ∷ []) (subst (All (λ (i : WalkerState). i.table ≡ c.args.list.now)) c.in-Some.ensures.items c.loop-script.invariant.2),
      subst (All (λ (r : Runner). IsPassOf c.args.queue.now r.turns × (r.script < 64) × IsReady c.args.list.now r.script 0 LINES (view r.turns) r.image)) (sym c.push_reserved.ensures.items)
          (all_more (λ (r : Runner). IsPassOf c.args.queue.now r.turns × (r.script < 64) × IsReady c.args.list.now r.script 0 LINES (view r.turns) r.image) c.loop-script.runners.items
          (record { script = c.loop-script.script; turns = c.hand_out-turns.result; image = c.in-Some.image }) c.loop-script.invariant.3 (
            c.hand_out-turns.ensures.queue.1,
            (let less = c.loop-script-test.true in let few = c.requires.few in omega arith),
            record {
              walks = all_last (λ (i : WalkerState). i.table ≡ c.args.list.now) c.pop.new.self.items c.in-Some.image (subst (All (λ (i : WalkerState). i.table ≡ c.args.list.now)) c.in-Some.ensures.items c.loop-script.invariant.2);
              working = subst (λ (v : View). IsWorking c.loop-script.script c.args.list.now v) (sym c.hand_out-turns.ensures.right) next.2.2.working;
              shares = ap (λ (v : View). v.shares) c.hand_out-turns.ensures.right ∙ next.2.2.shares ∙ ap (share_at c.loop-script.script 0) total;
            },
          )),
      (let n = c.push_reserved.ensures.len in let m = c.loop-script.invariant.4 in omega arith),
      (let n = c.push_reserved.ensures.capacity in let m = c.loop-script.invariant.5 in omega arith),
    )
