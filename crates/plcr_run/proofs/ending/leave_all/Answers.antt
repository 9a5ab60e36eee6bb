use Rattle.std.proofs.Common.{◌<◌, add-one, refl, sym, ◌∙◌, arith}
use Rattle.plcr_run.specs.inner.Slots.{slot_at}
use Rattle.plcr_run.specs.inner.Tokens.{writer_of}
use Rattle.plcr_run.proofs.Leaving.{goes_nowhere, none_left, leave_more, out_more, out_slot, slot_cases, slots_more}
use Rattle.plcr_run.proofs.ending.leave_all.Goals as goal
use Rattle.plcr_run.proofs.ending.leave_all.Goals.{then-not-is_out, else-not-is_out}

pub loop-pass-init : goal.loop-pass-init
loop-pass-init c = record {
  tokens = c.requires.tokens;
  goes = goes_nowhere _ _ _ (λ state is. none_left _ _ state is);
  out = λ k below. absurd (omega arith);
  count = refl;
}

pub leave-requires-clause-tokens : goal.leave-requires-clause-tokens
leave-requires-clause-tokens c = c.loop-pass.invariant.tokens

pub leave-requires-clause-inside : goal.leave-requires-clause-inside
leave-requires-clause-inside c = slot_cases _ _ _ c.loop-pass.pass c.loop-pass.invariant.tokens (omega arith) (sym c.is_out.ensures ∙ c.if-not-is_out.true)

pub loop-pass-preserved : goal.loop-pass-preserved
loop-pass-preserved c =
    let below : c.loop-pass.pass < (writer_of c.loop-pass.writing).passes = let tokens = c.loop-pass.invariant.tokens.count in let count = c.loop-pass.invariant.count in omega arith in
    elim c.if-not-is_out.branch [
      | then-not-is_out w ↦
          let inside = slot_cases _ _ _ c.loop-pass.pass c.loop-pass.invariant.tokens (omega arith) (sym c.is_out.ensures ∙ w.if-not-is_out.true) in
          rw (w.writing-is, w.slots-is) (record {
            tokens = w.leave.ensures.tokens;
            goes = rw add-one (leave_more _ _ c.loop-pass.writing c.loop-pass.slots _ _ c.loop-pass.pass c.loop-pass.invariant.goes w.leave.ensures.goes inside below);
            out = slots_more c.loop-pass.pass c.loop-pass.slots _ c.loop-pass.invariant.out w.leave.ensures.outside w.leave.ensures.others;
            count = w.leave.ensures.count ∙ c.loop-pass.invariant.count;
          })
      | else-not-is_out w ↦
          let outside = out_slot (slot_at c.loop-pass.slots c.loop-pass.pass) (sym c.is_out.ensures ∙ w.if-not-is_out.false) in
          rw (w.writing-is, w.slots-is) (record {
            tokens = c.loop-pass.invariant.tokens;
            goes = rw add-one (out_more _ _ c.loop-pass.writing c.loop-pass.slots c.loop-pass.pass c.loop-pass.invariant.goes outside below);
            out = slots_more c.loop-pass.pass c.loop-pass.slots c.loop-pass.slots c.loop-pass.invariant.out outside (λ k n. refl);
            count = c.loop-pass.invariant.count;
          })
    ]
