use Rattle.std.proofs.Common.{◌≡◌, ◌≤◌, ◌<◌, ◌+◌, ◌-◌, ◌∙◌, ℕ, is_some, length, ap, sym, subst, List, arith}
use Rattle.std.proofs.lemmas.Bool.{false≢true}
use Rattle.plcr_memory.specs.Regions.{Contents, bytes_at, byte_in}
use Rattle.plcr_memory.proofs.Ranges.{one_missing, all_stand, stand_run, length_covered, left_in, Stand}
use Rattle.plcr_memory.proofs.memory.Memory.copy_across.Goals as goal
use Rattle.plcr_memory.proofs.memory.Memory.copy_across.Goals.{then-left-into, else-left-into}

pub unreachable-requires : goal.unreachable-requires
unreachable-requires c =
    let inside : c.loop-done.done < length c.args.into.now = omega arith in
    let missing = one_missing c.args.self.now c.args.at (length c.args.into.now) c.loop-done.done inside c.in_default.ensures.none in
    false≢true (sym (ap is_some missing) ∙ sym c.if-not-is_mapped.ensures.mapped)

pub loop-done-preserved : goal.loop-done-preserved
loop-done-preserved c =
    let m = c.args.self.now in
    let at = c.args.at in
    let done = c.loop-done.done in
    let until = c.if-left-into.until in
    let xs = c.loop-done.into in
    let ys = c.copy_run.new.into in
    let r = c.in-Some.region in
    let holds = c.in-Some.ensures.found in
    let inside : done ≤ length xs = c.loop-done.invariant.0 in
    let grows : (done ≤ until) × (until ≤ length xs) × (until - done ≤ left_in r (at + done)) =
    elim c.if-left-into.branch [
      | then-left-into w ↦ (omega (arith, w.until-is), omega (arith, w.until-is), omega (arith, w.until-is))
      | else-left-into w ↦ (omega (arith, w.until-is), omega (arith, w.until-is), omega (arith, w.until-is, w.if-left-into.false))
    ] in
    let piece : length ys ≡ until - done = omega (arith, c.copy_run.auto.into) in
    let file_is : c.as_slice.result.now ≡ m.file = c.as_slice.ensures.value ∙ ap (λ (x : Contents). x.file) c.self.view_is in
    let within : until ≤ done + length ys = omega (arith, piece, grows) in (
      omega (arith, within, length_covered done (until - done) xs ys inside),
      stand_run m at done until (until - done) r xs ys holds inside within (omega (arith, piece, grows)) c.loop-done.invariant.1
          (λ k lt. c.copy_run.ensures k lt ∙ ap (λ (f : List ℕ). byte_in f r ((at + done) + k)) file_is),
    )

pub returns-clause-copied : goal.returns-clause-copied
returns-clause-copied c =
    let whole : c.loop-done.done ≡ length c.loop-done.into = omega arith in
    let stand = subst (λ (n : ℕ). Stand c.args.self.now c.args.at n c.loop-done.into) whole c.loop-done.invariant.1 in
    ap (bytes_at c.args.self.now c.args.at) (sym c.loop-done.auto.into) ∙ all_stand c.args.self.now c.args.at c.loop-done.into stand
