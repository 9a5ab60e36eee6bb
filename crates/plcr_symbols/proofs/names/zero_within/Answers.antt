use Rattle.std.proofs.Common.{◌≡◌, ◌+◌, None, subst, ℕ, arith}
use Rattle.plcr_memory.specs.Regions.{bytes_at}
use Rattle.plcr_symbols.proofs.Looked.{looked_more, looked_unmapped, looked_zero}
use Rattle.plcr_symbols.proofs.names.zero_within.Goals as goal

pub returns-in-Zero : goal.returns-in-Zero
returns-in-Zero c =
    looked_zero c.args.memory.now c.args.at c.args.most c.loop-done.done c.min-size.result c.in-Zero.place c.loop-done.invariant.0 (omega (arith, c.min-size.ensures, c.loop-done-test.true)) c.in-Zero.ensures.0

pub loop-done-preserved-in-NoZero : goal.loop-done-preserved-in-NoZero
loop-done-preserved-in-NoZero c = (
  looked_more c.args.memory.now c.args.at c.args.most c.loop-done.done c.min-size.result c.loop-done.invariant.0 (omega (arith, c.min-size.ensures, c.loop-done-test.true)) c.in-NoZero.ensures.0 c.in-NoZero.ensures.1,
  omega (arith, c.min-size.ensures, c.loop-done-test.true, c.loop-done.invariant.1),
  omega (arith, c.min-size.ensures, c.loop-done.invariant.2),
)

pub returns-in-Unmapped-2 : goal.returns-in-Unmapped-2
returns-in-Unmapped-2 c =
    let one : c.min-size.result ≡ 1 = omega (arith, c.if-size-gt1.false, c.min-size.ensures, c.loop-done-test.true, c.loop-done.invariant.1) in
    looked_unmapped c.args.memory.now c.args.at c.args.most c.loop-done.done c.loop-done.invariant.0
    (subst (λ (n : ℕ). bytes_at c.args.memory.now (c.args.at + c.loop-done.done) n ≡ None) one c.in-Unmapped.ensures)
