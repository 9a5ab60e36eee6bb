use Rattle.std.proofs.Common.{ap, arith, is_some, length}
use Rattle.plcr_symbols.proofs.Zeros.{eq_from, eq_is, zero_nowhere, zero_place}
use Rattle.plcr_symbols.proofs.names.piece_at.Goals as goal

pub returns-in-Some : goal.returns-in-Some
returns-in-Some c =
    let place = c.in-Some.place in
    let first = c.in-Some.ensures in (
      zero_place c.args.memory.now (length c.args.buffer.now) c.args.at place c.copy.new.into c.if-not-copy.ensures.copied (omega (arith, first.0.high)) (eq_from _ _ first.1) (λ k lt e. first.0.before k (omega arith) lt (eq_is _ _ e)),
      omega (arith, first.0.high),
    )

pub returns-in-None : goal.returns-in-None
returns-in-None c = (
  ap is_some c.if-not-copy.ensures.copied,
  zero_nowhere c.args.memory.now (length c.args.buffer.now) c.args.at c.copy.new.into c.if-not-copy.ensures.copied (λ k lt e. c.in-None.ensures k (omega arith) (omega (arith, lt)) (eq_is _ _ e)),
)
