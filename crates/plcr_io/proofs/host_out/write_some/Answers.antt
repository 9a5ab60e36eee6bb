use Rattle.std.proofs.Common.{◌≡◌, ℕ, zero, suc, ◌-◌, ◌^◌, List, Option, None, Result, Ok, Err, refl, arith}
use Rattle.std.specs.declared.io.Error.{Error}
use Rattle.plcr_io.specs.inner.Tries.{Interrupts, IsInterrupted, taken_by, Tries}
use Rattle.plcr_io.proofs.host_out.write_some.Goals as goal

none_taken : (answer : Result ℕ Error) → IsInterrupted answer → None ≡ taken_by answer
none_taken (Ok n) h = absurd h
none_taken (Err error) h = refl

-- after the most tries, all of them interrupted
worn_out : {W : Type 0} (contents : W → Option (List ℕ)) (piece : List ℕ) (n : ℕ) (old new : W) → Interrupts contents piece n old new → n ≡ 2 ^ 64 - 1 → Tries contents piece old new None
worn_out contents piece zero old new all most = absurd (omega arith)
worn_out contents piece (suc n) old new all most = record {
  interrupts = n;
  last = all.0;
  answer = all.1;
  earlier = all.2;
  answers = all.3;
  tells = none_taken all.1 all.4;
  worn = λ _. omega arith;
}

pub returns : goal.returns
returns g c = worn_out g.W.Write.contents c.args.piece.now c.loop.counter c.args.writer.now c.loop.writer c.loop.invariant (omega arith)
