use Rattle.std.proofs.Common.{◌≡◌, length}
use Rattle.plcr_run.specs.inner.Tokens.{AreTokens, Goes}
use Rattle.plcr_run.specs.inner.Ending.{left_below, AreOut}
use Rattle.plcr_run.proofs.ending.leave_all.Given as goal

abbrev pub invariant-loop-pass : goal.invariant-loop-pass
invariant-loop-pass l = record {
  tokens : AreTokens l.list l.writing l.slots;
  goes : Goes l.initial.writing l.initial.slots (left_below l.pass) l.writing l.slots;
  out : AreOut l.pass l.slots;
  count : length l.slots ≡ length l.initial.slots;
}
