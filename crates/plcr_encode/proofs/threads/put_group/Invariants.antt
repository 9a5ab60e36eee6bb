use Rattle.std.proofs.Common.{◌+◌, ◌*◌, ◌≤◌, List}
use Rattle.std.specs.Prelude.{All}
use Rattle.plcr_regs.specs.declared.registers.Registers.{Registers}
use Rattle.plcr_report.specs.declared.messages.Frame.{Frame}
use Rattle.plcr_encode.specs.declared.limits.TheConstants.{FIELD_BYTES, THREAD_BYTES}
use Rattle.plcr_encode.specs.inner.FrameRows.{IsNamedIn}
use Rattle.plcr_encode.specs.inner.Groups.{AreRowsOf}
use Rattle.plcr_encode.proofs.Groups.{WrittenUpTo}
use Rattle.plcr_encode.proofs.threads.put_group.Given as goal

-- whatever the frames, the threads before k are written, and the rows of those from k on are left
abbrev pub invariant-loop-k : goal.invariant-loop-k
invariant-loop-k g l = record {
  given : (frames : Registers → List Frame) → AreRowsOf frames l.memory l.rows l.counts l.states → WrittenUpTo (g.W.Put.pen l.initial.ink) (g.W.Put.pen l.ink) l.memory frames l.crashed l.first l.states l.rest l.length l.k;
  named : All (IsNamedIn l.memory) l.rest;
  short : l.length ≤ (FIELD_BYTES + THREAD_BYTES) * l.k;
}
