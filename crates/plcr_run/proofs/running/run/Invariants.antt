use Rattle.std.proofs.Common.{◌≡◌}
use Rattle.plcr_script.specs.Meanings.{meanings}
use Rattle.plcr_command.specs.Seen.{seen}
use Rattle.plcr_run.specs.inner.Tokens.{AreTokens}
use Rattle.plcr_run.proofs.Composed.{SoFar}
use Rattle.plcr_run.proofs.running.run.Given as goal

-- the statements so far were done
abbrev pub invariant-loop-i : goal.invariant-loop-i
invariant-loop-i g l = record {
  tokens : AreTokens l.list l.writing l.slots;
  so_far : SoFar (meanings (g.P.Process.image_fault l.process) (g.P.Process.report l.process l.context)) l.script l.i
      (seen (g.D.Desk.told l.initial.desk) (g.L.Sink.written l.initial.lines) (g.L.Sink.faults l.initial.lines))
      l.writing l.slots
      (seen (g.D.Desk.told l.desk) (g.L.Sink.written l.lines) (g.L.Sink.faults l.lines));
  mark : g.L.Sink.mark l.lines ≡ g.L.Sink.mark l.initial.lines;
}
