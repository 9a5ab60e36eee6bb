use Rattle.std.proofs.Common.{◌≡◌, ◌≤◌, take}
use Rattle.std.specs.Io.KnownBytes.{append_known}
use Rattle.plcr_workers.specs.Log.{script_text}
use Rattle.plcr_workers.proofs.log.print_script.Given as goal

abbrev pub invariant-loop-line : goal.invariant-loop-line
invariant-loop-line g l =
    (g.L.Sink.written l.lines ≡ append_known (g.L.Sink.written l.initial.lines) (script_text l.number l.script (take l.line-index l.told)))
    × (g.L.Sink.faults l.initial.lines ≤ g.L.Sink.faults l.lines)
    × (g.L.Sink.mark l.lines ≡ g.L.Sink.mark l.initial.lines)
