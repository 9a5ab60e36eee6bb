use Rattle.std.proofs.Common.{◌≡◌, ◌≤◌, take}
use Rattle.std.specs.Io.KnownBytes.{append_known}
use Rattle.plcr_workers.specs.Log.{scripts_text}
use Rattle.plcr_workers.specs.inner.Stages.{items_of}
use Rattle.plcr_workers.proofs.stage.print_others.Given as goal

abbrev pub invariant-loop-script : goal.invariant-loop-script
invariant-loop-script g l =
    (g.L.Sink.written l.lines ≡ append_known (g.L.Sink.written l.initial.lines) (scripts_text 1 (take l.script l.scripts) (items_of (take l.script l.others))))
    × (g.L.Sink.faults l.initial.lines ≤ g.L.Sink.faults l.lines)
    × (g.L.Sink.mark l.lines ≡ g.L.Sink.mark l.initial.lines)
