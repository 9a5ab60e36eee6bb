use Rattle.std.specs.Prelude.{◌≤◌}
use Rattle.plcr_macho.specs.Sources.{memory_bytes}
use Rattle.plcr_macho.proofs.Gathered.{SoFar}
use Rattle.plcr_macho.proofs.parsing.kept_behind.Given as goal

abbrev pub invariant-loop-index : goal.invariant-loop-index
invariant-loop-index l = SoFar (memory_bytes l.source.memory.now l.source.start) l.end l.header.commands l.index l.at l.kept × (l.at ≤ l.end)
