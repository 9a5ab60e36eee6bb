use Rattle.std.proofs.Common.{take}
use Rattle.plcr_script.specs.Reading.{written_by}
use Rattle.plcr_script.specs.inner.Names.{IsIndex}
use Rattle.plcr_script.proofs.names.names_of.Given as goal

abbrev pub invariant-loop-script : goal.invariant-loop-script
invariant-loop-script l = IsIndex l.names (written_by (take l.script-index l.scripts))
