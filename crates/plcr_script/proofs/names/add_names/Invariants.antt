use Rattle.std.proofs.Common.{ℕ, List, ◌++◌, take}
use Rattle.plcr_script.specs.Reading.{files_of}
use Rattle.plcr_script.specs.inner.Names.{IsIndex}
use Rattle.plcr_script.proofs.names.add_names.Given as goal

abbrev pub invariant-loop-numbered : goal.invariant-loop-numbered
invariant-loop-numbered l = (files : List (List ℕ)) → IsIndex l.initial.names files → IsIndex l.names (files ++ files_of (take l.numbered-index l.statements))
