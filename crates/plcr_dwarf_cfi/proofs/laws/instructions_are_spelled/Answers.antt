use Rattle.plcr_dwarf_cfi.proofs.SpelledList.{instructions_only, instructions_spelled}
use Rattle.plcr_dwarf_cfi.proofs.laws.instructions_are_spelled.Goals as goal

pub returns-clause-spelled : goal.returns-clause-spelled
returns-clause-spelled c = instructions_spelled

pub returns-clause-only : goal.returns-clause-only
returns-clause-only c = instructions_only
