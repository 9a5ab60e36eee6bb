-- What the private functions are given.
use Rattle.plcr_leb128.specs.Cells.{Source}
use Rattle.plcr_dwarf_cfi.specs.declared.sections.Surroundings.{Surroundings}
use Rattle.plcr_dwarf_cfi.specs.Sections.{Section}

-- bytes in their surroundings
abbrev pub section : Source → Surroundings → Section
section cells around =
    record { cells = cells; at = around.at; size = around.size; memory = around.memory.now }
