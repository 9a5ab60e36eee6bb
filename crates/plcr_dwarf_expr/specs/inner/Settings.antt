-- What the private functions behind eval are given.
use Rattle.plcr_leb128.specs.Cells.{Source}
use Rattle.plcr_dwarf_expr.specs.declared.apply.Surroundings.{Surroundings}
use Rattle.plcr_dwarf_expr.specs.Runs.{Setting}

-- code in its surroundings
abbrev pub setting : Source → Surroundings → Setting
setting code around =
    record {
      code = code;
      size = around.size;
      memory = around.memory.now;
      registers = around.registers.now;
    }
