-- Expressions over memory that has nothing but their code.
use Rattle.std.specs.Prelude.{ℕ, ◌+◌, ◌-◌, ◌^◌, List, [], ◌∷◌, ◌==◌, nat_le, if◌then◌else◌, length, Result}
use Rattle.plcr_memory.specs.declared.region.Region.{Region}
use Rattle.plcr_dwarf_expr.specs.declared.fault.ExprFault.{ExprFault}
use Rattle.plcr_dwarf_expr.specs.Runs.{setting_at, value_of}
use Rattle.plcr_expressions.specs.declared.line.Expression.{Expression}

-- the region that so many bytes of the code fill
abbrev pub region : ℕ → ℕ → ℕ → Region
region start from len = record { start = start; size = len; from = from; len = len }

-- the regions that the code fills: none where it has no byte, and two where it goes on at address 0
-- behind the last one
abbrev pub filled_by : ℕ → ℕ → List Region
filled_by at len =
    if len == 0 then [] else
    if nat_le (at + len) (2 ^ 64) then region at 0 len ∷ [] else
    (region at 0 (2 ^ 64 - at) ∷ region 0 (2 ^ 64 - at) ((at + len) - 2 ^ 64) ∷ [])

-- the value of the expression
abbrev pub alone : Expression → Result ℕ ExprFault
alone e =
    let bytes = e.code.items in
    value_of (setting_at (record { file = bytes; regions = filled_by e.at (length bytes) })
    e.registers e.at (length bytes)) e.start
