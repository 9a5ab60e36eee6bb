-- What a script is.
use Rattle.std.specs.Prelude.{ℕ, List, Option, slice_get}
use Rattle.std.specs.Option.{option_map}
use Rattle.plcr_script.specs.declared.statements.Statement.{Statement}
use Rattle.plcr_script.specs.declared.statements.NumberedStatement.{NumberedStatement}
use Rattle.plcr_script.specs.declared.values.DescriptiveValues.{DescriptiveValues}

-- the statements with the numbers of their lines, the sizes of the image list, and the descriptive
-- values
pub record ScriptValue : Type 0 where
  pub statements : List NumberedStatement
  pub nodes : ℕ
  pub passes : ℕ
  pub values : DescriptiveValues

abbrev pub script_value : List NumberedStatement → ℕ → ℕ → DescriptiveValues → ScriptValue
script_value statements nodes passes values =
    record { statements = statements; nodes = nodes; passes = passes; values = values }

-- the i-th statement, from 0
abbrev pub statement_at : ScriptValue → ℕ → Option Statement
statement_at script i = option_map (λ s. s.statement) (slice_get script.statements i)

-- the number of the line of the i-th statement
abbrev pub line_at : ScriptValue → ℕ → Option ℕ
line_at script i = option_map (λ s. s.line) (slice_get script.statements i)
