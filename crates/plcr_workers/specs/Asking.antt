-- The loads and unloads that scripts ask for, and the changes that the accepted ones of them make.
use Rattle.std.specs.Prelude.{ℕ, List, [], ◌∷◌, ◌++◌, Option, Some, None, ◌==◌, slice_get, filter_map, option_and_then, if◌then◌else◌}
use Rattle.std.specs.Option.{option_map}
use Rattle.plcr_machine.specs.declared.change.Change.{Change}
use Rattle.plcr_script.specs.declared.statements.Statement.{Statement}
use Rattle.plcr_script.specs.declared.statements.Statement.TheVariants.{Load, Unload}
use Rattle.plcr_script.specs.declared.statements.NumberedStatement.{NumberedStatement}
use Rattle.plcr_script.specs.Scripts.{ScriptValue}
use Rattle.plcr_turns.specs.declared.lines.Asked.{Asked}
use Rattle.plcr_turns.specs.declared.lines.Asked.TheVariants as asked
use Rattle.plcr_turns.specs.declared.lines.Wanted.{Wanted}
use Rattle.plcr_turns.specs.declared.lines.ChangeLine.{ChangeLine}
use Rattle.plcr_turns.specs.Turns.{changes_by}

-- what a statement asks of the writer, if it does
abbrev pub asked_in : Statement → Option Asked
asked_in (Load header name) = Some (asked.Load header)
asked_in (Unload header) = Some (asked.Unload header)
asked_in other = None

-- the lines of statements that ask something of the writer, in order
abbrev pub change_lines : List NumberedStatement → List Wanted
change_lines statements =
    filter_map (λ (s : NumberedStatement).
    option_map (λ a. record { line = s.line; asked = a }) (asked_in s.statement)) statements

-- the statement on a line of a script
abbrev pub statement_on : ℕ → List NumberedStatement → Option Statement
statement_on line [] = None
statement_on line (s ∷ statements) = if s.line == line then Some s.statement
    else statement_on line statements

-- the statement of a line of the journal
abbrev pub statement_of : List ScriptValue → ChangeLine → Option Statement
statement_of scripts line =
    option_and_then (λ (script : ScriptValue). statement_on line.wanted.line script.statements)
    (slice_get scripts line.script)

-- the name in a statement
abbrev pub name_in : Option Statement → List ℕ
name_in (Some (Load header name)) = name
name_in other = []

-- the change that a line of the journal makes, if it was accepted
abbrev pub change_of : List ScriptValue → ChangeLine → List Change
change_of scripts line =
    changes_by line.wanted.asked (name_in (statement_of scripts line)) line.said

-- the changes of the accepted lines of a journal, the last first
abbrev pub accepted_changes : List ScriptValue → List ChangeLine → List Change
accepted_changes scripts [] = []
accepted_changes scripts (line ∷ lines) = accepted_changes scripts lines ++ change_of scripts line
