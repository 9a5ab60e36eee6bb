-- The log of scripts on threads: first the journal, in the order in which its lines were applied,
-- and then the other lines, script by script. Scripts are numbered from 1.
use Rattle.std.specs.Prelude.{ℕ, ◌+◌, List, [], ◌∷◌, ◌++◌, Option, Some, None, flat_map, slice_get}
use Rattle.plcr_script.specs.declared.statements.Statement.{Statement}
use Rattle.plcr_script.specs.declared.statements.NumberedStatement.{NumberedStatement}
use Rattle.plcr_script.specs.declared.statements.Statement.TheVariants.{Report}
use Rattle.plcr_script.specs.declared.outcomes.Outcome.{Outcome}
use Rattle.plcr_script.specs.declared.outcomes.Outcome.TheVariants as outcomes
use Rattle.plcr_script.specs.Contexts.{lent}
use Rattle.plcr_script.specs.Scripts.{ScriptValue}
use Rattle.plcr_script.specs.Log.{log_line}
use Rattle.plcr_turns.specs.declared.lines.ChangeLine.{ChangeLine}
use Rattle.plcr_workers.specs.declared.lines.PassSaid.{PassSaid}
use Rattle.plcr_workers.specs.declared.lines.PassSaid.TheVariants.{Entered, Walked, Left, Reported}
use Rattle.plcr_workers.specs.declared.lines.PassLine.{PassLine}
use Rattle.plcr_workers.specs.Outcomes.{outcome_of}

-- the file of a report
abbrev pub file_in : Statement → List ℕ
file_in (Report pass file) = file
file_in other = []

-- the line of a statement of a script, and its file, if it has one; 0 and none past the end
abbrev pub line_of : Option NumberedStatement → ℕ
line_of None = 0
line_of (Some s) = s.line

abbrev pub file_of : Option NumberedStatement → List ℕ
file_of None = []
file_of (Some s) = file_in s.statement

-- what a line of a pass came to, as an outcome of the log. Each worker has one pass, of number 0
abbrev pub pass_outcome : List ℕ → PassSaid → Outcome
pass_outcome file Entered = outcomes.Entered 0
pass_outcome file (Walked met ended) = outcomes.Walked 0 met ended
pass_outcome file (Left met low high) = outcomes.Left 0 met low high
pass_outcome file (Reported bytes images low high) =
    outcomes.Reported (lent file) bytes images low high

-- the text of the journal
abbrev pub journal_text : List ChangeLine → List ℕ
journal_text journal =
    flat_map (λ (l : ChangeLine). log_line (Some (l.script + 1)) l.wanted.line (outcome_of l.said))
    journal

-- the text of the other lines of a script
abbrev pub script_text : ℕ → ScriptValue → List PassLine → List ℕ
script_text number script lines =
    flat_map (λ (l : PassLine). log_line (Some number) (line_of (slice_get script.statements l.at))
    (pass_outcome (file_of (slice_get script.statements l.at)) l.said)) lines

-- the text of the other lines of scripts, from a number on
abbrev pub scripts_text : ℕ → List ScriptValue → List (List PassLine) → List ℕ
scripts_text number [] others = []
scripts_text number (script ∷ scripts) [] = []
scripts_text number (script ∷ scripts) (lines ∷ others) =
    script_text number script lines ++ scripts_text (number + 1) scripts others

abbrev pub threads_log : List ScriptValue → List ChangeLine → List (List PassLine) → List ℕ
threads_log scripts journal others = journal_text journal ++ scripts_text 1 scripts others
