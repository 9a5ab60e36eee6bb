-- What a worker knows of the lines of its script in the journal.
use Rattle.std.specs.Prelude.{◌≡◌, ℕ, ◌≤◌, List, [], ◌∷◌, ◌++◌, Option, Some, None, length, slice_get}
use Rattle.crossbeam_queue.specs.Passes.{view}
use Rattle.plcr_machine.specs.Lists.{name_of}
use Rattle.plcr_imagelist.specs.Holds.{WalkerState}
use Rattle.plcr_script.specs.declared.statements.Statement.{Statement}
use Rattle.plcr_script.specs.declared.statements.NumberedStatement.{NumberedStatement}
use Rattle.plcr_script.specs.Scripts.{ScriptValue}
use Rattle.plcr_script.specs.Meanings.{Meanings}
use Rattle.plcr_turns.specs.declared.lines.Asked.{Asked}
use Rattle.plcr_turns.specs.declared.lines.Said.{Said}
use Rattle.plcr_turns.specs.declared.lines.Said.TheVariants.{Loaded}
use Rattle.plcr_turns.specs.declared.lines.ChangeLine.{ChangeLine}
use Rattle.plcr_turns.specs.declared.view.View.{View}
use Rattle.plcr_turns.specs.Lines.{lines_of}
use Rattle.plcr_turns.specs.Turns.{NameSaid, line_of}
use Rattle.plcr_workers.specs.declared.worker.Worker.{Worker}
use Rattle.plcr_workers.specs.Asking.{asked_in, statement_on, name_in}
use Rattle.plcr_workers.specs.Known.{StatementFault}

-- each statement stands on a line of its own
abbrev pub HaveOwnLines : List NumberedStatement → Type 0
HaveOwnLines statements = (at : ℕ) (s : NumberedStatement) → slice_get statements at ≡ Some s →
    statement_on s.line statements ≡ Some s.statement

-- what a line of the journal came to, by its statement, with the names of all loads
pub record CameTo (process : Meanings) (statement : Statement) (names : List (List ℕ))
    (said : Said) : Type 0 where
  pub fault : StatementFault process statement said
  pub long : NameSaid (name_in (Some statement)) said
  pub named : (load : ℕ) → said ≡ Loaded load →
      (load ≤ length names) × (name_of load names ≡ name_in (Some statement))

pub record IsOwnLine (process : Meanings) (statements : List NumberedStatement)
    (names : List (List ℕ)) (line : ChangeLine) : Type 0 where
  pub statement : Statement
  pub stands : statement_on line.wanted.line statements ≡ Some statement
  pub asks : asked_in statement ≡ Some line.wanted.asked
  pub came : CameTo process statement names line.said

abbrev pub AreOwn : Meanings → List NumberedStatement → List (List ℕ) → List ChangeLine → Type 0
AreOwn process statements names [] = Unit {0}
AreOwn process statements names (line ∷ lines) = IsOwnLine process statements names line
    × AreOwn process statements names lines

-- what a worker that has ended knows of them, by the names that its pass of the list has seen
pub record KnowsOwn {K : Type 0} (process : Meanings) (statements : List NumberedStatement)
    (w : Worker K) : Type 0 where
  pub image : WalkerState
  pub held : w.image ≡ Some image
  pub own : AreOwn process statements image.names (lines_of w.script (view w.turns).journal)

pub record KnowsOwnOf {K : Type 0} (process : Meanings) (scripts : List ScriptValue)
    (w : Worker K) : Type 0 where
  pub script : ScriptValue
  pub stands : slice_get scripts w.script ≡ Some script
  pub knows : KnowsOwn process script.statements w

-- the journal has one line more of a script, which came of a statement that asks for it
pub record AddsLine (process : Meanings) (script line : ℕ) (statement : Statement) (asked : Asked)
    (v w : View) (names : List (List ℕ)) : Type 0 where
  pub said : Said
  pub lines : lines_of script w.journal ≡ lines_of script v.journal ++ line_of script line asked
      said ∷ []
  pub came : CameTo process statement names said

abbrev pub AddsOwn : Meanings → (script line : ℕ) → Statement → Option Asked → View → View →
    List (List ℕ) → Type 0
AddsOwn process script line statement None v w names =
    lines_of script w.journal ≡ lines_of script v.journal
AddsOwn process script line statement (Some asked) v w names =
    AddsLine process script line statement asked v w names
