-- What is known of the lines of a journal by the workers that applied them, and that the journal
-- then runs.
use Rattle.std.specs.Prelude.{◌≡◌, ℕ, List, [], ◌∷◌, Option, Some, None}
use Rattle.plcr_machine.specs.Lists.{Grows, name_of}
use Rattle.plcr_machine.specs.Changes.{changes_of}
use Rattle.plcr_nodes.specs.Entries.{WentOn}
use Rattle.plcr_imagelist.specs.States.{WriterState}
use Rattle.plcr_imagelist.specs.Listing.{AddsChanges}
use Rattle.plcr_script.specs.declared.statements.Statement.{Statement}
use Rattle.plcr_script.specs.declared.statements.Statement.TheVariants.{Load}
use Rattle.plcr_script.specs.Scripts.{ScriptValue}
use Rattle.plcr_script.specs.Meanings.{Meanings}
use Rattle.plcr_turns.specs.declared.lines.Said.{Said}
use Rattle.plcr_turns.specs.declared.lines.Said.TheVariants.{NotImage, Loaded}
use Rattle.plcr_turns.specs.declared.lines.ChangeLine.{ChangeLine}
use Rattle.plcr_turns.specs.Turns.{TurnState, IsTurn, NameSaid}
use Rattle.plcr_workers.specs.Asking.{asked_in, statement_of, name_in, accepted_changes}
use Rattle.plcr_workers.specs.Outcomes.{JournalRuns}

-- a line is refused for the fault of its image just where there is one
abbrev pub FaultTold : Option ℕ → Said → Type 0
FaultTold None said = (kind : ℕ) → ¬ (said ≡ NotImage kind)
FaultTold (Some kind) said = said ≡ NotImage kind

abbrev pub StatementFault : Meanings → Statement → Said → Type 0
StatementFault process (Load header name) said = FaultTold (process.fault header) said
StatementFault process other said = Unit {0}

-- what the worker of a line knows: the statement that asked for it, the fault that was tested
-- before, and its name
pub record IsKnownLine (process : Meanings) (scripts : List ScriptValue) (names : List (List ℕ))
    (line : ChangeLine) : Type 0 where
  pub statement : Statement
  pub stands : statement_of scripts line ≡ Some statement
  pub asks : asked_in statement ≡ Some line.wanted.asked
  pub fault : StatementFault process statement line.said
  pub long : NameSaid (name_in (Some statement)) line.said
  pub named : (load : ℕ) → line.said ≡ Loaded load → name_of load names ≡ name_in (Some statement)

abbrev pub AreKnown : Meanings → List ScriptValue → List (List ℕ) → List ChangeLine → Type 0
AreKnown process scripts names [] = Unit {0}
AreKnown process scripts names (line ∷ lines) = IsKnownLine process scripts names line
    × AreKnown process scripts names lines

-- the writer went on from a turn that ended, and made nothing more: it met passes
pub record HasEnded (t : TurnState) (w : WriterState) : Type 0 where
  pub grows : Grows t.writer.history w.history
  pub went : WentOn t.writer.names w.names
  pub changes : AddsChanges t.writer [] w
  pub sizes : (w.nodes ≡ t.writer.nodes) × (w.passes ≡ t.writer.passes)

-- then each line of the journal is the outcome of a run, with all that a full list tells
abbrev pub KnownJournalsRun : Type 0
KnownJournalsRun = (process : Meanings) (scripts : List ScriptValue) (t : TurnState)
    (w : WriterState) → IsTurn t → HasEnded t w → AreKnown process scripts w.names t.journal →
    JournalRuns process scripts w [] [] t.journal

-- and its accepted lines are the changes of the history, in order, by the names in the scripts
abbrev pub KnownJournalsAreTheChanges : Type 0
KnownJournalsAreTheChanges =
    (process : Meanings) (scripts : List ScriptValue) (t : TurnState) (w : WriterState) → IsTurn t →
    HasEnded t w → AreKnown process scripts w.names t.journal
    → changes_of w.names w.history ≡ accepted_changes scripts t.journal
