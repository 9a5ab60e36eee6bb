-- What each line of the journal comes to, by the accepted lines before it alone. A load for which
-- no node is free tells what its looks found.
use Rattle.std.specs.Prelude.{◌≡◌, ℕ, zero, suc, ◌+◌, ◌*◌, ◌<◌, ◌≤◌, List, [], ◌∷◌, ◌++◌, Some, Result, Ok, Err, length, ◌==◌, if◌then◌else◌}
use Rattle.plcr_machine.specs.declared.entry.Entry.{Entry}
use Rattle.plcr_machine.specs.declared.entry.Entry.TheVariants.{Look}
use Rattle.plcr_machine.specs.declared.change.Change.{Change}
use Rattle.plcr_machine.specs.declared.change.Change.TheVariants.{Loads, Unloads}
use Rattle.plcr_machine.specs.declared.limits.TheConstants.{COUNT_UNIT}
use Rattle.plcr_machine.specs.Lists.{Grows}
use Rattle.plcr_machine.specs.Passes.{counts}
use Rattle.plcr_machine.specs.Changes.{list_of}
use Rattle.plcr_imagelist.specs.States.{WriterState}
use Rattle.plcr_imagelist.specs.Finding.{NoneFree}
use Rattle.plcr_script.specs.declared.statements.Statement.{Statement}
use Rattle.plcr_script.specs.declared.statements.Statement.TheVariants as statements
use Rattle.plcr_script.specs.declared.outcomes.Outcome.{Outcome}
use Rattle.plcr_script.specs.declared.outcomes.Outcome.TheVariants as outcomes
use Rattle.plcr_script.specs.Scripts.{ScriptValue}
use Rattle.plcr_script.specs.Meanings.{Meanings}
use Rattle.plcr_script.specs.RunChanges.{Plan, planned_load, planned_unload, made_outcome}
use Rattle.plcr_turns.specs.declared.lines.Said.{Said}
use Rattle.plcr_turns.specs.declared.lines.Said.TheVariants.{NotImage, Worn, Long, Full, NotLoaded, Loaded, Unloaded}
use Rattle.plcr_turns.specs.declared.lines.ChangeLine.{ChangeLine}
use Rattle.plcr_workers.specs.Asking.{asked_in, statement_of, accepted_changes}

-- what a line of the journal came to, as an outcome of the log
abbrev pub outcome_of : Said → Outcome
outcome_of (NotImage kind) = outcomes.NotImage kind
outcome_of (Worn number) = outcomes.Worn number
outcome_of (Long len) = outcomes.Long len
outcome_of (Full lives held seen) = outcomes.Full lives held seen
outcome_of NotLoaded = outcomes.NotLoaded
outcome_of (Loaded load) = outcomes.Loaded load
outcome_of (Unloaded load) = outcomes.Unloaded load

-- the outcome of a change that is made whole at once, or its refusal
abbrev pub whole_outcome : Result Plan Outcome → Outcome
whole_outcome (Ok plan) = made_outcome plan
whole_outcome (Err refusal) = refusal

-- how many of some changes are unloads
abbrev pub unloads_in : List Change → ℕ
unloads_in [] = 0
unloads_in (Loads image ∷ past) = unloads_in past
unloads_in (Unloads header ∷ past) = suc (unloads_in past)

-- one look at each of the first passes, in rising order, between two moments of a history; so many
-- found a stamp
abbrev pub Looked : ℕ → List Entry → ℕ → List Entry → Type 0
Looked zero from found to = Grows from to × (found ≡ 0)
Looked (suc pass) from found to =
    (mid : List Entry) × (past : List Entry) × (less : ℕ) × (stamp : ℕ)
    × Looked pass from less mid × Grows mid past × (to ≡ Look pass stamp ∷ past)
    × (found ≡ less + (if stamp == 0 then 0 else 1))

-- no node was free, even after a look at each pass, of which so many had a stamp. All of it by
-- these changes, which are all that were made and counted then
pub record IsFullAfter (w : WriterState) (changes : List Change) (live held seen : ℕ)
    (from to : List Entry) : Type 0 where
  pub found : ℕ
  pub few : found ≤ w.passes
  pub looks : Looked w.passes from found to
  pub counted : (counts from ≡ length changes) × (counts to ≡ length changes)
  pub none : NoneFree w.nodes w.passes to
  pub live_is : live ≡ length (list_of changes)
  pub all : live + held ≡ w.nodes
  pub seen_is : seen ≡ length changes * COUNT_UNIT + found
  pub held_back : 0 < held → 0 < found
  pub held_most : held ≤ unloads_in changes

-- what a load comes to after these changes, between two moments of the history
abbrev pub LoadComesTo : Meanings → WriterState → List Change → ℕ → List ℕ → Said → List Entry →
    List Entry → Type 0
LoadComesTo process w changes header name (Full lives held seen) from to =
    ((plan : Plan) × (planned_load (process.fault header) changes header name ≡ Ok plan))
    × ((first : List Entry) × (last : List Entry) × Grows from first
    × IsFullAfter w changes lives held seen first last × Grows last to)
LoadComesTo process w changes header name said from to =
    outcome_of said ≡ whole_outcome (planned_load (process.fault header) changes header name)

-- what a statement of the writer comes to. It is never busy, since no change is left open
abbrev pub ComesTo : Meanings → WriterState → List Change → Statement → Said → List Entry →
    List Entry → Type 0
ComesTo process w changes (statements.Load header name) said from to =
    LoadComesTo process w changes header name said from to
ComesTo process w changes (statements.Unload header) said from to =
    outcome_of said ≡ whole_outcome (planned_unload changes header)
ComesTo process w changes other said from to = ⊥

-- a line of the journal, behind these lines: it is of a script's load or unload, and came to what
-- the changes of the lines before make of it
pub record IsRunLine (process : Meanings) (scripts : List ScriptValue) (w : WriterState)
    (before : List ChangeLine) (line : ChangeLine) (from to : List Entry) : Type 0 where
  pub statement : Statement
  pub stands : statement_of scripts line ≡ Some statement
  pub asks : asked_in statement ≡ Some line.wanted.asked
  pub comes : ComesTo process w (accepted_changes scripts before) statement line.said from to

-- the lines of a journal behind others, each between two moments of the history that come one after
-- the other
abbrev pub JournalRuns : Meanings → List ScriptValue → WriterState → List ChangeLine → List Entry →
    List ChangeLine → Type 0
JournalRuns process scripts w before from [] = Grows from w.history
JournalRuns process scripts w before from (line ∷ lines) =
    (to : List Entry) × Grows from to × IsRunLine process scripts w before line from to
    × JournalRuns process scripts w (before ++ line ∷ []) to lines
