-- What the runs of all scripts have in common. Each of these is the contract of a function of the
-- crate.
use Rattle.std.specs.Prelude.{◌≡◌, ℕ, suc, ◌≤◌, true, List, [], ◌∷◌, ◌++◌, All, length, map, ◌==◌, if◌then◌else◌}
use Rattle.plcr_machine.specs.declared.change.Change.{Change}
use Rattle.plcr_machine.specs.declared.change.Named.{Named}
use Rattle.plcr_machine.specs.declared.entry.Entry.TheVariants.{Enter, Leave}
use Rattle.plcr_machine.specs.Changes.{load_of, list_after_changes}
use Rattle.plcr_machine.specs.Walks.{IsWholeWalk, IsLawfulWalk}
use Rattle.plcr_machine.specs.Events.{Event, Changed, Noted, changes_in}
use Rattle.plcr_script.specs.declared.statements.NumberedStatement.{NumberedStatement}
use Rattle.plcr_script.specs.Scripts.{ScriptValue}
use Rattle.plcr_script.specs.Contexts.{lent}
use Rattle.plcr_script.specs.Places.{is_in_behind}
use Rattle.plcr_script.specs.Reading.{files_of}
use Rattle.plcr_script.specs.Meanings.{Meanings}
use Rattle.plcr_script.specs.RunStates.{Place, is_in, has_ended, walk, walk_to_end, State, first_state, entered_if_out}
use Rattle.plcr_script.specs.declared.outcomes.Outcome.TheVariants.{Reported}
use Rattle.plcr_script.specs.RunTurns.{Turn, listed, reported}
use Rattle.plcr_script.specs.Run.{NumberedTurn, state_after, turns_from, run_of, kept_by, end_after, changes_after}

-- the state of a script's run behind some statements
abbrev pub state_behind : Meanings → ScriptValue → List NumberedStatement → State
state_behind process script statements =
    state_after process script.nodes script.passes first_state statements

-- the passes that are in behind statements are those that the statements put in
abbrev pub PassesAreWhereTheyWerePut : Type 0
PassesAreWhereTheyWerePut =
    (process : Meanings) (script : ScriptValue) (statements : List NumberedStatement) (pass : ℕ)
    → is_in ((state_behind process script statements).places pass) ≡ is_in_behind pass statements

-- more statements go on from the state that the first leave
abbrev pub RunsGoOn : Type 0
RunsGoOn = (process : Meanings) (nodes passes : ℕ) (state : State)
    (statements others : List NumberedStatement)
    → (state_after process nodes passes state (statements ++ others)
    ≡ state_after process nodes passes (state_after process nodes passes state statements)
    others)
    × (turns_from process nodes passes state (statements ++ others)
    ≡ turns_from process nodes passes state statements ++ turns_from process nodes passes
    (state_after process nodes passes state statements) others)

-- a walk that has ended stays where it is, however often the next image is asked for
abbrev pub EndedWalksStay : Type 0
EndedWalksStay = (changes : List Change) (place : Place) (fewer more : ℕ) → fewer ≤ more →
    has_ended (walk fewer changes place) ≡ true → walk more changes place ≡ walk fewer changes place

-- in a run, the walk of a pass that is in comes to its end, wherever it is
abbrev pub WalksComeToTheirEnds : Type 0
WalksComeToTheirEnds =
    (process : Meanings) (script : ScriptValue) (statements : List NumberedStatement)
    (place : Place)
    → is_in place ≡ true →
    has_ended (walk_to_end (changes_in (state_behind process script statements).events) place)
    ≡ true

-- how many changes there were before a pass entered for the last time
abbrev pub changes_before : ℕ → List Event → ℕ
changes_before pass [] = 0
changes_before pass (Changed change ∷ past) = changes_before pass past
changes_before pass (Noted (Enter p) ∷ past) = if p == pass then length (changes_in past)
    else changes_before pass past
changes_before pass (Noted entry ∷ past) = changes_before pass past

-- images are those of a whole walk, which is lawful, through the lists that changes leave: from the
-- list after so many changes to one that stands no later than the last
pub record WasWalked (changes : List Change) (start : ℕ) (met : List Named) : Type 0 where
  pub end : ℕ
  pub within : end ≤ length changes
  pub whole : IsWholeWalk load_of (list_after_changes changes) start end met
  pub lawful : IsLawfulWalk load_of (list_after_changes changes) start end met

-- the images that a report writes behind some statements are those of a lawful walk, from the list
-- at its pass's enter on
abbrev pub ReportsAreOfLawfulWalks : Type 0
ReportsAreOfLawfulWalks =
    (process : Meanings) (script : ScriptValue) (statements : List NumberedStatement) (pass : ℕ) →
    let inside = entered_if_out pass (state_behind process script statements) in
    WasWalked (changes_in inside.events) (changes_before pass inside.events) (reported pass inside)

-- where a run stops behind some statements of its script, the changes of its list, with the open
-- one made to its end, are the first of those that the whole run makes
abbrev pub StoppedRunsArePrefixes : Type 0
StoppedRunsArePrefixes =
    (process : Meanings) (script : ScriptValue) (statements others : List NumberedStatement) →
    script.statements ≡ statements ++ others
    → (later : List Change)
    × (changes_after process script script.statements ≡ later ++ changes_after process script
    statements)

-- these events, and maybe others after them
abbrev pub Follows : List Event → List Event → Type 0
Follows past events = (later : List Event) × (events ≡ later ++ past)

-- A file that a turn keeps was written in one hold of a pass, in all that happened on a list. It
-- has a report with the images of the hold's walk, which is lawful: from the list as the pass
-- entered to one that stands no later than the pass left. The turn's line tells how many images
-- there are, and how many changes were counted as the pass entered and as it left: as many as had
-- been made, or one less where the last one stood uncounted
pub record IsLawfulReport (process : Meanings) (happened : List Event) (turn : Turn) (file : List ℕ
    × List ℕ) : Type 0 where
  pub pass : ℕ
  -- what had happened when the pass left
  pub inside : List Event
  pub hold : Follows (Noted (Leave pass) ∷ inside) happened
  pub met : List Named
  pub walked : WasWalked (changes_in happened) (changes_before pass inside) met
  pub within : walked.end ≤ length (changes_in inside)
  pub bytes : file.1 ≡ process.report (listed met)
  pub low : ℕ
  pub high : ℕ
  pub told : turn.outcome ≡ Reported (lent file.0) (length file.1) (length met) low high
  pub first : (low ≤ changes_before pass inside) × (changes_before pass inside ≤ suc low)
  pub last : (high ≤ length (changes_in inside)) × (length (changes_in inside) ≤ suc high)

-- each file of a run was written so, whatever happens after the run
abbrev pub RunsKeepLawfully : Type 0
RunsKeepLawfully = (process : Meanings) (script : ScriptValue) (later : List Event)
    → All (λ (t : NumberedTurn).
    All (IsLawfulReport process
    (later ++ (state_behind process script script.statements).events) t.turn) t.turn.kept)
    (run_of process script)

-- the end of a run comes after its statements
abbrev pub EndsFollow : Type 0
EndsFollow = (process : Meanings) (script : ScriptValue) (statements : List NumberedStatement) →
    Follows (state_behind process script statements).events (end_after process script statements)

-- a run keeps the files that its script names, each once and in their order
abbrev pub RunsKeepTheirFiles : Type 0
RunsKeepTheirFiles = (process : Meanings) (script : ScriptValue) →
    map (λ (file : List ℕ × List ℕ). file.0) (kept_by (run_of process script))
    ≡ files_of script.statements
