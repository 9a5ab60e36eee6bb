-- What a script means: its statements, sizes and values, or its first refused line.
use Rattle.std.specs.Prelude.{◌≡◌, ℕ, ◌+◌, ◌&&◌, ◌||◌, Bool, true, false, List, [], ◌∷◌, ◌++◌, Option, Some, None, Result, Ok, Err, not, length, nat_lt, flat_map, filter_map, if◌then◌else◌}
use Rattle.std.specs.List.{list_any}
use Rattle.std.specs.Str.{bytes_eq}
use Rattle.plcr_base.specs.Chains.{◌>>=◌}
use Rattle.plcr_script.specs.declared.faults.Kind.{Kind}
use Rattle.plcr_script.specs.declared.faults.Kind.TheVariants.{OutOfPlace}
use Rattle.plcr_script.specs.declared.faults.ScriptFault.{ScriptFault}
use Rattle.plcr_script.specs.declared.faults.ScriptFault.TheVariants as faults
use Rattle.plcr_script.specs.declared.modes.Mode.{Mode}
use Rattle.plcr_script.specs.declared.modes.Mode.TheVariants.{Single, Worker}
use Rattle.plcr_script.specs.declared.statements.Statement.{Statement}
use Rattle.plcr_script.specs.declared.statements.Statement.TheVariants.{BeginLoad, BeginUnload, Step, End, Report}
use Rattle.plcr_script.specs.declared.statements.NumberedStatement.{NumberedStatement}
use Rattle.plcr_script.specs.declared.limits.TheConstants.{DEFAULT_NODES, DEFAULT_PASSES}
use Rattle.plcr_script.specs.Splits.{lines}
use Rattle.plcr_script.specs.Keys.{with_number, with_text}
use Rattle.plcr_script.specs.Values.{default_values}
use Rattle.plcr_script.specs.Refusals.{Refusal, only_if, refused_at}
use Rattle.plcr_script.specs.Scripts.{ScriptValue, script_value}
use Rattle.plcr_script.specs.Places.{is_misplaced}
use Rattle.plcr_script.specs.Sayings.{Saying, Sizes, Number, Words, States, says_nothing, saying_in}

-- the file that a statement writes, if it writes one
abbrev pub file_of : Statement → Option (List ℕ)
file_of (Report pass file) = Some file
file_of other = None

-- the files that statements write, in order
abbrev pub files_of : List NumberedStatement → List (List ℕ)
files_of statements = filter_map (λ s. file_of s.statement) statements

-- the files that scripts write, in order
abbrev pub written_by : List ScriptValue → List (List ℕ)
written_by scripts = flat_map (λ script. files_of script.statements) scripts

-- whether the file is one of these
unfoldable pub is_named : List ℕ → List (List ℕ) → Bool
is_named file names = list_any (λ name. bytes_eq name file) names

-- whether the file that is to be written, if there is one, is one of these
abbrev pub is_taken : Option (List ℕ) → List (List ℕ) → Bool
is_taken None names = false
is_taken (Some file) names = is_named file names

-- a script as far as it is read: what it is read for, the scripts before it, and whether a line has
-- said anything
pub record DraftValue : Type 0 where
  pub mode : Mode
  pub before : List ScriptValue
  pub script : ScriptValue
  pub begun : Bool

abbrev pub draft_value : Mode → List ScriptValue → ScriptValue → Bool → DraftValue
draft_value mode before script begun =
    record { mode = mode; before = before; script = script; begun = begun }

-- the script of no lines, with the default sizes and values
abbrev pub no_lines : Mode → List ScriptValue → DraftValue
no_lines mode before =
    draft_value mode before (script_value [] DEFAULT_NODES DEFAULT_PASSES default_values) false

-- the files that the scripts before, and the lines so far, write
abbrev pub files_before : DraftValue → List (List ℕ)
files_before draft = written_by draft.before ++ files_of draft.script.statements

-- how many passes the statements of a script may name: those of its sizes; the script of a worker
-- has one
abbrev pub passes_of : Mode → ℕ → ℕ
passes_of Single passes = passes
passes_of (Worker first) passes = 1

-- whether a script is a worker's, and whether it is one behind the first, which has the sizes and
-- values
abbrev pub is_worker : Mode → Bool
is_worker Single = false
is_worker (Worker first) = true

abbrev pub is_later : Mode → Bool
is_later Single = false
is_later (Worker first) = not first

-- whether a statement leaves a change open or goes on with one
abbrev pub is_of_open_change : Statement → Bool
is_of_open_change (BeginLoad header name) = true
is_of_open_change (BeginUnload header) = true
is_of_open_change (Step most) = true
is_of_open_change End = true
is_of_open_change other = false

-- whether this may not be said behind the lines so far: sizes behind anything; a value behind a
-- statement of the run; either in a worker's script that isn't the first; a statement of an open
-- change in a worker's script; one that finds its pass where it may not be; a report into a file
-- that an earlier one writes, in this script or in one before it
abbrev pub is_out_of_place : DraftValue → Saying → Bool
is_out_of_place draft (Sizes nodes passes) = draft.begun || is_later draft.mode
is_out_of_place draft (Number key number) = nat_lt 0 (length draft.script.statements)
    || is_later draft.mode
is_out_of_place draft (Words key text) = nat_lt 0 (length draft.script.statements)
    || is_later draft.mode
is_out_of_place draft (States statement) =
    (is_worker draft.mode && is_of_open_change statement)
    || (is_misplaced draft.script.statements statement
    || is_taken (file_of statement) (files_before draft))

-- the script with what a line says
abbrev pub with_saying : ScriptValue → ℕ → Saying → ScriptValue
with_saying script line (Sizes nodes passes) = record script { nodes = nodes; passes = passes }
with_saying script line (Number key number) =
    record script { values = with_number key number script.values }
with_saying script line (Words key text) =
    record script { values = with_text key text script.values }
with_saying script line (States statement) =
    record script {
      statements = script.statements ++ record { line = line; statement = statement }
          ∷ [];
    }

abbrev pub with_said : DraftValue → ℕ → Saying → DraftValue
with_said draft line saying =
    record draft { script = with_saying draft.script line saying; begun = true }

-- the draft after a line, or what is wrong with the line
unfoldable pub with_line : DraftValue → ℕ → List ℕ → Result DraftValue Kind
with_line draft number line = if says_nothing line then Ok draft else do
  saying ← saying_in (passes_of draft.mode draft.script.passes) line
  placed ← only_if OutOfPlace (not (is_out_of_place draft saying)) saying
  Ok (with_said draft number placed)

-- the draft after the lines from this number on, or the first of them that is refused
unfoldable pub with_lines : DraftValue → ℕ → List (List ℕ) → Result DraftValue Refusal
with_lines draft number [] = Ok draft
with_lines draft number (line ∷ others) = refused_at number (with_line draft number line)
    >>= λ next. with_lines next (number + 1) others

-- what the bytes of a script mean that is read for a mode, behind the scripts before it: the
-- script, or its first refused line
unfoldable pub script_in : Mode → List ScriptValue → List ℕ → Result ScriptValue Refusal
script_in mode before bytes = with_lines (no_lines mode before) 1 (lines bytes) >>= λ draft.
    Ok draft.script

-- a fault tells the refusal that reading gives; want of memory tells nothing
abbrev pub Tells : {A : Type 0} → ScriptFault → Result A Refusal → Type 0
Tells faults.Memory read = Unit {0}
Tells (faults.Refused line kind) read = read ≡ Err (record { line = line; kind = kind })

-- an answer is the script that reading gives, or tells its refusal
abbrev pub IsAnswer : Result ScriptValue ScriptFault → Result ScriptValue Refusal → Type 0
IsAnswer (Ok script) read = read ≡ Ok script
IsAnswer (Err fault) read = Tells fault read
