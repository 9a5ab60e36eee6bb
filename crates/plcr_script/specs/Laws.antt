-- What the meaning of a script says of its lines as a whole.
use Rattle.std.specs.Prelude.{◌≡◌, ◌≢◌, ℕ, ◌+◌, Bool, true, false, List, [], ◌∷◌, Option, Some, None, Ok, Err, take, drop, fold, All, AllPairs, IsFalse, slice_get, if◌then◌else◌}
use Rattle.std.specs.List.{enumerate_from, filter_map}
use Rattle.std.specs.Option.{option_map}
use Rattle.std.specs.Result.{result_ok}
use Rattle.plcr_script.specs.declared.faults.Kind.{Kind}
use Rattle.plcr_script.specs.declared.modes.Mode.{Mode}
use Rattle.plcr_script.specs.declared.statements.NumberedStatement.{NumberedStatement}
use Rattle.plcr_script.specs.declared.values.DescriptiveValues.{DescriptiveValues}
use Rattle.plcr_script.specs.declared.limits.TheConstants.{DEFAULT_NODES, DEFAULT_PASSES}
use Rattle.plcr_script.specs.Keys.{with_number, with_text}
use Rattle.plcr_script.specs.Values.{default_values}
use Rattle.plcr_script.specs.Refusals.{Refusal, kind_number}
use Rattle.plcr_script.specs.Scripts.{ScriptValue}
use Rattle.plcr_script.specs.Sayings.{Saying, Sizes, Number, Words, States, says_nothing, saying_in}
use Rattle.plcr_script.specs.Reading.{DraftValue, no_lines, files_of, written_by, with_line, with_lines}

-- what a line says, with the line's number
pub record NumberedSaying : Type 0 where
  pub line : ℕ
  pub saying : Saying

-- what a numbered line says by itself, if anything
abbrev pub said_by : ℕ → ℕ × List ℕ → Option NumberedSaying
said_by passes line = if says_nothing line.1 then None
    else option_map (λ s. record { line = line.0; saying = s })
    (result_ok (saying_in passes line.1))

-- what the lines from a number on say, each by itself, where statements may name this many passes
abbrev pub sayings_from : ℕ → ℕ → List (List ℕ) → List NumberedSaying
sayings_from number passes texts = filter_map (said_by passes) (enumerate_from number texts)

-- the statement of a numbered saying, if it is one
abbrev pub statement_by : ℕ → Saying → Option NumberedStatement
statement_by line (Sizes nodes passes) = None
statement_by line (Number key number) = None
statement_by line (Words key text) = None
statement_by line (States statement) = Some (record { line = line; statement = statement })

-- the values after a saying
abbrev pub values_by : DescriptiveValues → Saying → DescriptiveValues
values_by values (Sizes nodes passes) = values
values_by values (Number key number) = with_number key number values
values_by values (Words key text) = with_text key text values
values_by values (States statement) = values

-- whether a saying names sizes
abbrev pub is_sizes : Saying → Bool
is_sizes (Sizes nodes passes) = true
is_sizes (Number key number) = false
is_sizes (Words key text) = false
is_sizes (States statement) = false

-- the sizes where this is said first: those that it names, or else the sizes of a script that names
-- none
abbrev pub sizes_by : Saying → ℕ × ℕ
sizes_by (Sizes nodes passes) = (nodes, passes)
sizes_by (Number key number) = (DEFAULT_NODES, DEFAULT_PASSES)
sizes_by (Words key text) = (DEFAULT_NODES, DEFAULT_PASSES)
sizes_by (States statement) = (DEFAULT_NODES, DEFAULT_PASSES)

abbrev pub sizes_in : List NumberedSaying → ℕ × ℕ
sizes_in [] = (DEFAULT_NODES, DEFAULT_PASSES)
sizes_in (first ∷ others) = sizes_by first.saying

-- a script is what its lines say, each read by itself: its statements in order, the sizes that the
-- first saying names and no other does, and the values one after the other, so that the last of a
-- key counts. No two statements write one file, and none writes that of a script before
pub record IsSaidBy (before : List ScriptValue) (sayings : List NumberedSaying)
    (script : ScriptValue) : Type 0 where
  pub statements : script.statements ≡ filter_map (λ s. statement_by s.line s.saying) sayings
  pub nodes : script.nodes ≡ (sizes_in sayings).0
  pub passes : script.passes ≡ (sizes_in sayings).1
  pub once : All (λ (s : NumberedSaying). IsFalse (is_sizes s.saying)) (drop 1 sayings)
  pub values : script.values ≡ fold (λ values s. values_by values s.saying) default_values sayings
  pub apart : AllPairs (λ f g. f ≢ g) (files_of script.statements)
  pub fresh : All (λ f. All (λ g. f ≢ g) (written_by before)) (files_of script.statements)

-- a line is the first that is refused: those before it make a script, after which this line is
-- refused
pub record IsFirstRefused (mode : Mode) (before : List ScriptValue) (texts : List (List ℕ))
    (refusal : Refusal) : Type 0 where
  pub place : ℕ
  pub draft : DraftValue
  pub text : List ℕ
  pub kind : Kind
  pub number : refusal.line ≡ place + 1
  pub accepted : with_lines (no_lines mode before) 1 (take place texts) ≡ Ok draft
  pub stands : slice_get texts place ≡ Some text
  pub refused : with_line draft refusal.line text ≡ Err kind
  pub told : refusal.kind ≡ kind_number kind
