-- What a line of a script says by itself, or the first that is wrong with it.
use Rattle.std.specs.Prelude.{ℕ, ◌+◌, ◌^◌, Bool, true, List, [], ◌∷◌, Option, Some, None, Result, Ok, Err, ◌&&◌, ◌==◌, length, nat_lt, nat_le, unwrap_or, if◌then◌else◌, codes}
use Rattle.std.specs.List.{list_all}
use Rattle.std.specs.Str.{bytes_eq}
use Rattle.plcr_base.specs.Chains.{◌>>=◌}
use Rattle.plcr_io.specs.declared.limits.TheConstants.{FILE_NAME_BYTES}
use Rattle.plcr_machine.specs.declared.limits.TheConstants.{MOST_NODES, MOST_PASSES}
use Rattle.plcr_script.specs.declared.faults.Kind.{Kind}
use Rattle.plcr_script.specs.declared.faults.Kind.TheVariants.{BadWord, BadNumber, TooFew, TooMany, NoSuchPass}
use Rattle.plcr_script.specs.declared.keys.NumberKey.{NumberKey}
use Rattle.plcr_script.specs.declared.keys.TextKey.{TextKey}
use Rattle.plcr_script.specs.declared.statements.Statement.{Statement}
use Rattle.plcr_script.specs.declared.statements.Statement.TheVariants.{Load, Unload, BeginLoad, BeginUnload, Step, End, Enter, Walk, Leave, Report}
use Rattle.plcr_script.specs.Splits.{words, first_word}
use Rattle.plcr_script.specs.Numerals.{number_in, below}
use Rattle.plcr_script.specs.Keys.{number_key_in, text_key_in, least_of, limit_of}
use Rattle.plcr_script.specs.Refusals.{or_refuse, only_if}

-- what a line says: the sizes of the image list, a descriptive value, or a statement of the run
pub data Saying : Type 0 where
  Sizes : (nodes passes : ℕ) → Saying
  Number : NumberKey → ℕ → Saying
  Words : TextKey → List ℕ → Saying
  States : Statement → Saying

-- whether a line says nothing: it is empty or begins with `#`
abbrev pub says_nothing : List ℕ → Bool
says_nothing [] = true
says_nothing (b ∷ bs) = b == 35

-- whether a byte is a visible character of ASCII
abbrev pub is_visible : ℕ → Bool
is_visible b = nat_le 0x21 b && nat_le b 0x7e

-- whether a word names a file: from one byte to the most that a name has, each from 0x21 to 0x7e
abbrev pub is_file_name : List ℕ → Bool
is_file_name word = nat_le 1 (length word)
    && (nat_le (length word) FILE_NAME_BYTES && list_all is_visible word)

-- the number that a word writes, where it is below a limit
abbrev pub number_below : ℕ → List ℕ → Result ℕ Kind
number_below limit word = or_refuse BadNumber (below limit (number_in word))

-- the number that a word writes, where it is from 1 to a greatest one
abbrev pub number_to : ℕ → List ℕ → Result ℕ Kind
number_to most word = number_below (most + 1) word >>= λ number.
    only_if BadNumber (nat_le 1 number) number

-- the one word that there is
abbrev pub one_word : List (List ℕ) → Result (List ℕ) Kind
one_word [] = Err TooFew
one_word (word ∷ []) = Ok word
one_word (word ∷ more ∷ others) = Err TooMany

-- the two words that there are
abbrev pub two_words : List (List ℕ) → Result (List ℕ × List ℕ) Kind
two_words [] = Err TooFew
two_words (first ∷ []) = Err TooFew
two_words (first ∷ second ∷ []) = Ok (first, second)
two_words (first ∷ second ∷ more ∷ others) = Err TooMany

-- `table NODES PASSES`, by the words behind the first
unfoldable pub table_in : List (List ℕ) → Result Saying Kind
table_in arguments = do
  sizes ← two_words arguments
  nodes ← number_to MOST_NODES sizes.0
  passes ← number_to MOST_PASSES sizes.1
  Ok (Sizes nodes passes)

-- the number of a key that a word writes
abbrev pub number_for : NumberKey → List ℕ → Result ℕ Kind
number_for key word = number_below (limit_of key) word >>= λ number.
    only_if BadNumber (nat_le (least_of key) number) number

-- the value of a key: one of its numbers, or any text
abbrev pub value_in : Option NumberKey → Option TextKey → List ℕ → Result Saying Kind
value_in (Some key) other value = number_for key value >>= λ number. Ok (Number key number)
value_in None (Some key) value = Ok (Words key value)
value_in None None value = Err BadWord

-- `set KEY VALUE`, by what stands behind the first word; VALUE is the rest of the line
unfoldable pub set_in : Option (List ℕ) → Result Saying Kind
set_in arguments = do
  text ← or_refuse TooFew arguments
  value ← or_refuse TooFew (first_word text).rest
  value_in (number_key_in (first_word text).front) (text_key_in (first_word text).front) value

-- HEADER and NAME of a load, by what stands behind its word; NAME is the rest of the line, empty
-- where there is none
abbrev pub image_in : Option (List ℕ) → Result (ℕ × List ℕ) Kind
image_in arguments = do
  text ← or_refuse TooFew arguments
  header ← number_below (2 ^ 64) (first_word text).front
  Ok (header, unwrap_or (first_word text).rest [])

-- `load HEADER NAME`, by what stands behind its word
unfoldable pub load_in : (ℕ → List ℕ → Statement) → Option (List ℕ) → Result Saying Kind
load_in load arguments = image_in arguments >>= λ image. Ok (States (load image.0 image.1))

-- `unload HEADER`, by the words behind its own
unfoldable pub unload_in : (ℕ → Statement) → List (List ℕ) → Result Saying Kind
unload_in unload arguments = do
  word ← one_word arguments
  header ← number_below (2 ^ 64) word
  Ok (States (unload header))

-- a load or an unload that is begun, by its word and what stands behind it
abbrev pub begun_in : List ℕ → Option (List ℕ) → Result Saying Kind
begun_in word arguments =
    if bytes_eq word (codes "load") then load_in BeginLoad arguments else
    if bytes_eq word (codes "unload") then unload_in BeginUnload (words arguments) else
    Err BadWord

-- `begin load HEADER NAME` or `begin unload HEADER`, by what stands behind the first word
unfoldable pub begin_in : Option (List ℕ) → Result Saying Kind
begin_in arguments = or_refuse TooFew arguments >>= λ text.
    begun_in (first_word text).front (first_word text).rest

-- `step K`, by the words behind the first
unfoldable pub step_in : List (List ℕ) → Result Saying Kind
step_in arguments = do
  word ← one_word arguments
  most ← number_below (2 ^ 32) word
  Ok (States (Step most))

-- `end`, by the words behind it
unfoldable pub end_in : List (List ℕ) → Result Saying Kind
end_in [] = Ok (States End)
end_in (more ∷ others) = Err TooMany

-- a pass, which is one of so many
abbrev pub existing : ℕ → ℕ → Result ℕ Kind
existing passes pass = only_if NoSuchPass (nat_lt pass passes) pass

-- the pass R that one word names
abbrev pub pass_in : ℕ → List (List ℕ) → Result ℕ Kind
pass_in passes arguments = do
  word ← one_word arguments
  pass ← number_below (2 ^ 32) word
  existing passes pass

-- `enter R` and `leave R`, by the words behind the first
unfoldable pub moving_in : ℕ → (ℕ → Statement) → List (List ℕ) → Result Saying Kind
moving_in passes statement arguments = pass_in passes arguments >>= λ pass.
    Ok (States (statement pass))

-- `walk R K`, by these two words, and by the words behind the first
abbrev pub walk_by : ℕ → (pass most : List ℕ) → Result Saying Kind
walk_by passes pass most = do
  number ← number_below (2 ^ 32) pass
  bound ← number_below (2 ^ 32) most
  walker ← existing passes number
  Ok (States (Walk walker bound))

unfoldable pub walk_in : ℕ → List (List ℕ) → Result Saying Kind
walk_in passes arguments = two_words arguments >>= λ both. walk_by passes both.0 both.1

-- `report R FILE`, by these two words, and by the words behind the first
abbrev pub report_by : ℕ → (pass file : List ℕ) → Result Saying Kind
report_by passes pass file = do
  number ← number_below (2 ^ 32) pass
  name ← only_if BadWord (is_file_name file) file
  reporter ← existing passes number
  Ok (States (Report reporter name))

unfoldable pub report_in : ℕ → List (List ℕ) → Result Saying Kind
report_in passes arguments = two_words arguments >>= λ both. report_by passes both.0 both.1

-- what a line of a statement says by its first word and what stands behind it, where statements may
-- name this many passes
unfoldable pub statement_in : ℕ → List ℕ → Option (List ℕ) → Result Saying Kind
statement_in passes word arguments =
    if bytes_eq word (codes "load") then load_in Load arguments else
    if bytes_eq word (codes "unload") then unload_in Unload (words arguments) else
    if bytes_eq word (codes "begin") then begin_in arguments else
    if bytes_eq word (codes "step") then step_in (words arguments) else
    if bytes_eq word (codes "end") then end_in (words arguments) else
    if bytes_eq word (codes "enter") then moving_in passes Enter (words arguments) else
    if bytes_eq word (codes "walk") then walk_in passes (words arguments) else
    if bytes_eq word (codes "leave") then moving_in passes Leave (words arguments) else
    if bytes_eq word (codes "report") then report_in passes (words arguments) else
    Err BadWord

-- what a line says by its first word and what stands behind it, with all tests but those of its
-- place in the script
unfoldable pub saying_of : ℕ → List ℕ → Option (List ℕ) → Result Saying Kind
saying_of passes word arguments =
    if bytes_eq word (codes "table") then table_in (words arguments) else
    if bytes_eq word (codes "set") then set_in arguments else
    statement_in passes word arguments

-- what a line says
abbrev pub saying_in : ℕ → List ℕ → Result Saying Kind
saying_in passes line = saying_of passes (first_word line).front (first_word line).rest
