-- The script that is made, read line by line.
use Rattle.std.proofs.Common.{◌≡◌, ℕ, zero, suc, ◌+◌, ◌%◌, ◌^◌, ◌<◌, ◌≤◌, Bool, true, false, List, [], ◌∷◌, ◌++◌, Some, Result, Ok, length, refl, sym, ap, ◌∙◌, arith, append_assoc, add-zero, length-append}
use Rattle.std.specs.Prelude.{codes, decimal, ◌==◌, if◌then◌else◌}
use Rattle.std.proofs.lemmas.List.{append-nil}
use Rattle.std.proofs.lemmas.List.Elements.{filter_map-append}
use Rattle.std.proofs.lemmas.Bool.{lt-ltb}
use Rattle.std.specs.Fmt.{digits}
use Rattle.plcr_base.specs.Chains.{◌>>=◌}
use Rattle.plcr_machine.specs.declared.limits.TheConstants.{MOST_NODES}
use Rattle.plcr_script.specs.declared.modes.Mode.TheVariants.{Single}
use Rattle.plcr_script.specs.declared.statements.Statement.{Statement}
use Rattle.plcr_script.specs.declared.statements.Statement.TheVariants.{Load, Unload, Report}
use Rattle.plcr_script.specs.declared.statements.NumberedStatement.{NumberedStatement}
use Rattle.plcr_script.specs.Values.{default_values}
use Rattle.plcr_script.specs.Splits.{lines, first_word}
use Rattle.plcr_script.specs.Numerals.{number_in}
use Rattle.plcr_script.specs.Refusals.{Refusal}
use Rattle.plcr_script.specs.Scripts.{script_value}
use Rattle.plcr_script.specs.Sayings.{Sizes, States, says_nothing, saying_in, saying_of, statement_in, load_in, unload_in, report_in, table_in}
use Rattle.plcr_script.specs.Reading.{DraftValue, draft_value, no_lines, file_of, files_of, is_named, is_out_of_place, with_line, with_lines, script_in}
use Rattle.plcr_script.proofs.Naming.{files_more}
use Rattle.plcr_script.proofs.Steps.{placed, goes_on, ends}
use Rattle.plcr_make.specs.declared.constants.TheConstants.{MOST_IMAGES, UNLOAD_STRIDE}
use Rattle.plcr_make.specs.Numbers.{joined}
use Rattle.plcr_make.specs.Images.{image_address}
use Rattle.plcr_make.specs.Scripts.{hexadecimal, sizes_line, load_line, unload_line, unload_lines, report_name, report_line, script_of}
use Rattle.plcr_make.specs.MadeScripts.{image_name, loads, unloads, made_script, MadeScriptsAreRead}
use Rattle.plcr_make.proofs.Texts.{IsFree, free-append, free_by, line_first, first_of, one_part, hex_read, hex_free, decimal_free}

-- an address is a number of 64 bits
abbrev IsSmall : ℕ → Type 0
IsSmall k = image_address k < 2 ^ 64

small : (k : ℕ) → k ≤ MOST_IMAGES → IsSmall k
small k few = omega (arith, few)

-- what a word of an address writes
hex_number : (n : ℕ) → n < 2 ^ 64 → number_in (hexadecimal n) ≡ Some n
hex_number n few = hex_read n few

space_free : (n : ℕ) → n < 2 ^ 64 → IsFree 32 (hexadecimal n)
space_free n few = (refl, (refl, hex_free 32 n few (omega arith)))

newline_free : (n : ℕ) → n < 2 ^ 64 → IsFree 10 (hexadecimal n)
newline_free n few = (refl, (refl, hex_free 10 n few (omega arith)))

-- the line of a load, without its newline
abbrev load_text : ℕ → List ℕ
load_text k = codes "load" ++ 32 ∷ (hexadecimal (image_address k) ++ 32 ∷ image_name k)

load_said : (k : ℕ) → IsSmall k → saying_in 1 (load_text k) ≡ Ok (States (Load (image_address k) (image_name k)))
unfolding saying_of statement_in load_in
load_said k few =
    rw (
      first_of (codes "load") (hexadecimal (image_address k) ++ 32 ∷ image_name k) (free_by 32 (codes "load") refl),
      first_of (hexadecimal (image_address k)) (image_name k) (space_free (image_address k) few),
      hex_number (image_address k) few,
      lt-ltb (image_address k) (2 ^ 64) few,
    ) refl

load_free : (k : ℕ) → IsSmall k → k < 2 ^ 64 → IsFree 10 (load_text k)
load_free k few number =
    free-append 10 (codes "load ") (hexadecimal (image_address k) ++ 32 ∷ image_name k) (free_by 10 (codes "load ") refl)
    (free-append 10 (hexadecimal (image_address k)) (32 ∷ image_name k) (newline_free (image_address k) few)
    (free-append 10 (codes " /usr/lib/lib") (decimal k ++ codes ".dylib") (free_by 10 (codes " /usr/lib/lib") refl)
    (free-append 10 (decimal k) (codes ".dylib") (decimal_free 10 k number (omega arith)) (free_by 10 (codes ".dylib") refl))))

load_line_is : (k : ℕ) (more : List ℕ) → load_line k ++ more ≡ load_text k ++ 10 ∷ more
load_line_is k more =
    let inner : (hexadecimal (image_address k) ++ (codes " /usr/lib/lib" ++ (decimal k ++ codes ".dylib\n"))) ++ more ≡ (hexadecimal (image_address k) ++ 32 ∷ image_name k) ++ 10 ∷ more =
    append_assoc (hexadecimal (image_address k)) (codes " /usr/lib/lib" ++ (decimal k ++ codes ".dylib\n")) more
    ∙ ap (λ (xs : List ℕ). hexadecimal (image_address k) ++ (codes " /usr/lib/lib" ++ xs)) (append_assoc (decimal k) (codes ".dylib\n") more ∙ sym (append_assoc (decimal k) (codes ".dylib") (10 ∷ more)))
    ∙ sym (append_assoc (hexadecimal (image_address k)) (32 ∷ image_name k) (10 ∷ more)) in
    ap (λ (xs : List ℕ). codes "load" ++ 32 ∷ xs) inner

-- the line of an unload
abbrev unload_text : ℕ → List ℕ
unload_text k = codes "unload" ++ 32 ∷ hexadecimal (image_address k)

unload_said : (k : ℕ) → IsSmall k → saying_in 1 (unload_text k) ≡ Ok (States (Unload (image_address k)))
unfolding saying_of statement_in unload_in
unload_said k few =
    rw (
      first_of (codes "unload") (hexadecimal (image_address k)) (free_by 32 (codes "unload") refl),
      one_part (hexadecimal (image_address k)) (space_free (image_address k) few),
      hex_number (image_address k) few,
      lt-ltb (image_address k) (2 ^ 64) few,
    ) refl

unload_free : (k : ℕ) → IsSmall k → IsFree 10 (unload_text k)
unload_free k few = free-append 10 (codes "unload ") (hexadecimal (image_address k)) (free_by 10 (codes "unload ") refl) (newline_free (image_address k) few)

unload_line_is : (k : ℕ) (more : List ℕ) → unload_line k ++ more ≡ unload_text k ++ 10 ∷ more
unload_line_is k more = ap (λ (xs : List ℕ). codes "unload" ++ 32 ∷ xs) (append_assoc (hexadecimal (image_address k)) (10 ∷ []) more)

-- the script so far
abbrev so_far : List NumberedStatement → DraftValue
so_far statements = draft_value Single [] (script_value statements MOST_NODES 1 default_values) true

-- one statement more, on a line of its own
one_line : (statements : List NumberedStatement) (n : ℕ) (text more : List ℕ) (statement : Statement) → IsFree 10 text → says_nothing text ≡ false → saying_in 1 text ≡ Ok (States statement)
    → with_line (so_far statements) n text ≡ Ok (so_far (statements ++ record { line = n; statement = statement } ∷ []))
    → with_lines (so_far statements) n (lines (text ++ 10 ∷ more)) ≡ with_lines (so_far (statements ++ record { line = n; statement = statement } ∷ [])) (n + 1) (lines more)
one_line statements n text more statement free some said read = goes_on (so_far statements) (so_far (statements ++ record { line = n; statement = statement } ∷ [])) n (text ++ 10 ∷ more) text more (line_first text more free) read

-- the loads
loads_read : (k : ℕ) (more : List ℕ) → k ≤ MOST_IMAGES → with_lines (so_far []) 2 (lines (joined load_line k ++ more)) ≡ with_lines (so_far (loads k)) (k + 2) (lines more)
unfolding joined loads
loads_read zero more few = refl
loads_read (suc k) more few =
    let less : k ≤ MOST_IMAGES = omega (arith, few) in
    let earlier = loads_read k (load_line k ++ more) less in
    let line : with_lines (so_far (loads k)) (k + 2) (lines (load_text k ++ 10 ∷ more)) ≡ with_lines (so_far (loads (suc k))) (k + 2 + 1) (lines more) =
    one_line (loads k) (k + 2) (load_text k) more (Load (image_address k) (image_name k)) (load_free k (small k less) (omega (arith, less))) refl (load_said k (small k less))
    (placed (so_far (loads k)) (k + 2) (load_text k) (States (Load (image_address k) (image_name k))) refl (load_said k (small k less)) refl) in
    let next : k + 2 + 1 ≡ suc k + 2 = omega arith in
    ap (λ (bytes : List ℕ). with_lines (so_far []) 2 (lines bytes)) (append_assoc (joined load_line k) (load_line k) more)
    ∙ earlier ∙ ap (λ (bytes : List ℕ). with_lines (so_far (loads k)) (k + 2) (lines bytes)) (load_line_is k more)
    ∙ line ∙ ap (λ (n : ℕ). with_lines (so_far (loads (suc k))) n (lines more)) next

-- the unloads, behind the loads
unloads_read : (images k : ℕ) (more : List ℕ) → k ≤ MOST_IMAGES
    → with_lines (so_far (loads images)) (images + 2) (lines (joined unload_lines k ++ more)) ≡ with_lines (so_far (loads images ++ unloads images k)) (images + 2 + length (unloads images k)) (lines more)
unfolding joined unloads
unloads_read images zero more few = rw (append-nil (loads images), add-zero (images + 2)) refl
unloads_read images (suc k) more few =
    ap (λ (bytes : List ℕ). with_lines (so_far (loads images)) (images + 2) (lines bytes)) (append_assoc (joined unload_lines k) (unload_lines k) more)
    ∙ unloads_read images k (unload_lines k ++ more) less ∙ of (k % UNLOAD_STRIDE == 0)
  where
    less : k ≤ MOST_IMAGES
    less = omega (arith, few)

    at : ℕ
    at = images + 2 + length (unloads images k)

    of : (b : Bool) → with_lines (so_far (loads images ++ unloads images k)) (images + 2 + length (unloads images k)) (lines ((if b then unload_line k else []) ++ more))
        ≡ with_lines (so_far (loads images ++ (if b then unloads images k ++ record { line = images + 2 + length (unloads images k); statement = Unload (image_address k) } ∷ [] else unloads images k)))
        (images + 2 + length (if b then unloads images k ++ record { line = images + 2 + length (unloads images k); statement = Unload (image_address k) } ∷ [] else unloads images k)) (lines more)
    of false = refl
    of true =
        let statements = loads images ++ unloads images k in
        let n = images + 2 + length (unloads images k) in
        let one : NumberedStatement = record { line = n; statement = Unload (image_address k) } in
        let next : n + 1 ≡ images + 2 + length (unloads images k ++ one ∷ []) = omega (arith, length-append (unloads images k) (one ∷ [])) in
        ap (λ (bytes : List ℕ). with_lines (so_far statements) n (lines bytes)) (unload_line_is k more)
        ∙ one_line statements n (unload_text k) more (Unload (image_address k)) (unload_free k (small k less)) refl (unload_said k (small k less))
        (placed (so_far statements) n (unload_text k) (States (Unload (image_address k))) refl (unload_said k (small k less)) refl)
        ∙ ap (λ (xs : List NumberedStatement). with_lines (so_far xs) (n + 1) (lines more)) (append_assoc (loads images) (unloads images k) (one ∷ []))
        ∙ ap (λ (m : ℕ). with_lines (so_far (loads images ++ (unloads images k ++ one ∷ []))) m (lines more)) next

-- loads and unloads write no file
loads_files : (k : ℕ) → files_of (loads k) ≡ []
unfolding loads
loads_files zero = refl
loads_files (suc k) = rw (files_more (loads k) (record { line = k + 2; statement = Load (image_address k) (image_name k) }), loads_files k) refl

unloads_files : (images k : ℕ) → files_of (unloads images k) ≡ []
unfolding unloads
unloads_files images zero = refl
unloads_files images (suc k) = of (unloads_files images k) (k % UNLOAD_STRIDE == 0)
  where
    of : files_of (unloads images k) ≡ [] → (b : Bool) → files_of (if b then unloads images k ++ record { line = images + 2 + length (unloads images k); statement = Unload (image_address k) } ∷ [] else unloads images k) ≡ []
    of none false = none
    of none true = rw (files_more (unloads images k) (record { line = images + 2 + length (unloads images k); statement = Unload (image_address k) }), none) refl

-- nor do they together
no_files : (images : ℕ) → files_of (loads images ++ unloads images images) ≡ []
no_files images = filter_map-append (λ x. file_of x.statement) (loads images) (unloads images images) ∙ ap (λ (fs : List (List ℕ)). fs ++ files_of (unloads images images)) (loads_files images) ∙ unloads_files images images

-- so the script writes one file
pub made_script_files : (images : ℕ) → files_of (made_script images).statements ≡ report_name ∷ []
made_script_files images =
    let last : NumberedStatement = record { line = images + 2 + length (unloads images images); statement = Report 0 report_name } in
    ap files_of (sym (append_assoc (loads images) (unloads images images) (last ∷ []))) ∙ files_more (loads images ++ unloads images images) last ∙ ap (λ (fs : List (List ℕ)). fs ++ report_name ∷ []) (no_files images)

-- the report
abbrev report_text : List ℕ
report_text = codes "report 0 " ++ report_name

report_said : saying_in 1 report_text ≡ Ok (States (Report 0 report_name))
unfolding saying_of statement_in report_in first_word
report_said = refl

report_free : IsFree 10 report_text
report_free = free_by 10 report_text refl

report_placed : (images : ℕ) → is_out_of_place (so_far (loads images ++ unloads images images)) (States (Report 0 report_name)) ≡ false
unfolding is_named
report_placed images = rw (no_files images) refl

-- the sizes
abbrev sizes_text : List ℕ
sizes_text = codes "table " ++ (decimal MOST_NODES ++ codes " 1")

sizes_said : saying_in 16 sizes_text ≡ Ok (Sizes MOST_NODES 1)
unfolding saying_of table_in first_word digits
sizes_said = refl

sizes_free : IsFree 10 sizes_text
unfolding digits
sizes_free = free_by 10 sizes_text refl

-- the whole script
pub made_script_read : MadeScriptsAreRead
unfolding script_in script_of digits joined
made_script_read images few =
    let report : List ℕ = report_line in
    let statements = loads images ++ unloads images images in
    let n = images + 2 + length (unloads images images) in
    let said : Statement = Report 0 report_name in
    let one : NumberedStatement = record { line = n; statement = said } in
    let first : with_lines (no_lines Single []) 1 (lines (sizes_line ++ (joined load_line images ++ (joined unload_lines images ++ report)))) ≡ with_lines (so_far []) 2 (lines (joined load_line images ++ (joined unload_lines images ++ report))) =
    goes_on (no_lines Single []) (so_far []) 1 (sizes_text ++ 10 ∷ (joined load_line images ++ (joined unload_lines images ++ report))) sizes_text (joined load_line images ++ (joined unload_lines images ++ report))
    (line_first sizes_text (joined load_line images ++ (joined unload_lines images ++ report)) sizes_free)
    (placed (no_lines Single []) 1 sizes_text (Sizes MOST_NODES 1) refl sizes_said refl) in
    let last : with_lines (so_far statements) n (lines (report_text ++ 10 ∷ [])) ≡ with_lines (so_far (statements ++ one ∷ [])) (n + 1) (lines []) =
    one_line statements n report_text [] said report_free refl report_said (placed (so_far statements) n report_text (States said) refl report_said (report_placed images)) in
    let all : with_lines (no_lines Single []) 1 (lines (sizes_line ++ (joined load_line images ++ (joined unload_lines images ++ report)))) ≡ Ok (so_far (statements ++ one ∷ [])) =
    first ∙ loads_read images (joined unload_lines images ++ report) few ∙ unloads_read images images report few ∙ last ∙ no_more (so_far (statements ++ one ∷ [])) (n + 1) in
    ap (λ (read : Result DraftValue Refusal). read >>= λ draft. Ok draft.script) all
    ∙ ap (λ (xs : List NumberedStatement). Ok (script_value xs MOST_NODES 1 default_values)) (append_assoc (loads images) (unloads images images) (one ∷ []))
  where
    no_more : (draft : DraftValue) (m : ℕ) → with_lines draft m (lines []) ≡ Ok draft
    no_more draft m = ends draft m [] refl
