-- Augmentation texts, letter by letter.
use Rattle.std.proofs.Common.{◌≡◌, ◌<◌, ℕ, zero, suc, ◌+◌, ◌-◌, ◌==◌, Bool, true, false, List, [], ◌∷◌, Option, Some, None, Ok, Err, Result, length, refl, ap, sym, ◌∙◌, arith}
use Rattle.std.specs.List.{list_all}
use Rattle.plcr_base.specs.Chains.{◌>>=◌, result_map}
use Rattle.plcr_leb128.specs.Cells.{Source}
use Rattle.plcr_dwarf_cfi.specs.declared.augmentations.TheConstants.{AUGMENTED}
use Rattle.plcr_dwarf_cfi.specs.declared.augmented.Augmentation.{Augmentation}
use Rattle.plcr_dwarf_cfi.specs.declared.augmented.Summary.{Summary}
use Rattle.plcr_dwarf_cfi.specs.declared.augmented.TextForm.{TextForm}
use Rattle.plcr_dwarf_cfi.specs.declared.augmented.TextForm.TheVariants.{Empty, Accepted, Refused}
use Rattle.plcr_dwarf_cfi.specs.declared.fault.CallFrameFault.{CallFrameFault}
use Rattle.plcr_dwarf_cfi.specs.declared.fault.CallFrameFault.TheVariants.{Truncated}
use Rattle.plcr_dwarf_cfi.specs.Entries.{accepted, augmentation_text, is_letter, letter_at, letter_read, never, text_of}
use Rattle.plcr_dwarf_cfi.specs.Lists.{Listed, fold_until, listed}
use Rattle.plcr_dwarf_cfi.specs.Sections.{Section}
use Rattle.plcr_dwarf_cfi.specs.inner.Texts.{summarized, summary, summary_of, unless, with_letter, with_letters}

-- once refused, a text stays so
stays_refused : (letters : List ℕ) → with_letters Refused letters ≡ Refused
stays_refused [] = refl
stays_refused (letter ∷ letters) = stays_refused letters

abbrev form_if : Bool → TextForm
form_if true = Accepted
form_if false = Refused

rest_step : (letter : ℕ) (letters : List ℕ) (b : Bool) → is_letter letter ≡ b → with_letters Accepted letters ≡ form_if (list_all is_letter letters)
    → with_letters Accepted (letter ∷ letters) ≡ form_if (list_all is_letter (letter ∷ letters))
rest_step letter letters true e behind = rw e behind
rest_step letter letters false e behind = rw e (stays_refused letters)

rest_form : (letters : List ℕ) → with_letters Accepted letters ≡ form_if (list_all is_letter letters)
rest_form [] = refl
rest_form (letter ∷ letters) = rest_step letter letters (is_letter letter) refl (rest_form letters)

-- whole texts
abbrev text_by : (letters : List ℕ) → ℕ → Result Summary CallFrameFault
text_by letters next = result_map summary (accepted (record { letters = letters; next = next }))

rest_whole : (letter : ℕ) (letters : List ℕ) (next : ℕ) (b : Bool) → (letter == AUGMENTED) ≡ true → list_all is_letter letters ≡ b
    → summary_of (form_if b) next ≡ text_by (letter ∷ letters) next
rest_whole letter letters next true first rest = rw (first, rest) refl
rest_whole letter letters next false first rest = rw (first, rest) refl

text_step : (letter : ℕ) (letters : List ℕ) (next : ℕ) (b : Bool) → (letter == AUGMENTED) ≡ b → summary_of (with_letters Empty (letter ∷ letters)) next ≡ text_by (letter ∷ letters) next
text_step letter letters next true first =
    let form : with_letters Empty (letter ∷ letters) ≡ form_if (list_all is_letter letters) = rw first (rest_form letters) in
    ap (λ f. summary_of f next) form ∙ rest_whole letter letters next (list_all is_letter letters) first refl
text_step letter letters next false first = rw first (rw (stays_refused letters) refl)

text_whole : (letters : List ℕ) (next : ℕ) → summary_of (with_letters Empty letters) next ≡ text_by letters next
text_whole [] next = refl
text_whole (letter ∷ letters) next = text_step letter letters next (letter == AUGMENTED) refl

whole_by : (start : ℕ) (items : List ℕ) (fault : Option CallFrameFault)
    → summarized Empty start (record { items = items; fault = fault }) ≡ result_map summary (text_of start (record { items = items; fault = fault }) >>= accepted)
whole_by start items None = text_whole items (start + length items + 1)
whole_by start items (Some fault) = refl

pub text_start : (s : Section) (start : ℕ) → summarized Empty start (listed (letter_at s.cells) (s.size - 0) start) ≡ result_map summary (augmentation_text s start)
text_start s start =
    let all : s.size - 0 ≡ s.size = omega arith in
    let list : Listed ℕ = listed (letter_at s.cells) s.size start in
    ap (λ n. summarized Empty start (listed (letter_at s.cells) n start)) all ∙ whole_by start list.items list.fault

-- letter by letter
pub one_more : (n done : ℕ) → done < n → n - done ≡ suc (n - (done + 1))
one_more n done h = omega arith

summarized_more : (form : TextForm) (letter place : ℕ) (list : Listed ℕ)
    → summarized form place (record { items = letter ∷ list.items; fault = list.fault }) ≡ summarized (with_letter form letter) (place + 1) list
summarized_more form letter place list =
    let e : place + suc (length list.items) + 1 ≡ (place + 1) + length list.items + 1 = omega arith in
    ap (λ (next : ℕ). unless list.fault (summary_of (with_letters (with_letter form letter) list.items) next)) e

pub text_goes : (source : Source) (form : TextForm) (n done place letter next : ℕ) → done < n → letter_at source place ≡ Ok (Some (letter, next)) → next ≡ place + 1
    → summarized form place (listed (letter_at source) (n - done) place) ≡ summarized (with_letter form letter) next (listed (letter_at source) (n - (done + 1)) next)
text_goes source form n done place letter next more step behind =
    ap (λ k. summarized form place (listed (letter_at source) k place)) (one_more n done more)
    ∙ rw step (summarized_more form letter place (listed (letter_at source) (n - (done + 1)) next) ∙ ap (λ k. summarized (with_letter form letter) k (listed (letter_at source) (n - (done + 1)) next)) (sym behind))

pub text_ends : (source : Source) (form : TextForm) (n done place : ℕ) → done < n → letter_at source place ≡ Ok None
    → summarized form place (listed (letter_at source) (n - done) place) ≡ summary_of form (place + 1)
text_ends source form n done place more step =
    let e : place + 0 + 1 ≡ place + 1 = omega arith in
    ap (λ k. summarized form place (listed (letter_at source) k place)) (one_more n done more) ∙ rw step (ap (summary_of form) e)

pub text_fails : (source : Source) (form : TextForm) (n done place : ℕ) (fault : CallFrameFault) → done < n → letter_at source place ≡ Err fault
    → summarized form place (listed (letter_at source) (n - done) place) ≡ Err fault
text_fails source form n done place fault more step =
    ap (λ k. summarized form place (listed (letter_at source) k place)) (one_more n done more) ∙ rw step refl

pub text_out : (source : Source) (form : TextForm) (n place : ℕ) → summarized form place (listed (letter_at source) (n - n) place) ≡ Err Truncated
text_out source form n place =
    let none : n - n ≡ zero = omega arith in
    ap (λ k. summarized form place (listed (letter_at source) k place)) none ∙ refl

-- augmentation data, letter by letter
abbrev pub letters_from : Section → ℕ → ℕ → Augmentation → Result Augmentation CallFrameFault
letters_from s n place a = fold_until (letter_read s) never (listed (letter_at s.cells) n place).items None a

pub letters_go : (s : Section) (n done place letter next : ℕ) (a read : Augmentation) → done < n → letter_at s.cells place ≡ Ok (Some (letter, next)) → letter_read s letter a ≡ Ok read
    → letters_from s (n - done) place a ≡ letters_from s (n - (done + 1)) next read
letters_go s n done place letter next a read more step goes =
    ap (λ k. letters_from s k place a) (one_more n done more) ∙ rw (step, goes) refl

pub letters_fail : (s : Section) (n done place letter next : ℕ) (a : Augmentation) (fault : CallFrameFault) → done < n → letter_at s.cells place ≡ Ok (Some (letter, next)) → letter_read s letter a ≡ Err fault
    → letters_from s (n - done) place a ≡ Err fault
letters_fail s n done place letter next a fault more step fails =
    ap (λ k. letters_from s k place a) (one_more n done more) ∙ rw (step, fails) refl

pub letters_end : (s : Section) (n done place : ℕ) (a : Augmentation) → done < n → letter_at s.cells place ≡ Ok None → letters_from s (n - done) place a ≡ Ok a
letters_end s n done place a more step = ap (λ k. letters_from s k place a) (one_more n done more) ∙ rw step refl

pub letters_cut : (s : Section) (n done place : ℕ) (a : Augmentation) (fault : CallFrameFault) → done < n → letter_at s.cells place ≡ Err fault → letters_from s (n - done) place a ≡ Ok a
letters_cut s n done place a fault more step = ap (λ k. letters_from s k place a) (one_more n done more) ∙ rw step refl

pub letters_out : (s : Section) (n place : ℕ) (a : Augmentation) → letters_from s (n - n) place a ≡ Ok a
letters_out s n place a =
    let none : n - n ≡ zero = omega arith in
    ap (λ k. letters_from s k place a) none ∙ refl

pub letters_start : (s : Section) (n place : ℕ) (a : Augmentation) → letters_from s (n - 0) place a ≡ letters_from s n place a
letters_start s n place a =
    let all : n - 0 ≡ n = omega arith in
    ap (λ k. letters_from s k place a) all
