-- What is spelled is read again, field by field: each field fits, and is known in its message.
use Rattle.std.proofs.Common.{◌≡◌, ℕ, ◌-◌, ◌^◌, ◌<◌, ◌==◌, ◌&&◌, List, [], ◌∷◌, ◌++◌, length, map, Option, Some, None, Result, Ok, Bool, cond, true, false, nat_lt, refl, ap, ◌∙◌, append-nil, arith}
use Rattle.std.proofs.lemmas.Bool.Decides.{nat_tests}
use Rattle.std.specs.List.{AllByRecursion}
use Rattle.std.specs.Option.{IfSome}
use Rattle.plcr_wire.specs.Message.{Value, Number, Bytes, Field, spelling, field_spelling, FitsField}
use Rattle.plcr_wire.proofs.ReadAgain.{field_again}
use Rattle.plcr_report.specs.Schema.{rule}
use Rattle.plcr_report.specs.Messages.{each, maybe}
use Rattle.plcr_report.specs.declared.kinds.Kind.{Kind}
use Rattle.plcr_report.specs.declared.kinds.Holds.{Holds}
use Rattle.plcr_report.specs.declared.kinds.Holds.TheVariants as holds
use Rattle.plcr_decode.specs.declared.faults.DecodeFault.{DecodeFault}
use Rattle.plcr_decode.specs.Fields.{fields_of, messages_in, last_or}
use Rattle.plcr_decode.specs.Scan.{fits, inside, Step, step_at, scan}
use Rattle.plcr_decode.specs.Required.{each_whole}
use Rattle.plcr_decode.proofs.Listed.{fields_none, fields_step}
use Rattle.plcr_decode.proofs.Scans.{scan_none, scan_more, inside_rest}
use Rattle.plcr_wire.proofs.Smaller.{field_smaller}

-- a field that is read again, and has no fault in its message
pub record IsGood (kind : Kind) (f : Field) : Type 0 where
  pub fit : FitsField f
  pub right : fits (rule kind f.number) f.value ≡ true
  pub clean : (end : ℕ) (rest : List ℕ) → scan (inside kind (rule kind f.number) f.value rest).kind end (inside kind (rule kind f.number) f.value rest).text ≡ Ok tt

-- all fields of a message are
abbrev pub AreGood : Kind → List Field → Type 0
AreGood kind fs = AllByRecursion (IsGood kind) fs

if_true : (b : Bool) {A : Type 0} (x y : A) → b ≡ true → cond b x y ≡ x
if_true true x y h = refl
if_true false x y h = absurd (cc)

pub fields_again : (kind : Kind) (fs : List Field) → AreGood kind fs → fields_of (spelling fs) ≡ fs
fields_again kind [] good = fields_none
fields_again kind (f ∷ fs) good =
    fields_step (field_spelling f ++ spelling fs) (f, spelling fs) (field_again _ f (spelling fs) good.0.fit)
    ∙ ap (λ l. f ∷ l) (fields_again kind fs good.1)

step_again : (kind : Kind) (end : ℕ) (f : Field) (rest : List ℕ) → IsGood kind f → step_at kind end (field_spelling f ++ rest) ≡ Ok (inside kind (rule kind f.number) f.value rest)
unfolding step_at
step_again kind end f rest good = rw (field_again end f rest good.fit) (if_true (fits (rule kind f.number) f.value) _ _ good.right)

spelled_some : (kind : Kind) (f : Field) (rest : List ℕ) → IsGood kind f → 0 < length (field_spelling f ++ rest)
spelled_some kind f rest good = let less = field_smaller 0 (field_spelling f ++ rest) (f, rest) (field_again 0 f rest good.fit) in omega arith

pub scan_again : (kind : Kind) (end : ℕ) (fs : List Field) → AreGood kind fs → scan kind end (spelling fs) ≡ Ok tt
scan_again kind end [] good = scan_none kind end
scan_again kind end (f ∷ fs) good =
    let s : Step = inside kind (rule kind f.number) f.value (spelling fs) in
    scan_more kind end (field_spelling f ++ spelling fs) s (spelled_some kind f (spelling fs) good.0) (step_again kind end f (spelling fs) good.0) (good.0.clean (end - length s.rest) (spelling fs))
    ∙ (ap (scan kind end) (inside_rest kind (rule kind f.number) f.value (spelling fs)) ∙ scan_again kind end fs good.1)

pub good_append : (kind : Kind) (xs ys : List Field) → AreGood kind xs → AreGood kind ys → AreGood kind (xs ++ ys)
good_append kind [] ys p q = q
good_append kind (x ∷ xs) ys p q = (p.0, good_append kind xs ys p.1 q)

-- the number of a field
abbrev pub is_field : ℕ → Bool
is_field n = nat_lt 0 n && nat_lt n (2 ^ 29)

field_some : (n : ℕ) → is_field n ≡ true → 0 < n
field_some n h = grind (arith, nat_tests)

field_within : (n : ℕ) → is_field n ≡ true → n < 2 ^ 29
field_within n h = grind (arith, nat_tests)

clean_number : (kind : Kind) (h : Option Holds) (v : Value) → h ≡ Some holds.Number → (end : ℕ) (rest : List ℕ) → scan (inside kind h v rest).kind end (inside kind h v rest).text ≡ Ok tt
clean_number kind h v e end rest = rw e (scan_none kind end)

clean_text : (kind : Kind) (h : Option Holds) (v : Value) → h ≡ Some holds.Text → (end : ℕ) (rest : List ℕ) → scan (inside kind h v rest).kind end (inside kind h v rest).text ≡ Ok tt
clean_text kind h v e end rest = rw e (scan_none kind end)

clean_message : (kind inner : Kind) (h : Option Holds) (fs : List Field) → h ≡ Some (holds.Message inner) → AreGood inner fs → (end : ℕ) (rest : List ℕ) → scan (inside kind h (Bytes (spelling fs)) rest).kind end (inside kind h (Bytes (spelling fs)) rest).text ≡ Ok tt
clean_message kind inner h fs e good end rest = rw e (scan_again inner end fs good)

pub good_number : (kind : Kind) (n v : ℕ) → rule kind n ≡ Some holds.Number → is_field n ≡ true → v < 2 ^ 64 → IsGood kind (record { number = n; value = Number v })
good_number kind n v e field h = record {
  fit = record { some = field_some n field; within = field_within n field; fits = h };
  right = rw e refl;
  clean = clean_number kind (rule kind n) (Number v) e;
}

pub good_text : (kind : Kind) (n : ℕ) (bytes : List ℕ) → rule kind n ≡ Some holds.Text → is_field n ≡ true → length bytes < 2 ^ 64 → IsGood kind (record { number = n; value = Bytes bytes })
good_text kind n bytes e field h = record {
  fit = record { some = field_some n field; within = field_within n field; fits = h };
  right = rw e refl;
  clean = clean_text kind (rule kind n) (Bytes bytes) e;
}

-- A message says this value: it is read again, lacks nothing, and has the value.
pub record Says {A : Type 0} (kind : Kind) (whole : List Field → Result (Unit {0}) DecodeFault) (value : List Field → A) (fs : List Field) (x : A) : Type 0 where
  pub good : AreGood kind fs
  pub lacks_none : whole fs ≡ Ok tt
  pub gives : value fs ≡ x
  pub short : length (spelling fs) < 2 ^ 64

module _ {A : Type 0} (inner : Kind) (whole : List Field → Result (Unit {0}) DecodeFault) (value : List Field → A) where
  -- a field that holds a message
  pub good_message : (kind : Kind) (n : ℕ) (fs : List Field) (x : A) → rule kind n ≡ Some (holds.Message inner) → is_field n ≡ true → Says inner whole value fs x → IsGood kind (record { number = n; value = Bytes (spelling fs) })
  good_message kind n fs x e field says = record {
    fit = record { some = field_some n field; within = field_within n field; fits = says.short };
    right = rw e refl;
    clean = clean_message kind inner (rule kind n) fs e says.good;
  }

  -- the fields that hold a message for each of these
  abbrev pub rows_of : ℕ → (A → List Field) → List A → List Field
  rows_of n message xs = map (λ v. record { number = n; value = v }) (each message xs)

  module _ (message : A → List Field) (Fits : A → Type 0) (says : (x : A) → Fits x → Says inner whole value (message x) x) where
    pub good_rows : (kind : Kind) (n : ℕ) (xs : List A) → rule kind n ≡ Some (holds.Message inner) → is_field n ≡ true → AllByRecursion Fits xs → AreGood kind (rows_of n message xs)
    good_rows kind n [] e field fits = tt
    good_rows kind n (x ∷ xs) e field fits = (good_message kind n (message x) x e field (says x fits.0), good_rows kind n xs e field fits.1)

    -- the messages that stand in them
    pub rows_messages : (n : ℕ) (xs : List A) (fs : List Field) → (n == n) ≡ true → AllByRecursion Fits xs → messages_in n (rows_of n message xs ++ fs) ≡ map message xs ++ messages_in n fs
    rows_messages n [] fs e fits = refl
    rows_messages n (x ∷ xs) fs e fits =
        rw e (ap (λ l. l ∷ messages_in n (rows_of n message xs ++ fs)) (fields_again inner (message x) (says x fits.0).good)
        ∙ ap (λ l. message x ∷ l) (rows_messages n xs fs e fits.1))

    -- each lacks nothing and has its value
    pub rows_whole : (xs : List A) → AllByRecursion Fits xs → each_whole whole (map message xs) ≡ Ok tt
    rows_whole [] fits = refl
    rows_whole (x ∷ xs) fits = rw ((says x fits.0).lacks_none) (rows_whole xs fits.1)

    pub rows_values : (xs : List A) → AllByRecursion Fits xs → map value (map message xs) ≡ xs
    rows_values [] fits = refl
    rows_values (x ∷ xs) fits = ap (λ y. y ∷ map value (map message xs)) (says x fits.0).gives ∙ ap (λ l. x ∷ l) (rows_values xs fits.1)

  -- they hold no message of another number, and no value of it
  pub rows_others : (message : A → List Field) (m n : ℕ) (xs : List A) (fs : List Field) → (m == n) ≡ false → messages_in n (rows_of m message xs ++ fs) ≡ messages_in n fs
  rows_others message m n [] fs e = refl
  rows_others message m n (x ∷ xs) fs e = rw e (rows_others message m n xs fs e)

  pub rows_last : (message : A → List Field) (m n : ℕ) (before : Option Value) (xs : List A) (fs : List Field) → (m == n) ≡ false → last_or before n (rows_of m message xs ++ fs) ≡ last_or before n fs
  rows_last message m n before [] fs e = refl
  rows_last message m n before (x ∷ xs) fs e =
      ap (λ (b : Bool). last_or (cond b (Some (Bytes (spelling (message x)))) before) n (rows_of m message xs ++ fs)) e ∙ rows_last message m n before xs fs e

  -- one message alone
  pub one_whole_again : (fs : List Field) (x : A) → Says inner whole value fs x → whole (fields_of (spelling fs) ++ []) ≡ Ok tt
  one_whole_again fs x says = ap whole (append-nil (fields_of (spelling fs)) ∙ fields_again inner fs says.good) ∙ says.lacks_none

  pub one_value_again : (fs : List Field) (x : A) → Says inner whole value fs x → value (fields_of (spelling fs) ++ []) ≡ x
  one_value_again fs x says = ap value (append-nil (fields_of (spelling fs)) ∙ fields_again inner fs says.good) ∙ says.gives

  -- a message that stands there or not
  pub good_maybe_message : (message : A → List Field) (Fits : A → Type 0) → ((x : A) → Fits x → Says inner whole value (message x) x) → (kind : Kind) (n : ℕ) (o : Option A) (fs : List Field)
      → rule kind n ≡ Some (holds.Message inner) → is_field n ≡ true → IfSome o Fits → AreGood kind fs → AreGood kind (map (λ v. record { number = n; value = v }) (maybe (λ x. Bytes (spelling (message x)) ∷ []) o) ++ fs)
  good_maybe_message message Fits says kind n None fs e field fits good = good
  good_maybe_message message Fits says kind n (Some x) fs e field fits good = (good_message kind n (message x) x e field (says x fits), good)

-- a number that stands there or not
pub good_maybe_number : (kind : Kind) (n : ℕ) (o : Option ℕ) (fs : List Field) → rule kind n ≡ Some holds.Number → is_field n ≡ true → IfSome o (λ v. v < 2 ^ 64) → AreGood kind fs → AreGood kind (map (λ v. record { number = n; value = v }) (maybe (λ v. Number v ∷ []) o) ++ fs)
good_maybe_number kind n None fs e field fits good = good
good_maybe_number kind n (Some v) fs e field fits good = (good_number kind n v e field fits, good)

-- a text that stands there or not
pub good_maybe_text : (kind : Kind) (n : ℕ) (o : Option (List ℕ)) (fs : List Field) → rule kind n ≡ Some holds.Text → is_field n ≡ true → IfSome o (λ bytes. length bytes < 2 ^ 64) → AreGood kind fs → AreGood kind (map (λ v. record { number = n; value = v }) (maybe (λ bytes. Bytes bytes ∷ []) o) ++ fs)
good_maybe_text kind n None fs e field fits good = good
good_maybe_text kind n (Some bytes) fs e field fits good = (good_text kind n bytes e field fits, good)
