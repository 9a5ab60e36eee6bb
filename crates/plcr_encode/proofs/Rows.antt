-- How a loop writes the rows of a repeated field, one after the other.
use Rattle.std.proofs.Common.{◌≡◌, ℕ, suc, ◌+◌, ◌-◌, ◌<◌, List, [], ◌∷◌, ◌++◌, length, map, drop, get_or, refl, ap, sym, subst, ◌∙◌, append_assoc, append-nil, length-append, drop-cons, add-one, arith, if◌then◌else◌}
use Rattle.std.specs.List.{range_with_len, enumerate_from}
use Rattle.plcr_wire.specs.Pen.{Pen, Wrote}
use Rattle.plcr_wire.specs.Message.{Field, spelling, field_spelling, number_field}
use Rattle.plcr_report.specs.declared.messages.Thread.{Thread}
use Rattle.plcr_report.specs.Messages.{each, frame_message, register_message, thread_message}
use Rattle.plcr_encode.specs.inner.Rows.{message_field, message_fields}
use native.Mathlib.Numerals.{unary_clauses}
use Rattle.plcr_wire.proofs.Writing.{wrote_none, wrote_twice}

-- a front of these bytes was written, and the rest of them is left
pub record WroteUpTo (old new : Pen) (bytes rest : List ℕ) : Type 0 where
  pub front : List ℕ
  pub parts : bytes ≡ front ++ rest
  pub wrote : Wrote old new front

pub up_to_start : (pen : Pen) (bytes : List ℕ) → WroteUpTo pen pen bytes bytes
up_to_start pen bytes = record { front = []; parts = refl; wrote = wrote_none pen }

-- one more row of what is left
pub up_to_more : (old mid new : Pen) (bytes left row rest : List ℕ) → left ≡ row ++ rest → WroteUpTo old mid bytes left → Wrote mid new row → WroteUpTo old new bytes rest
up_to_more old mid new bytes left row rest e before wrote = record {
  front = before.front ++ row;
  parts = before.parts ∙ ap (λ l. before.front ++ l) e ∙ sym (append_assoc before.front row rest);
  wrote = wrote_twice old mid new before.front row before.wrote wrote;
}

-- no row is left
pub up_to_end : (old new : Pen) (bytes : List ℕ) → WroteUpTo old new bytes [] → Wrote old new bytes
up_to_end old new bytes all = subst (Wrote old new) (sym (all.parts ∙ append-nil all.front)) all.wrote

pub spelling-append : (xs ys : List Field) → spelling (xs ++ ys) ≡ spelling xs ++ spelling ys
spelling-append [] ys = refl
spelling-append (x ∷ xs) ys = ap (λ l. field_spelling x ++ l) (spelling-append xs ys) ∙ sym (append_assoc (field_spelling x) (spelling xs) (spelling ys))

-- the fields that stand in the row of a repeated message
pub fields-each : {A : Type 0} (number : ℕ) (message : A → List Field) (xs : List A) → map (λ v. record { number = number; value = v }) (each message xs) ≡ message_fields number message xs
fields-each number message [] = refl
fields-each number message (x ∷ xs) = ap (λ l. message_field number (message x) ∷ l) (fields-each number message xs)

-- the fields of a thread, part by part
pub spelling-thread : (t : Thread) → spelling (thread_message t) ≡ field_spelling (number_field 1 t.thread_number) ++ (spelling (message_fields 2 frame_message t.frames) ++ (field_spelling (number_field 3 (if t.crashed then 1 else 0)) ++ spelling (message_fields 4 register_message t.registers)))
unfolding thread_message
spelling-thread t =
    simp (fields-each, append-nil, spelling-append) refl

-- the first number of a range that isn't empty
pub range_step : (i n : ℕ) → i < n → range_with_len i (n - i) ≡ i ∷ range_with_len (i + 1) (n - (i + 1))
range_step i n h = let e : n - i ≡ suc (n - (i + 1)) = omega arith in rw e (rw add-one refl)

-- the first item of a list that isn't at its end, with its number
pub numbered_step : {A : Type 0} (xs : List A) (i : ℕ) (d : A) → i < length xs → enumerate_from i (drop i xs) ≡ (i, get_or xs i d) ∷ enumerate_from (i + 1) (drop (i + 1) xs)
numbered_step xs i d h = rw (drop-cons xs i d) (simp unary_clauses refl)

module _ {A : Type 0} (field : ℕ) (message : A → List Field) where
  -- what stands for the rows of these values
  abbrev pub rows_of : List A → List ℕ
  rows_of xs = spelling (message_fields field message xs)

  -- the first of the rows that are left of values at a range of numbers
  pub ranged_left : (at : ℕ → A) (i n : ℕ) → i < n → rows_of (map at (range_with_len i (n - i))) ≡ field_spelling (message_field field (message (at i))) ++ rows_of (map at (range_with_len (i + 1) (n - (i + 1))))
  ranged_left at i n h = ap (λ ks. rows_of (map at ks)) (range_step i n h)

  -- the first of the rows that are left of a list's numbered items
  pub numbered_left : {B : Type 0} (at : ℕ × B → A) (xs : List B) (i : ℕ) (d : B) → i < length xs → rows_of (map at (enumerate_from i (drop i xs))) ≡ field_spelling (message_field field (message (at (i, get_or xs i d)))) ++ rows_of (map at (enumerate_from (i + 1) (drop (i + 1) xs)))
  numbered_left at xs i d h = ap (λ ys. rows_of (map at ys)) (numbered_step xs i d h)

  -- the first of the rows that are left of a list's items
  pub items_left : {B : Type 0} (at : B → A) (xs : List B) (i : ℕ) (d : B) → i < length xs → rows_of (map at (drop i xs)) ≡ field_spelling (message_field field (message (at (get_or xs i d)))) ++ rows_of (map at (drop (i + 1) xs))
  items_left at xs i d h = let e : drop i xs ≡ get_or xs i d ∷ drop (i + 1) xs = rw (add-one, drop-cons xs i d) refl in ap (λ ys. rows_of (map at ys)) e

-- one more row is counted
pub sized_more : (done n : ℕ) (all left row rest : List ℕ) → done + length left ≡ length all → left ≡ row ++ rest → n ≡ length row → done + n + length rest ≡ length all
sized_more done n all left row rest before parts size = let both : length left ≡ length row + length rest = ap length parts ∙ length-append row rest in omega arith
