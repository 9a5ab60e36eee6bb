-- Tables whose entries don't fall.
use Rattle.std.proofs.Common.{◌≡◌, ◌≤◌, ◌<◌, ℕ, zero, suc, ◌+◌, ◌-◌, ◌*◌, Bool, true, false, ◌||◌, ◌&&◌, List, [], ◌∷◌, length, take, Option, Some, None, Ok, Err, refl, sym, ap, subst, ◌∙◌, arith}
use Rattle.std.specs.Prelude.{slice_get, nat_lt, nat_le, IsOk, IfSome, if◌then◌else◌}
use Rattle.std.proofs.Math.Nat.{mul-add, mul-suc}
use Rattle.std.proofs.lemmas.Bool.{le-leb, lt-leb, or_parts}
use Rattle.std.proofs.lemmas.Bool.Decides.{nat_tests}
use Rattle.plcr_base.specs.Chains.{◌>>=◌, result_map}
use Rattle.plcr_compact.specs.declared.bad.TheConstants.{FALLING_OFFSETS}
use Rattle.plcr_leb128.specs.Cells.{Source}
use Rattle.plcr_compact.specs.declared.entry_kind.EntryKind.{EntryKind}
use Rattle.plcr_compact.specs.declared.section.Entry.{Entry}
use Rattle.plcr_compact.specs.declared.section.Table.{Table}
use Rattle.plcr_compact.specs.inner.Searches.{entries_in, entry_by, lawful_in, size_by}
use Rattle.plcr_compact.specs.Tables.{Answer, best_of, better, chosen, entries_at, falls, falls_from, lawful}

-- whether entries fall, of which some were seen: one of them fell, or those behind do from the last of them
pub falls_on : Bool → ℕ → List Entry → Bool
falls_on fell before es = fell || falls_from before es

-- one entry more
more : (fell : Bool) (before : ℕ) (e : Entry) (rest : Answer (List Entry))
    → result_map (falls_on fell before) (rest >>= λ es. Ok (e ∷ es)) ≡ result_map (falls_on (fell || nat_lt e.function before) e.function) rest
unfolding falls_on
more true before e (Err b) = refl
more false before e (Err b) = refl
more true before e (Ok es) = refl
more false before e (Ok es) = refl

pub falls_more : (read : ℕ → Answer Entry) (size count place : ℕ) (fell : Bool) (before : ℕ) (e : Entry) → read place ≡ Ok e
    → result_map (falls_on fell before) (entries_at read size (suc count) place) ≡ result_map (falls_on (fell || nat_lt e.function before) e.function) (entries_at read size count (place + size))
falls_more read size count place fell before e there = rw there (more fell before e (entries_at read size count (place + size)))

pub falls_bad : (read : ℕ → Answer Entry) (size count place : ℕ) (fell : Bool) (before bad : ℕ) → read place ≡ Err bad
    → result_map (falls_on fell before) (entries_at read size (suc count) place) ≡ Err bad
falls_bad read size count place fell before bad there = rw there refl

-- the entries of a table from an index on
unfoldable pub rest_in : Source → EntryKind → Table → ℕ → Answer (List Entry)
rest_in section kind table index = entries_at (entry_by kind section) (size_by kind) (table.count - index) (table.at + size_by kind * index)

rest_suc : (section : Source) (kind : EntryKind) (table : Table) (index : ℕ) → index < table.count
    → rest_in section kind table index ≡ entries_at (entry_by kind section) (size_by kind) (suc (table.count - (index + 1))) (table.at + size_by kind * index)
unfolding rest_in
rest_suc section kind table index h =
    let one : table.count - index ≡ suc (table.count - (index + 1)) = omega arith in
    ap (λ (n : ℕ). entries_at (entry_by kind section) (size_by kind) n (table.at + size_by kind * index)) one

rest_next : (section : Source) (kind : EntryKind) (table : Table) (index : ℕ)
    → entries_at (entry_by kind section) (size_by kind) (table.count - (index + 1)) ((table.at + size_by kind * index) + size_by kind) ≡ rest_in section kind table (index + 1)
unfolding rest_in
rest_next section kind table index =
    let place : (table.at + size_by kind * index) + size_by kind ≡ table.at + size_by kind * (index + 1) = omega (arith, mul-add (size_by kind) index 1) in
    ap (λ (p : ℕ). entries_at (entry_by kind section) (size_by kind) (table.count - (index + 1)) p) place

pub rest_start : (section : Source) (kind : EntryKind) (table : Table) → result_map (falls_on false 0) (rest_in section kind table 0) ≡ result_map falls (entries_in section kind table)
unfolding rest_in entries_in falls_on
rest_start section kind table =
    let place : table.at + size_by kind * 0 ≡ table.at = omega arith in
    let all : table.count - 0 ≡ table.count = omega arith in
    ap (λ (p : ℕ). result_map falls (entries_at (entry_by kind section) (size_by kind) (table.count - 0) p)) place
    ∙ ap (λ (n : ℕ). result_map falls (entries_at (entry_by kind section) (size_by kind) n table.at)) all

pub rest_more : (section : Source) (kind : EntryKind) (table : Table) (index : ℕ) (fell : Bool) (before : ℕ) (e : Entry) → index < table.count
    → entry_by kind section (table.at + size_by kind * index) ≡ Ok e
    → result_map (falls_on fell before) (rest_in section kind table index) ≡ result_map (falls_on (fell || nat_lt e.function before) e.function) (rest_in section kind table (index + 1))
rest_more section kind table index fell before e h there =
    ap (result_map (falls_on fell before)) (rest_suc section kind table index h)
    ∙ falls_more (entry_by kind section) (size_by kind) (table.count - (index + 1)) (table.at + size_by kind * index) fell before e there
    ∙ ap (result_map (falls_on (fell || nat_lt e.function before) e.function)) (rest_next section kind table index)

pub rest_bad : (section : Source) (kind : EntryKind) (table : Table) (index : ℕ) (fell : Bool) (before bad : ℕ) → index < table.count
    → entry_by kind section (table.at + size_by kind * index) ≡ Err bad
    → result_map (falls_on fell before) (rest_in section kind table index) ≡ Err bad
rest_bad section kind table index fell before bad h there =
    ap (result_map (falls_on fell before)) (rest_suc section kind table index h)
    ∙ falls_bad (entry_by kind section) (size_by kind) (table.count - (index + 1)) (table.at + size_by kind * index) fell before bad there

pub rest_end : (section : Source) (kind : EntryKind) (table : Table) (index : ℕ) (fell : Bool) (before : ℕ) → table.count ≤ index
    → result_map (falls_on fell before) (rest_in section kind table index) ≡ Ok fell
unfolding rest_in falls_on
rest_end section kind table index fell before h =
    let none : table.count - index ≡ zero = omega arith in
    ap (λ (n : ℕ). result_map (falls_on fell before) (entries_at (entry_by kind section) (size_by kind) n (table.at + size_by kind * index))) none ∙ ap Ok (or_false fell)
  where
    or_false : (b : Bool) → (b || false) ≡ b
    or_false true = refl
    or_false false = refl

-- what is said of all entries, once it is known whether they fall
pub checked_falls : (es : Answer (List Entry)) → result_map falls es ≡ Ok true → result_map (λ _. tt {0}) (es >>= lawful) ≡ Err FALLING_OFFSETS
unfolding lawful
checked_falls (Ok es) h = let fall : falls es ≡ true = cc in rw fall refl
checked_falls (Err b) h = cc

pub checked_rises : (es : Answer (List Entry)) → result_map falls es ≡ Ok false → result_map (λ _. tt {0}) (es >>= lawful) ≡ Ok (tt {0})
unfolding lawful
checked_rises (Ok es) h = let rise : falls es ≡ false = cc in rw rise refl
checked_rises (Err b) h = cc

pub checked_bad : (es : Answer (List Entry)) (b : ℕ) → result_map falls es ≡ Err b → result_map (λ _. tt {0}) (es >>= lawful) ≡ Err b
checked_bad (Ok es) b h = cc
checked_bad (Err a) b h = let same : a ≡ b = cc in rw same refl

-- a table that was checked has its entries
chain_ok : (r : Answer Entry) (rest : Answer (List Entry)) (es : List Entry) → (r >>= λ e. rest >>= λ fs. Ok (e ∷ fs)) ≡ Ok es
    → (e : Entry) × (fs : List Entry) × (r ≡ Ok e) × (rest ≡ Ok fs) × (es ≡ e ∷ fs)
chain_ok (Err b) rest es h = let e = h in cc
chain_ok (Ok e) (Err b) es h = let f = h in cc
chain_ok (Ok e) (Ok fs) es h = (e, fs, refl, refl, cc)

entry_there : (read : ℕ → Answer Entry) (size count place : ℕ) (es : List Entry) (k : ℕ) → entries_at read size count place ≡ Ok es → k < count
    → (e : Entry) × (read (place + size * k) ≡ Ok e) × (slice_get es k ≡ Some e)
entry_there read size zero place es k h within = absurd (omega arith)
entry_there read size (suc count) place es zero h within =
    let c = chain_ok (read place) (entries_at read size count (place + size)) es h in
    let here : place ≡ place + size * 0 = omega arith in
    (c.0, subst (λ (p : ℕ). read p ≡ Ok c.0) here c.2, ap (λ (xs : List Entry). slice_get xs 0) c.4)
entry_there read size (suc count) place es (suc k) h within =
    let c = chain_ok (read place) (entries_at read size count (place + size)) es h in
    let t = entry_there read size count (place + size) c.1 k c.3 (omega arith) in
    let there : (place + size) + size * k ≡ place + size * suc k = omega (arith, mul-suc size k) in
    (t.0, subst (λ (p : ℕ). read p ≡ Ok t.0) there t.1, ap (λ (xs : List Entry). slice_get xs (suc k)) c.4 ∙ t.2)

-- entries that are lawful are those that were read, and don't fall
lawful_ok : (r : Answer (List Entry)) (es : List Entry) → (r >>= lawful) ≡ Ok es → (r ≡ Ok es) × (falls es ≡ false)
unfolding lawful
lawful_ok (Err b) es h = let e = h in cc
lawful_ok (Ok fs) es h = by_test (falls fs) fs es refl h
  where
    by_test : (b : Bool) (fs es : List Entry) → falls fs ≡ b → (if b then Err FALLING_OFFSETS else Ok fs) ≡ Ok es → (◌≡◌ {A = Answer (List Entry)} (Ok fs) (Ok es)) × (falls es ≡ false)
    by_test true fs es t h = let e = h in cc
    by_test false fs es t h = let same : fs ≡ es = cc in (ap Ok same, subst (λ (xs : List Entry). falls xs ≡ false) same t)

entries_count : (read : ℕ → Answer Entry) (size count place : ℕ) (es : List Entry) → entries_at read size count place ≡ Ok es → length es ≡ count
entries_count read size zero place es h =
    let none : [] ≡ es = cc in
    sym (ap length none)
entries_count read size (suc count) place es h =
    let c = chain_ok (read place) (entries_at read size count (place + size)) es h in
    ap length c.4 ∙ ap (λ (n : ℕ). suc n) (entries_count read size count (place + size) c.1 c.3)

pub lawful_count : (section : Source) (kind : EntryKind) (table : Table) (es : List Entry) → lawful_in section kind table ≡ Ok es → length es ≡ table.count
unfolding entries_in
lawful_count section kind table es h = entries_count (entry_by kind section) (size_by kind) table.count table.at es (lawful_ok (entries_in section kind table) es h).0

pub lawful_rises : (section : Source) (kind : EntryKind) (table : Table) (es : List Entry) → lawful_in section kind table ≡ Ok es → falls es ≡ false
lawful_rises section kind table es h = (lawful_ok (entries_in section kind table) es h).1

pub entry_stands : (section : Source) (kind : EntryKind) (table : Table) (index : ℕ) (e : Entry) (es : List Entry) → lawful_in section kind table ≡ Ok es → index < table.count
    → entry_by kind section (table.at + size_by kind * index) ≡ Ok e → slice_get es index ≡ Some e
unfolding entries_in
entry_stands section kind table index e es h within read =
    let t = entry_there (entry_by kind section) (size_by kind) table.count table.at es index (lawful_ok (entries_in section kind table) es h).0 within in
    let same : e ≡ t.0 = cc (sym read ∙ t.1) in
    t.2 ∙ ap Some (sym same)

entry_read : (section : Source) (kind : EntryKind) (table : Table) (index bad : ℕ) (es : List Entry) → lawful_in section kind table ≡ Ok es → index < table.count
    → entry_by kind section (table.at + size_by kind * index) ≡ Err bad → ⊥
unfolding entries_in
entry_read section kind table index bad es h within read =
    let t = entry_there (entry_by kind section) (size_by kind) table.count table.at es index (lawful_ok (entries_in section kind table) es h).0 within in
    let clash = sym read ∙ t.1 in
    cc

pub entry_missing : (section : Source) (kind : EntryKind) (table : Table) (index bad : ℕ) → IsOk (lawful_in section kind table) → index < table.count
    → entry_by kind section (table.at + size_by kind * index) ≡ Err bad → ⊥
entry_missing section kind table index bad ok within read = by_answer (lawful_in section kind table) refl ok
  where
    by_answer : (r : Answer (List Entry)) → lawful_in section kind table ≡ r → IsOk r → ⊥
    by_answer (Ok es) h ok = entry_read section kind table index bad es h within read
    by_answer (Err b) h ok = cc

better_most : (offset : ℕ) (b : Option Entry) (x : Entry) (most : ℕ) → IfSome b (λ y. y.function ≤ most) → x.function ≤ most → IfSome (better offset b x) (λ y. y.function ≤ most)
better_most offset None x most h le = by_test (nat_le x.function offset)
  where
    by_test : (t : Bool) → IfSome (if t then Some x else None) (λ y. y.function ≤ most)
    by_test true = le
    by_test false = tt
better_most offset (Some b) x most h le = by_tests (nat_le x.function offset && nat_le b.function x.function)
  where
    by_tests : (t : Bool) → IfSome (if t then Some x else Some b) (λ y. y.function ≤ most)
    by_tests true = le
    by_tests false = h

better_above : (offset : ℕ) (b : Option Entry) (x : Entry) → offset < x.function → better offset b x ≡ b
better_above offset None x h = rw (lt-leb x.function offset h) refl
better_above offset (Some b) x h = rw (lt-leb x.function offset h) refl

-- entries that don't fall rise
from_first : (before : ℕ) (es : List Entry) (j : ℕ) (y : Entry) → falls_from before es ≡ false → slice_get es j ≡ Some y → before ≤ y.function
from_first before [] j y h there = let e = there in cc
from_first before (e ∷ es) zero y h there =
    let parts = or_parts (nat_lt e.function before) (falls_from e.function es) h in
    let same : e ≡ y = cc in
    subst (λ (z : Entry). before ≤ z.function) same (not_below e.function before parts.0)
  where
    not_below : (a b : ℕ) → nat_lt a b ≡ false → b ≤ a
    not_below a b h = grind (arith, nat_tests)
from_first before (e ∷ es) (suc j) y h there =
    let parts = or_parts (nat_lt e.function before) (falls_from e.function es) h in
    let later = from_first e.function es j y parts.1 there in
    let first : before ≤ e.function = below_not e.function before parts.0 in
    omega arith
  where
    below_not : (a b : ℕ) → nat_lt a b ≡ false → b ≤ a
    below_not a b h = grind (arith, nat_tests)

pub rises : (before : ℕ) (es : List Entry) (i j : ℕ) (x y : Entry) → falls_from before es ≡ false → i ≤ j → slice_get es i ≡ Some x → slice_get es j ≡ Some y → x.function ≤ y.function
rises before [] i j x y h le a b = let e = a in cc
rises before (e ∷ es) zero zero x y h le a b = let same : x ≡ y = cc in rw same (omega arith)
rises before (e ∷ es) zero (suc j) x y h le a b =
    let same : e ≡ x = cc in
    let parts = or_parts (nat_lt e.function before) (falls_from e.function es) h in
    subst (λ (z : Entry). z.function ≤ y.function) same (from_first e.function es j y parts.1 b)
rises before (e ∷ es) (suc i) zero x y h le a b = absurd (omega arith)
rises before (e ∷ es) (suc i) (suc j) x y h le a b =
    let parts = or_parts (nat_lt e.function before) (falls_from e.function es) h in
    rises e.function es i j x y parts.1 (omega arith) a b

-- the best of those up to one that isn't above the offset, where those before it aren't above it
best_up : (offset : ℕ) (b : Option Entry) (es : List Entry) (m : ℕ) (e : Entry) → slice_get es m ≡ Some e → e.function ≤ offset → IfSome b (λ x. x.function ≤ e.function)
    → ((k : ℕ) (x : Entry) → k < m → slice_get es k ≡ Some x → x.function ≤ e.function) → best_of offset b (take (suc m) es) ≡ Some e
best_up offset b [] m e there below most each = let h = there in cc
best_up offset None (x ∷ es) zero e there below most each =
    let same : x ≡ e = cc in
    rw (same, le-leb e.function offset below) refl
best_up offset (Some best) (x ∷ es) zero e there below most each =
    let same : x ≡ e = cc in
    rw (same, le-leb e.function offset below, le-leb best.function e.function most) refl
best_up offset b (x ∷ es) (suc m) e there below most each =
    best_up offset (better offset b x) es m e there below (better_most offset b x e.function most (each 0 x (omega arith) refl)) (λ k y lt at. each (suc k) y (omega arith) at)

-- entries above the offset don't count
best_split : (offset : ℕ) (b : Option Entry) (es : List Entry) (low count : ℕ) → low ≤ count → ((k : ℕ) (x : Entry) → low ≤ k → k < count → slice_get es k ≡ Some x → offset < x.function)
    → best_of offset b (take count es) ≡ best_of offset b (take low es)
best_split offset b [] zero zero le above = refl
best_split offset b [] zero (suc count) le above = refl
best_split offset b [] (suc low) zero le above = refl
best_split offset b [] (suc low) (suc count) le above = refl
best_split offset b (e ∷ es) zero zero le above = refl
best_split offset b (e ∷ es) (suc low) zero le above = absurd (omega arith)
best_split offset b (e ∷ es) zero (suc count) le above =
    ap (λ (x : Option Entry). best_of offset x (take count es)) (better_above offset b e (above 0 e (omega arith) (omega arith) refl))
    ∙ best_split offset b es zero count (omega arith) (λ k x lo hi at. above (suc k) x (omega arith) (omega arith) at)
best_split offset b (e ∷ es) (suc low) (suc count) le above =
    best_split offset (better offset b e) es low count (omega arith) (λ k x lo hi at. above (suc k) x (omega arith) (omega arith) at)

-- how far a search by halves has come
pub record Halved (offset count : ℕ) (es : List Entry) (low high : ℕ) (best : Option Entry) : Type 0 where
  pub found : best ≡ best_of offset None (take low es)
  pub above : (k : ℕ) (x : Entry) → high ≤ k → k < count → slice_get es k ≡ Some x → offset < x.function

pub halved_start : (offset count : ℕ) (es : List Entry) → Halved offset count es 0 count None
halved_start offset count es = record { found = refl; above = λ k x lo hi at. absurd (omega (arith, lo, hi)) }

pub halved_up : (offset count : ℕ) (es : List Entry) (low high middle : ℕ) (best : Option Entry) (e : Entry) → falls es ≡ false → Halved offset count es low high best
    → slice_get es middle ≡ Some e → e.function ≤ offset → Halved offset count es (middle + 1) high (Some e)
halved_up offset count es low high middle best e rise h there below =
    let next : middle + 1 ≡ suc middle = omega arith in
    let up : best_of offset None (take (suc middle) es) ≡ Some e =
    best_up offset None es middle e there below tt (λ k x lt at. rises 0 es k middle x e rise (omega (arith, lt)) at there) in
    record {
      found = sym (ap (λ (n : ℕ). best_of offset None (take n es)) next ∙ up);
      above = h.above;
    }

pub halved_down : (offset count : ℕ) (es : List Entry) (low high middle : ℕ) (best : Option Entry) (e : Entry) → falls es ≡ false → Halved offset count es low high best
    → slice_get es middle ≡ Some e → offset < e.function → Halved offset count es low middle best
halved_down offset count es low high middle best e rise h there past = record {
  found = h.found;
  above = λ k x lo hi at. omega (arith, rises 0 es middle k e x rise lo there at, past);
}

pub halved_end : (offset count : ℕ) (es : List Entry) (low high : ℕ) (best : Option Entry) → Halved offset count es low high best → high ≤ low → low ≤ count
    → best ≡ chosen offset (take count es)
unfolding chosen
halved_end offset count es low high best h done within =
    h.found ∙ sym (best_split offset None es low count within (λ k x lo hi at. h.above k x (omega (arith, lo, done)) hi at))
