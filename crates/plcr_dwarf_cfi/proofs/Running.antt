-- Runs of entries that are passed over, and searches that do so.
use Rattle.std.proofs.Common.{◌≡◌, ◌≢◌, ◌≤◌, ◌<◌, ◌⊎◌, inl, inr, ℕ, suc, ◌+◌, ◌-◌, ◌==◌, Bool, true, false, cond, Some, None, Ok, Err, refl, sym, ap, subst, ◌∙◌, arith}
use Rattle.std.specs.Prelude.{◌^◌, ◌||◌, ◌&&◌, nat_lt, nat_le, min, max}
use Rattle.std.proofs.lemmas.Bool.Decides.{nat_tests}
use Rattle.plcr_dwarf_cfi.specs.declared.entries.CommonInformation.{CommonInformation}
use Rattle.plcr_dwarf_cfi.specs.declared.entries.Entry.{Entry}
use Rattle.plcr_dwarf_cfi.specs.declared.entries.Extent.{Extent}
use Rattle.plcr_dwarf_cfi.specs.declared.entries.Entry.TheVariants.{Common, Description}
use Rattle.plcr_dwarf_cfi.specs.declared.entries.FrameDescription.{FrameDescription}
use Rattle.plcr_dwarf_cfi.specs.declared.fault.CallFrameFault.{CallFrameFault}
use Rattle.plcr_dwarf_cfi.specs.declared.fault.CallFrameFault.TheVariants.{NotCovered, Truncated}
use Rattle.plcr_dwarf_cfi.specs.declared.front.Run.{Run}
use Rattle.plcr_dwarf_cfi.specs.declared.passing.Code.{Code}
use Rattle.plcr_dwarf_cfi.specs.declared.passing.Passed.{Passed}
use Rattle.plcr_dwarf_cfi.specs.Entries.{common_before, covers, description_for, description_in, description_over, entry_at, found_in}
use Rattle.plcr_dwarf_cfi.specs.Lists.{listed}
use Rattle.plcr_dwarf_cfi.specs.Sections.{Section, within}
use Rattle.plcr_dwarf_cfi.specs.inner.Fronts.{IsNamed, IsPassed, IsRun, described, found_from, is_outside, last_of, run_at, with_code, with_entry}
use Rattle.plcr_dwarf_cfi.proofs.Searches.{search_start}

-- step by step
found_more : (s : Section) (a left place next : ℕ) (entry : Entry) → entry_at s place ≡ Ok (Some (entry, next)) → description_over a entry ≡ None
    → found_from s a (suc left) place ≡ found_from s a left next
unfolding found_from
found_more s a left place next entry step over = rw step (rw over refl)

outside_or : (a lowest highest : ℕ) → (nat_lt a lowest || nat_lt highest a) ≡ true → (a < lowest) ⊎ (highest < a)
outside_or a lowest highest h = grind (arith, nat_tests)

or_outside : (a lowest highest : ℕ) → (a < lowest) ⊎ (highest < a) → (nat_lt a lowest || nat_lt highest a) ≡ true
or_outside a lowest highest h = grind (arith, nat_tests)

below_uncovered : (d : FrameDescription) (a : ℕ) → a < d.initial_location → covers d a ≡ false
below_uncovered d a h = grind (arith, nat_tests)

and_false : (b c : Bool) → c ≡ false → (b && c) ≡ false
and_false true c h = h
and_false false c h = refl

above_uncovered : (d : FrameDescription) (a : ℕ) → d.initial_location + d.address_range ≤ a → covers d a ≡ false
above_uncovered d a h =
    let far : d.address_range ≤ a - d.initial_location = omega (arith, h) in
    let test : nat_lt (a - d.initial_location) d.address_range ≡ false = grind (arith, nat_tests, far) in
    and_false (nat_le d.initial_location a) (nat_lt (a - d.initial_location) d.address_range) test

empty_uncovered : (d : FrameDescription) (a : ℕ) → d.address_range ≡ 0 → covers d a ≡ false
empty_uncovered d a h =
    let test : nat_lt (a - d.initial_location) d.address_range ≡ false = grind (arith, nat_tests, h) in
    and_false (nat_le d.initial_location a) (nat_lt (a - d.initial_location) d.address_range) test

not_over : (d : FrameDescription) (a : ℕ) → covers d a ≡ false → description_over a (Description d) ≡ None
not_over d a h = rw h refl

-- an address outside the longer run
record Apart (run : Run) (entry : Entry) (a : ℕ) : Type 0 where
  pub outside : is_outside run a ≡ true
  pub none : description_over a entry ≡ None

equal_by : (a b : ℕ) (t : Bool) → (a == b) ≡ t → (t ≡ true → a ≡ b)
equal_by a b t h e = grind (arith, nat_tests, h, e)

other_by : (a b : ℕ) → (a == b) ≡ false → a ≢ b
other_by a b h e = let t : (a == b) ≡ true = grind (arith, nat_tests, e) in let no = sym h ∙ t in cc

apart_by : (run : Run) (d : FrameDescription) (a : ℕ) (b : Bool) → a < 2 ^ 64 → (d.address_range == 0) ≡ b
    → (nat_lt a (cond b run.lowest (min run.lowest d.initial_location)) || nat_lt (cond b run.highest (max run.highest (last_of d.initial_location d.address_range))) a) ≡ true
    → Apart run (Description d) a
apart_by run d a true small empty h = record {
  outside = h;
  none = not_over d a (empty_uncovered d a (equal_by d.address_range 0 (d.address_range == 0) refl empty));
}
apart_by run d a false small some h =
    let more : d.address_range ≢ 0 = other_by d.address_range 0 some in
    elim (outside_or a (min run.lowest d.initial_location) (max run.highest (last_of d.initial_location d.address_range)) h) [
      | inl below ↦
          let lower : a < run.lowest = omega (arith, below) in
          let start : a < d.initial_location = omega (arith, below) in
          record { outside = or_outside a run.lowest run.highest (inl lower); none = not_over d a (below_uncovered d a start) }
      | inr above ↦
          let higher : run.highest < a = omega (arith, above) in
          let last : d.initial_location + d.address_range ≤ a = omega (arith, above, small, more) in
          record { outside = or_outside a run.lowest run.highest (inr higher); none = not_over d a (above_uncovered d a last) }
    ]

apart : (run : Run) (entry : Entry) (next a : ℕ) → a < 2 ^ 64 → is_outside (with_entry run entry next) a ≡ true → Apart run entry a
apart run (Common c) next a small h = record { outside = h; none = refl }
apart run (Description d) next a small h = apart_by run d a (d.address_range == 0) small refl h

fields : (run : Run) (entry : Entry) (next : ℕ) → (with_entry run entry next).entries ≡ run.entries + 1
fields run (Common c) next = refl
fields run (Description d) next = refl

begins : (run : Run) (entry : Entry) (next : ℕ) → (with_entry run entry next).from ≡ run.from
begins run (Common c) next = refl
begins run (Description d) next = refl

pub ends : (run : Run) (entry : Entry) (next : ℕ) → (with_entry run entry next).to ≡ next
ends run (Common c) next = refl
ends run (Description d) next = refl

grown_passes : (s : Section) (run : Run) (place next : ℕ) (entry : Entry) → IsRun s run → run.to ≡ place → entry_at s place ≡ Ok (Some (entry, next))
    → (a left : ℕ) → a < 2 ^ 64 → is_outside (with_entry run entry next) a ≡ true
    → found_from s a ((with_entry run entry next).entries + left) (with_entry run entry next).from ≡ found_from s a left (with_entry run entry next).to
grown_passes s run place next entry is here step a left small out =
    let both = apart run entry next a small out in
    let count : (with_entry run entry next).entries + left ≡ run.entries + suc left = omega (arith, fields run entry next) in
    ap (λ k. found_from s a k (with_entry run entry next).from) count
    ∙ ap (λ p. found_from s a (run.entries + suc left) p) (begins run entry next)
    ∙ is.passes a (suc left) small both.outside
    ∙ ap (λ p. found_from s a (suc left) p) here
    ∙ found_more s a left place next entry step both.none
    ∙ ap (λ p. found_from s a left p) (sym (ends run entry next))

pub run_grows : (s : Section) (run : Run) (place next : ℕ) (entry : Entry) → IsRun s run → run.to ≡ place → entry_at s place ≡ Ok (Some (entry, next)) → IsRun s (with_entry run entry next)
run_grows s run place next entry is here step = record { passes = grown_passes s run place next entry is here step }

pub run_grows_over : (s : Section) (run : Run) (place a : ℕ) (p : Passed) → IsRun s run → run.to ≡ place → IsPassed s place a p → IsRun s (with_code run p.start p.range p.next)
run_grows_over s run place a p is here passed =
    let d : FrameDescription = passed.description in
    let longer : IsRun s (with_code run d.initial_location d.address_range p.next) = run_grows s run place p.next (Description d) is here passed.stands in
    let located : IsRun s (with_code run p.start d.address_range p.next) = subst (λ (k : ℕ). IsRun s (with_code run k d.address_range p.next)) passed.location longer in
    subst (λ (k : ℕ). IsRun s (with_code run p.start k p.next)) passed.range located

pub run_empty : (s : Section) (place : ℕ) → IsRun s (run_at place)
run_empty s place = record {
  passes = λ a left small out. let none : 0 + left ≡ left = omega arith in ap (λ k. found_from s a k place) none;
}

-- searches
pub walk_starts : (s : Section) (a : ℕ) → found_from s a (s.size + 1) 0 ≡ description_for s a
walk_starts s a = let all : s.size + 1 - 0 ≡ s.size + 1 = omega arith in ap (λ k. found_from s a k 0) (sym all) ∙ search_start s a

pub walk_passes : (s : Section) (a left : ℕ) (run : Run) → IsRun s run → a < 2 ^ 64 → is_outside run a ≡ true → run.entries ≤ left
    → found_from s a left run.from ≡ found_from s a (left - run.entries) run.to
walk_passes s a left run is small out fewer =
    let all : left ≡ run.entries + (left - run.entries) = omega (arith, fewer) in
    ap (λ k. found_from s a k run.from) all ∙ is.passes a (left - run.entries) small out

left_one : (left : ℕ) → 0 < left → left ≡ suc (left - 1)
left_one left h = omega (arith, h)

pub walk_goes : (s : Section) (a left place next : ℕ) (entry : Entry) → 0 < left → entry_at s place ≡ Ok (Some (entry, next)) → description_over a entry ≡ None
    → found_from s a left place ≡ found_from s a (left - 1) next
walk_goes s a left place next entry more step over = ap (λ k. found_from s a k place) (left_one left more) ∙ found_more s a (left - 1) place next entry step over

pub walk_passes_one : (s : Section) (a left place : ℕ) (p : Passed) → 0 < left → IsPassed s place a p → found_from s a left place ≡ found_from s a (left - 1) p.next
walk_passes_one s a left place p more passed =
    walk_goes s a left place p.next (Description passed.description) more passed.stands (not_over passed.description a passed.apart)

pub walk_hits : (s : Section) (a left place next : ℕ) (entry : Entry) (d : FrameDescription) → 0 < left → entry_at s place ≡ Ok (Some (entry, next)) → description_over a entry ≡ Some d
    → found_from s a left place ≡ Ok d
unfolding found_from
walk_hits s a left place next entry d more step over = ap (λ k. found_in a (listed (entry_at s) k place)) (left_one left more) ∙ rw step (rw over refl)

pub walk_ends : (s : Section) (a left place : ℕ) → 0 < left → entry_at s place ≡ Ok None → found_from s a left place ≡ Err NotCovered
unfolding found_from
walk_ends s a left place more step = ap (λ k. found_in a (listed (entry_at s) k place)) (left_one left more) ∙ rw step refl

pub walk_fails : (s : Section) (a left place : ℕ) (fault : CallFrameFault) → 0 < left → entry_at s place ≡ Err fault → found_from s a left place ≡ Err fault
unfolding found_from
walk_fails s a left place fault more step = ap (λ k. found_in a (listed (entry_at s) k place)) (left_one left more) ∙ rw step refl

pub walk_out : (s : Section) (a left place : ℕ) → left ≡ 0 → found_from s a left place ≡ Err Truncated
unfolding found_from
walk_out s a left place none = ap (λ k. found_in a (listed (entry_at s) k place)) none ∙ refl

-- what makes the entry at a place a description
pub passed_stands : (s : Section) (place : ℕ) (e : Extent) (id : ℕ) (c : CommonInformation) (d : FrameDescription)
    → IsNamed s place e id → common_before s e.start id ≡ Ok c → description_in (within s e) e c ≡ Ok d
    → entry_at s place ≡ Ok (Some (Description d, e.end))
unfolding entry_at
passed_stands s place e id c d is before there = rw (is.inside, is.extent, is.some, is.named, is.other, before, there) refl

pub passed_is : (s : Section) (place a : ℕ) (e : Extent) (id : ℕ) (c : CommonInformation) (code : Code)
    → IsNamed s place e id → common_before s e.start id ≡ Ok c → Ok (described e c code) ≡ description_in (within s e) e c
    → (nat_le code.start a && nat_lt (a - code.start) code.range) ≡ false
    → IsPassed s place a (record { start = code.start; range = code.range; next = e.end })
passed_is s place a e id c code named before there apart = record {
  description = described e c code;
  stands = passed_stands s place e id c (described e c code) named before (sym there);
  location = refl;
  range = refl;
  apart = apart;
}
