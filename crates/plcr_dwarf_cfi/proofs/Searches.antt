-- The search for a frame description entry, entry by entry.
use Rattle.std.proofs.Common.{◌≡◌, ◌<◌, ℕ, zero, ◌+◌, ◌-◌, Option, Some, None, Ok, Err, refl, ap, ◌∙◌, arith}
use Rattle.plcr_dwarf_cfi.specs.declared.common.Recent.{Recent}
use Rattle.plcr_dwarf_cfi.specs.declared.entries.Entry.{Entry}
use Rattle.plcr_dwarf_cfi.specs.declared.entries.FrameDescription.{FrameDescription}
use Rattle.plcr_dwarf_cfi.specs.declared.fault.CallFrameFault.{CallFrameFault}
use Rattle.plcr_dwarf_cfi.specs.declared.fault.CallFrameFault.TheVariants.{NotCovered, Truncated}
use Rattle.plcr_dwarf_cfi.specs.Entries.{description_for, description_over, entries_of, entry_at, found_in}
use Rattle.plcr_dwarf_cfi.specs.Lists.{listed}
use Rattle.plcr_dwarf_cfi.specs.Sections.{Section}
use Rattle.plcr_dwarf_cfi.specs.inner.Fronts.{found_from}
use Rattle.plcr_dwarf_cfi.specs.inner.Texts.{IsRecent}
use Rattle.plcr_dwarf_cfi.proofs.Texts.{one_more}

pub search_start : (s : Section) (a : ℕ) → found_from s a (s.size + 1 - 0) 0 ≡ description_for s a
unfolding found_from description_for entries_of
search_start s a =
    let all : s.size + 1 - 0 ≡ s.size + 1 = omega arith in
    ap (λ k. found_in a (listed (entry_at s) k 0)) all

pub search_ends : (s : Section) (a n done place : ℕ) → done < n → entry_at s place ≡ Ok None → found_from s a (n - done) place ≡ Err NotCovered
unfolding found_from
search_ends s a n done place more step = ap (λ k. found_in a (listed (entry_at s) k place)) (one_more n done more) ∙ rw step refl

pub search_fails : (s : Section) (a n done place : ℕ) (fault : CallFrameFault) → done < n → entry_at s place ≡ Err fault → found_from s a (n - done) place ≡ Err fault
unfolding found_from
search_fails s a n done place fault more step = ap (λ k. found_in a (listed (entry_at s) k place)) (one_more n done more) ∙ rw step refl

pub search_hits : (s : Section) (a n done place next : ℕ) (entry : Entry) (d : FrameDescription) → done < n → entry_at s place ≡ Ok (Some (entry, next)) → description_over a entry ≡ Some d
    → found_from s a (n - done) place ≡ Ok d
unfolding found_from
search_hits s a n done place next entry d more step over =
    ap (λ k. found_in a (listed (entry_at s) k place)) (one_more n done more) ∙ rw step (rw over refl)

pub search_goes : (s : Section) (a n done place next : ℕ) (entry : Entry) → done < n → entry_at s place ≡ Ok (Some (entry, next)) → description_over a entry ≡ None
    → found_from s a (n - done) place ≡ found_from s a (n - (done + 1)) next
unfolding found_from
search_goes s a n done place next entry more step over =
    ap (λ k. found_in a (listed (entry_at s) k place)) (one_more n done more) ∙ rw step (rw over refl)

pub search_out : (s : Section) (a n place : ℕ) → found_from s a (n - n) place ≡ Err Truncated
unfolding found_from
search_out s a n place =
    let none : n - n ≡ zero = omega arith in
    ap (λ k. found_in a (listed (entry_at s) k place)) none ∙ refl

-- the search has come to a place
pub record Going (s : Section) (a left place : ℕ) (recent : Option Recent) : Type 0 where
  pub same : found_from s a left place ≡ description_for s a
  pub last : IsRecent s recent
