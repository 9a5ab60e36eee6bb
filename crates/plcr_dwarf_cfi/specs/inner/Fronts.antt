-- Fronts of sections that were read, of which runs of entries are passed over.
use Rattle.std.specs.Prelude.{◌≡◌, ◌<◌, ℕ, ◌+◌, ◌-◌, ◌^◌, ◌==◌, ◌||◌, nat_le, nat_lt, min, max, Bool, true, false, if◌then◌else◌, List, All, Option, Some, IfSome, Result, Ok}
use Rattle.plcr_dwarf_cfi.specs.declared.common.Recent.{Recent}
use Rattle.plcr_dwarf_cfi.specs.declared.entries.CommonInformation.{CommonInformation}
use Rattle.plcr_dwarf_cfi.specs.declared.entries.Entry.{Entry}
use Rattle.plcr_dwarf_cfi.specs.declared.entries.Entry.TheVariants.{Common, Description}
use Rattle.plcr_dwarf_cfi.specs.declared.entries.Extent.{Extent}
use Rattle.plcr_dwarf_cfi.specs.declared.entries.FrameDescription.{FrameDescription}
use Rattle.plcr_dwarf_cfi.specs.declared.fault.CallFrameFault.{CallFrameFault}
use Rattle.plcr_dwarf_cfi.specs.declared.front.Run.{Run}
use Rattle.plcr_dwarf_cfi.specs.declared.passing.Code.{Code}
use Rattle.plcr_dwarf_cfi.specs.declared.passing.Passed.{Passed}
use Rattle.plcr_dwarf_cfi.specs.Entries.{covers, description_for, entry_at, extent_at, found_in, id_of}
use Rattle.plcr_dwarf_cfi.specs.Lists.{listed}
use Rattle.plcr_dwarf_cfi.specs.Sections.{Section}
use Rattle.plcr_dwarf_cfi.specs.inner.Texts.{IsRecent}

-- what is found from a place on, in so many steps
unfoldable pub found_from : Section → ℕ → ℕ → ℕ → Result FrameDescription CallFrameFault
found_from s a n place = found_in a (listed (entry_at s) n place)

-- an address that no entry of a run covers
abbrev pub is_outside : Run → ℕ → Bool
is_outside run a = nat_lt a run.lowest || nat_lt run.highest a

-- a search for such an address may pass over the run
pub record IsRun (s : Section) (run : Run) : Type 0 where
  pub passes : (a left : ℕ) → a < 2 ^ 64 → is_outside run a ≡ true →
      found_from s a (run.entries + left) run.from ≡ found_from s a left run.to

-- no entries
abbrev pub run_at : ℕ → Run
run_at place = record { from = place; to = place; entries = 0; lowest = 2 ^ 64 - 1; highest = 0 }

-- the highest address of code that begins at one, so many bytes
abbrev pub last_of : ℕ → ℕ → ℕ
last_of start range = min (start + range - 1) (2 ^ 64 - 1)

-- the addresses between which a run covers any with the entry of such code
abbrev pub lowest_with : Run → ℕ → ℕ → ℕ
lowest_with run start range = if range == 0 then run.lowest else min run.lowest start

abbrev pub highest_with : Run → ℕ → ℕ → ℕ
highest_with run start range = if range == 0 then run.highest
    else max run.highest (last_of start range)

-- a run with one entry more
abbrev pub with_bounds : Run → ℕ → ℕ → ℕ → Run
with_bounds run next lowest highest =
    record {
      from = run.from;
      to = next;
      entries = run.entries + 1;
      lowest = lowest;
      highest = highest;
    }

abbrev pub with_code : Run → ℕ → ℕ → ℕ → Run
with_code run start range next =
    with_bounds run next (lowest_with run start range) (highest_with run start range)

abbrev pub with_entry : Run → Entry → ℕ → Run
with_entry run (Common c) next = with_bounds run next run.lowest run.highest
with_entry run (Description d) next = with_code run d.initial_location d.address_range next

-- a description of the code that was read
abbrev pub described : Extent → CommonInformation → Code → FrameDescription
described e c code =
    record {
      common = c;
      initial_location = code.start;
      address_range = code.range;
      rest = record { start = code.rest; end = e.end };
    }

-- the extent and the id of an entry at a place that isn't the end; the id is none of a common
-- information entry
pub record IsNamed (s : Section) (place : ℕ) (e : Extent) (id : ℕ) : Type 0 where
  pub inside : nat_le s.size place ≡ false
  pub extent : extent_at s place ≡ Ok e
  pub some : (e.end == e.start) ≡ false
  pub named : id_of s e ≡ Ok id
  pub other : (id == 0) ≡ false

-- the description at a place of which so much was read, and which isn't one of code at an address
pub record IsPassed (s : Section) (place a : ℕ) (p : Passed) : Type 0 where
  pub description : FrameDescription
  pub stands : entry_at s place ≡ Ok (Some (Description description, p.next))
  pub location : description.initial_location ≡ p.start
  pub range : description.address_range ≡ p.range
  pub apart : covers description a ≡ false

-- the run that ends at a place, where one is read
abbrev pub IsGrowing : Section → Option Run → ℕ → Type 0
IsGrowing s run place = IfSome run (λ r. IsRun s r × (r.to ≡ place))

-- a search has come to a place, with so many steps left
pub record Walking (s : Section) (a left place : ℕ) (recent : Option Recent) (run : Option Run)
    (runs : List Run) : Type 0 where
  pub same : found_from s a left place ≡ description_for s a
  pub last : IsRecent s recent
  pub growing : IsGrowing s run place
  pub known : All (IsRun s) runs
