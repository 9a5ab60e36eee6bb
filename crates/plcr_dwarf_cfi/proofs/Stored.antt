-- A section that stands in a file as it stands in memory.
use Rattle.std.proofs.Common.{◌≡◌, ℕ, ◌+◌, List, Some, ap, subst, sym}
use Rattle.std.specs.Prelude.{◌≤◌, ◌^◌, All}
use Rattle.plcr_memory.specs.Regions.{Contents, bytes_at}
use Rattle.plcr_leb128.specs.Cells.{Source, list_bytes}
use Rattle.plcr_leb128.proofs.Fixed.{stored_bytes}
use Rattle.plcr_dwarf_cfi.specs.declared.entries.FrameDescription.{FrameDescription}
use Rattle.plcr_dwarf_cfi.specs.declared.front.Run.{Run}
use Rattle.plcr_dwarf_cfi.specs.Entries.{description_for}
use Rattle.plcr_dwarf_cfi.specs.Rows.{row_at}
use Rattle.plcr_dwarf_cfi.specs.Sections.{Section, section_at}
use Rattle.plcr_dwarf_cfi.specs.inner.Fronts.{IsRun}

stored_section : (memory : Contents) (at size : ℕ) (bytes : List ℕ) → bytes_at memory at size ≡ Some bytes → at + size ≤ 2 ^ 64
    → record { cells = list_bytes bytes; at = at; size = size; memory = memory } ≡ section_at memory at size
stored_section memory at size bytes there within =
    ap (λ (cells : Source). let s : Section = record { cells = cells; at = at; size = size; memory = memory } in s) (stored_bytes memory at size bytes within there)

pub stored_description : (memory : Contents) (at size : ℕ) (bytes : List ℕ) (address : ℕ) → bytes_at memory at size ≡ Some bytes → at + size ≤ 2 ^ 64
    → description_for (record { cells = list_bytes bytes; at = at; size = size; memory = memory }) address ≡ description_for (section_at memory at size) address
stored_description memory at size bytes address there within = ap (λ s. description_for s address) (stored_section memory at size bytes there within)

pub stored_row : (memory : Contents) (at size : ℕ) (bytes : List ℕ) (count : ℕ) (d : FrameDescription) (address : ℕ) → bytes_at memory at size ≡ Some bytes → at + size ≤ 2 ^ 64
    → row_at (record { cells = list_bytes bytes; at = at; size = size; memory = memory }) count d address ≡ row_at (section_at memory at size) count d address
stored_row memory at size bytes count d address there within = ap (λ s. row_at s count d address) (stored_section memory at size bytes there within)

pub runs_stored : (memory : Contents) (at size : ℕ) (bytes : List ℕ) (runs : List Run) → bytes_at memory at size ≡ Some bytes → at + size ≤ 2 ^ 64
    → All (IsRun (section_at memory at size)) runs → All (IsRun (record { cells = list_bytes bytes; at = at; size = size; memory = memory })) runs
runs_stored memory at size bytes runs there within h = subst (λ (s : Section). All (IsRun s) runs) (sym (stored_section memory at size bytes there within)) h

pub stored_runs : (memory : Contents) (at size : ℕ) (bytes : List ℕ) (runs : List Run) → bytes_at memory at size ≡ Some bytes → at + size ≤ 2 ^ 64
    → All (IsRun (record { cells = list_bytes bytes; at = at; size = size; memory = memory })) runs → All (IsRun (section_at memory at size)) runs
stored_runs memory at size bytes runs there within h = subst (λ (s : Section). All (IsRun s) runs) (stored_section memory at size bytes there within) h
