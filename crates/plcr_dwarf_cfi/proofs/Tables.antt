-- Tables, instruction by instruction, and remembered rows as they are kept, with the last one last.
use Rattle.std.proofs.Common.{◌≡◌, ◌<◌, ℕ, zero, suc, ◌+◌, ◌-◌, true, false, List, [], ◌∷◌, ◌++◌, length, Option, Some, None, Ok, Err, Result, refl, ap, ◌∙◌, arith}
use Rattle.std.specs.Prelude.{reverse}
use Rattle.std.proofs.lemmas.List.{reverse-append, length-reverse}
use Rattle.plcr_dwarf_cfi.specs.declared.entries.CommonInformation.{CommonInformation}
use Rattle.plcr_dwarf_cfi.specs.declared.entries.Extent.{Extent}
use Rattle.plcr_dwarf_cfi.specs.declared.fault.CallFrameFault.{CallFrameFault}
use Rattle.plcr_dwarf_cfi.specs.declared.fault.CallFrameFault.TheVariants.{Truncated}
use Rattle.plcr_dwarf_cfi.specs.declared.instructions.Instruction.{Instruction}
use Rattle.plcr_dwarf_cfi.specs.declared.row.Row.{Row}
use Rattle.plcr_dwarf_cfi.specs.Instructions.{instruction_before, instructions_in}
use Rattle.plcr_dwarf_cfi.specs.Lists.{listed, run_until}
use Rattle.plcr_dwarf_cfi.specs.Rows.{Table, applied, instructed, is_past}
use Rattle.plcr_dwarf_cfi.specs.Sections.{Section, within}
use Rattle.plcr_dwarf_cfi.proofs.Texts.{one_more}

-- a row at the end
pub reverse_more : (rows : List Row) (row : Row) → reverse (rows ++ row ∷ []) ≡ row ∷ reverse rows
reverse_more rows row = reverse-append rows (row ∷ [])

pub height : (rows : List Row) → length (reverse rows) ≡ length rows
height rows = length-reverse rows

-- what the instructions from a place on make of a table
unfoldable pub run_from : Section → CommonInformation → ℕ → Option ℕ → Extent → ℕ → ℕ → Table → Result Table CallFrameFault
run_from s c count address e n place t =
    run_until (applied c count) (is_past address) (listed (instruction_before (within s e) c.pointers e.end) n place) t

pub run_start : (s : Section) (c : CommonInformation) (count : ℕ) (address : Option ℕ) (e : Extent) (t : Table)
    → run_from s c count address e (s.size - 0) e.start t ≡ instructed s c count address e t
unfolding run_from instructed instructions_in
run_start s c count address e t =
    let all : s.size - 0 ≡ s.size = omega arith in
    ap (λ k. run_until (applied c count) (is_past address) (listed (instruction_before (within s e) c.pointers e.end) k e.start) t) all

more : (s : Section) (c : CommonInformation) (count : ℕ) (address : Option ℕ) (e : Extent) (n done place : ℕ) (t : Table) → done < n
    → run_from s c count address e (n - done) place t ≡ run_from s c count address e (suc (n - (done + 1))) place t
more s c count address e n done place t h = ap (λ k. run_from s c count address e k place t) (one_more n done h)

pub run_ends : (s : Section) (c : CommonInformation) (count : ℕ) (address : Option ℕ) (e : Extent) (n done place : ℕ) (t : Table) → done < n
    → instruction_before (within s e) c.pointers e.end place ≡ Ok None → run_from s c count address e (n - done) place t ≡ Ok t
unfolding run_from
run_ends s c count address e n done place t h step = more s c count address e n done place t h ∙ rw step refl

pub run_cut : (s : Section) (c : CommonInformation) (count : ℕ) (address : Option ℕ) (e : Extent) (n done place : ℕ) (t : Table) (fault : CallFrameFault) → done < n
    → instruction_before (within s e) c.pointers e.end place ≡ Err fault → run_from s c count address e (n - done) place t ≡ Err fault
unfolding run_from
run_cut s c count address e n done place t fault h step = more s c count address e n done place t h ∙ rw step refl

pub run_fails : (s : Section) (c : CommonInformation) (count : ℕ) (address : Option ℕ) (e : Extent) (n done place next : ℕ) (t : Table) (instruction : Instruction) (fault : CallFrameFault) → done < n
    → instruction_before (within s e) c.pointers e.end place ≡ Ok (Some (instruction, next)) → applied c count instruction t ≡ Err fault
    → run_from s c count address e (n - done) place t ≡ Err fault
unfolding run_from
run_fails s c count address e n done place next t instruction fault h step fails = more s c count address e n done place t h ∙ rw step (rw fails refl)

pub run_stops : (s : Section) (c : CommonInformation) (count : ℕ) (address : Option ℕ) (e : Extent) (n done place next : ℕ) (t last : Table) (instruction : Instruction) → done < n
    → instruction_before (within s e) c.pointers e.end place ≡ Ok (Some (instruction, next)) → applied c count instruction t ≡ Ok last → is_past address last ≡ true
    → run_from s c count address e (n - done) place t ≡ Ok last
unfolding run_from
run_stops s c count address e n done place next t last instruction h step goes past = more s c count address e n done place t h ∙ rw step (rw goes (rw past refl))

pub run_goes : (s : Section) (c : CommonInformation) (count : ℕ) (address : Option ℕ) (e : Extent) (n done place next : ℕ) (t last : Table) (instruction : Instruction) → done < n
    → instruction_before (within s e) c.pointers e.end place ≡ Ok (Some (instruction, next)) → applied c count instruction t ≡ Ok last → is_past address last ≡ false
    → run_from s c count address e (n - done) place t ≡ run_from s c count address e (n - (done + 1)) next last
unfolding run_from
run_goes s c count address e n done place next t last instruction h step goes past = more s c count address e n done place t h ∙ rw step (rw goes (rw past refl))

pub run_out : (s : Section) (c : CommonInformation) (count : ℕ) (address : Option ℕ) (e : Extent) (n place : ℕ) (t : Table)
    → run_from s c count address e (n - n) place t ≡ Err Truncated
unfolding run_from
run_out s c count address e n place t =
    let none : n - n ≡ zero = omega arith in
    ap (λ k. run_from s c count address e k place t) none ∙ refl
