-- Each instruction ends behind its opcode, within the section.
use Rattle.std.proofs.Common.{◌≡◌, ◌≤◌, ℕ, ◌+◌, ◌==◌, Bool, true, false, cond, List, [], ◌∷◌, Option, Some, None, Ok, Err, Result, refl, ap, arith}
use Rattle.std.specs.Prelude.{is_some, nat_lt}
use Rattle.plcr_base.specs.Chains.{◌>>=◌}
use Rattle.plcr_base.proofs.Chained.{bind_ok, ok_or_ok}
use Rattle.plcr_leb128.specs.declared.leb128.Number.{Number}
use Rattle.plcr_leb128.specs.Cells.{bytes_of}
use Rattle.plcr_dwarf_expr.specs.Decoding.{Row}
use Rattle.plcr_dwarf_cfi.specs.declared.decode.Decoded.{Decoded}
use Rattle.plcr_dwarf_cfi.specs.declared.entries.Encoding.{Encoding}
use Rattle.plcr_dwarf_cfi.specs.declared.entries.Format.{Format}
use Rattle.plcr_dwarf_cfi.specs.declared.entries.Format.TheVariants.{Absptr, Uleb128, Udata2, Udata4, Udata8, Sleb128, Sdata2, Sdata4, Sdata8}
use Rattle.plcr_dwarf_cfi.specs.declared.fault.CallFrameFault.{CallFrameFault}
use Rattle.plcr_dwarf_cfi.specs.declared.fault.CallFrameFault.TheVariants.{Truncated}
use Rattle.plcr_dwarf_cfi.specs.declared.instructions.Block.{Block}
use Rattle.plcr_dwarf_cfi.specs.declared.instructions.Instruction.{Instruction}
use Rattle.plcr_dwarf_cfi.specs.declared.opcodes.TheConstants.{DW_CFA_advance_loc, DW_CFA_offset, DW_CFA_restore}
use Rattle.plcr_dwarf_cfi.specs.Instructions.{Reading, among_or, block, block_at, block_read, cfa_rows, creation_rows, decoded, expression_rows, extended_reading, instruction_at, more, number, number_block, number_signed, offset_rows, one, other_rows, plain, pointer, reading_of, register_rows, signed_number, two_numbers, unknown}
use Rattle.plcr_dwarf_cfi.specs.Pointers.{held_pointer, number_of, pointer_at, told_address}
use Rattle.plcr_dwarf_cfi.specs.Sections.{Section, byte, fixed, signed, sized, unsigned}
use Rattle.plcr_dwarf_cfi.proofs.SpelledOut.{Forward, Inside, byte_ends, number_ends, signed_ends, unsigned_ends}

-- what a reading reads goes forward within the section
abbrev Goes : Section → ℕ → Result Decoded CallFrameFault → Type 0
Goes s at r = (d : Decoded) → r ≡ Ok d → Forward s at d.next

abbrev Reads : Section → Reading → Type 0
Reads s reading = (encoding : Encoding) (at : ℕ) → at ≤ s.size → Goes s at (reading s encoding at)

stops_at : (s : Section) (at next : ℕ) (instruction : Instruction) (d : Decoded) → at ≤ next → next ≤ s.size → decoded instruction next ≡ Ok d → Forward s at d.next
stops_at s at next instruction d forward inside h =
    let is : record { instruction = instruction; next = next } ≡ d = cc in
    let same : next ≡ d.next = ap (λ (k : Decoded). k.next) is in
    record { forward = omega (arith, same); within = omega (arith, same) }

behind : (s : Section) (at next last : ℕ) → Forward s at next → Forward s next last → Forward s at last
behind s at next last a b = record { forward = omega (arith, a.forward, b.forward); within = b.within }

plain_reads : (s : Section) (instruction : Instruction) → Reads s (plain instruction)
plain_reads s instruction encoding at h d e = stops_at s at at instruction d (omega arith) h e

one_reads : (s : Section) → Inside s → (make : ℕ → Instruction) → Reads s (one make)
one_reads s inside make encoding at h d e =
    let b = bind_ok (byte s.cells at) (λ n. decoded (make n) (at + 1)) d e in
    let ends = byte_ends s inside at b.0 (ok_or_ok (bytes_of s.cells at) Truncated b.0 b.1) in
    stops_at s at (at + 1) (make b.0) d (omega arith) ends b.2

more_reads : (s : Section) → Inside s → (size : ℕ) (make : ℕ → Instruction) → Reads s (more size make)
more_reads s inside size make encoding at h d e =
    let b = bind_ok (fixed size s.cells at) (λ n. decoded (make n) (at + size)) d e in
    stops_at s at (at + size) (make b.0) d (omega arith) (number_ends s inside size at b.0 b.1) b.2

number_reads : (s : Section) → Inside s → (make : ℕ → Instruction) → Reads s (number make)
number_reads s inside make encoding at h d e =
    let b = bind_ok (unsigned s.cells at) (λ (n : Number). decoded (make n.value) n.next) d e in
    let ends = unsigned_ends s inside at b.0 b.1 in
    stops_at s at b.0.next (make b.0.value) d ends.forward ends.within b.2

signed_reads : (s : Section) → Inside s → (make : ℕ → Instruction) → Reads s (signed_number make)
signed_reads s inside make encoding at h d e =
    let b = bind_ok (signed s.cells at) (λ (n : Number). decoded (make n.value) n.next) d e in
    let ends = signed_ends s inside at b.0 b.1 in
    stops_at s at b.0.next (make b.0.value) d ends.forward ends.within b.2

two_reads : (s : Section) → Inside s → (make : ℕ → ℕ → Instruction) → Reads s (two_numbers make)
two_reads s inside make encoding at h d e =
    let b = bind_ok (unsigned s.cells at) (λ (n : Number). number (make n.value) s encoding n.next) d e in
    let ends = unsigned_ends s inside at b.0 b.1 in
    behind s at b.0.next d.next ends (number_reads s inside (make b.0.value) encoding b.0.next ends.within d b.2)

with_signed_reads : (s : Section) → Inside s → (make : ℕ → ℕ → Instruction) → Reads s (number_signed make)
with_signed_reads s inside make encoding at h d e =
    let b = bind_ok (unsigned s.cells at) (λ (n : Number). signed_number (make n.value) s encoding n.next) d e in
    let ends = unsigned_ends s inside at b.0 b.1 in
    behind s at b.0.next d.next ends (signed_reads s inside (make b.0.value) encoding b.0.next ends.within d b.2)

block_by : (s : Section) → Inside s → (at next size : ℕ) (there : Option (List ℕ)) (b : Block × ℕ) → s.cells next size ≡ there → Forward s at next
    → cond (is_some there) (Ok (block_at s next size, next + size)) (Err Truncated) ≡ Ok b → Forward s at b.1
block_by s inside at next size None b there ends h = let h2 = h in cc
block_by s inside at next size (Some bytes) b there ends h =
    let is : (block_at s next size, next + size) ≡ b = cc in
    let same : next + size ≡ b.1 = ap (λ (k : Block × ℕ). k.1) is in
    let within : next + size ≤ s.size = inside.ends next size bytes there in
    record { forward = omega (arith, ends.forward, same); within = omega (arith, same, within) }

block_ends : (s : Section) → Inside s → (at : ℕ) (b : Block × ℕ) → block_read s at ≡ Ok b → Forward s at b.1
block_ends s inside at b e =
    let n = bind_ok (unsigned s.cells at)
    (λ (size : Number). cond (is_some (s.cells size.next size.value)) (Ok (block_at s size.next size.value, size.next + size.value)) (Err Truncated)) b e in
    block_by s inside at n.0.next n.0.value (s.cells n.0.next n.0.value) b refl (unsigned_ends s inside at n.0 n.1) n.2

block_reads : (s : Section) → Inside s → (make : Block → Instruction) → Reads s (block make)
block_reads s inside make encoding at h d e =
    let b = bind_ok (block_read s at) (λ (k : Block × ℕ). decoded (make k.0) k.1) d e in
    let ends = block_ends s inside at b.0 b.1 in
    stops_at s at b.0.1 (make b.0.0) d ends.forward ends.within b.2

with_block_reads : (s : Section) → Inside s → (make : ℕ → Block → Instruction) → Reads s (number_block make)
with_block_reads s inside make encoding at h d e =
    let b = bind_ok (unsigned s.cells at) (λ (n : Number). block (make n.value) s encoding n.next) d e in
    let ends = unsigned_ends s inside at b.0 b.1 in
    behind s at b.0.next d.next ends (block_reads s inside (make b.0.value) encoding b.0.next ends.within d b.2)

-- pointers
sized_ends : (s : Section) → Inside s → (size at : ℕ) (value : ℕ → ℕ) (n : Number) → sized size s.cells at value ≡ Ok n → Forward s at n.next
sized_ends s inside size at value n h =
    let b = bind_ok (fixed size s.cells at) (λ (k : ℕ). let r : Result Number CallFrameFault = Ok (record { value = value k; next = at + size }) in r) n h in
    let ends = number_ends s inside size at b.0 b.1 in
    let is : record { value = value b.0; next = at + size } ≡ n = let e = b.2 in cc in
    let same : at + size ≡ n.next = ap (λ (k : Number). k.next) is in
    record { forward = omega (arith, same); within = omega (arith, same, ends) }

format_ends : (s : Section) → Inside s → (format : Format) (at : ℕ) (n : Number) → number_of format s.cells at ≡ Ok n → Forward s at n.next
unfolding number_of
format_ends s inside Absptr at n h = sized_ends s inside 8 at _ n h
format_ends s inside Uleb128 at n h = unsigned_ends s inside at n h
format_ends s inside Udata2 at n h = sized_ends s inside 2 at _ n h
format_ends s inside Udata4 at n h = sized_ends s inside 4 at _ n h
format_ends s inside Udata8 at n h = sized_ends s inside 8 at _ n h
format_ends s inside Sleb128 at n h = signed_ends s inside at n h
format_ends s inside Sdata2 at n h = sized_ends s inside 2 at _ n h
format_ends s inside Sdata4 at n h = sized_ends s inside 4 at _ n h
format_ends s inside Sdata8 at n h = sized_ends s inside 8 at _ n h

pointer_ends : (s : Section) → Inside s → (encoding : Encoding) (at : ℕ) (n : Number) → pointer_at s encoding at ≡ Ok n → Forward s at n.next
unfolding pointer_at
pointer_ends s inside encoding at n h =
    let b = bind_ok (number_of encoding.format s.cells at)
    (λ (k : Number). held_pointer s encoding.indirect (told_address s encoding.relative at k.value) >>= λ p. let r : Result Number CallFrameFault = Ok (record { value = p; next = k.next }) in r) n h in
    let p = bind_ok (held_pointer s encoding.indirect (told_address s encoding.relative at b.0.value))
    (λ (k : ℕ). let r : Result Number CallFrameFault = Ok (record { value = k; next = b.0.next }) in r) n b.2 in
    let is : record { value = p.0; next = b.0.next } ≡ n = let e = p.2 in cc in
    let same : b.0.next ≡ n.next = ap (λ (k : Number). k.next) is in
    let ends = format_ends s inside encoding.format at b.0 b.1 in
    record { forward = omega (arith, same, ends.forward); within = omega (arith, same, ends.within) }

pointer_reads : (s : Section) → Inside s → (make : ℕ → Instruction) → Reads s (pointer make)
pointer_reads s inside make encoding at h d e =
    let b = bind_ok (pointer_at s encoding at) (λ (n : Number). decoded (make n.value) n.next) d e in
    let ends = pointer_ends s inside encoding at b.0 b.1 in
    stops_at s at b.0.next (make b.0.value) d ends.forward ends.within b.2

unknown_reads : (s : Section) → Reads s unknown
unknown_reads s encoding at h d e = let e2 = e in cc

-- tables of readings
abbrev AllRead : Section → List (Row Reading) → Type 0
AllRead s [] = Unit {0}
AllRead s (r ∷ rows) = Reads s r.meaning × AllRead s rows

row_reads : (s : Section) (opcode : ℕ) (r : Row Reading) (rows : List (Row Reading)) (other : Reading) (b : Bool) → (opcode == r.opcode) ≡ b
    → Reads s r.meaning → Reads s (among_or opcode rows other) → Reads s (among_or opcode (r ∷ rows) other)
row_reads s opcode r rows other true test here rest encoding at h d e = here encoding at h d (rw test at e)
row_reads s opcode r rows other false test here rest encoding at h d e = rest encoding at h d (rw test at e)

rows_read : (s : Section) (opcode : ℕ) (rows : List (Row Reading)) (other : Reading) → AllRead s rows → Reads s other → Reads s (among_or opcode rows other)
rows_read s opcode [] other all rest = rest
rows_read s opcode (r ∷ rows) other all rest = row_reads s opcode r rows other (opcode == r.opcode) refl all.0 (rows_read s opcode rows other all.1 rest)

extended_reads : (s : Section) → Inside s → (opcode : ℕ) → Reads s (extended_reading opcode)
extended_reads s inside opcode =
    let others : AllRead s other_rows = (plain_reads s _, (plain_reads s _, (plain_reads s _, (number_reads s inside _, tt)))) in
    let expressions : AllRead s expression_rows = (with_block_reads s inside _, (with_block_reads s inside _, tt)) in
    let offsets : AllRead s offset_rows = (two_reads s inside _, (with_signed_reads s inside _, (two_reads s inside _, (with_signed_reads s inside _, tt)))) in
    let registers : AllRead s register_rows = (number_reads s inside _, (number_reads s inside _, (two_reads s inside _, (number_reads s inside _, tt)))) in
    let cfas : AllRead s cfa_rows = (two_reads s inside _, (with_signed_reads s inside _, (number_reads s inside _, (number_reads s inside _, (signed_reads s inside _, (block_reads s inside _, tt)))))) in
    let creations : AllRead s creation_rows = (pointer_reads s inside _, (one_reads s inside _, (more_reads s inside 2 _, (more_reads s inside 4 _, tt)))) in
    rows_read s opcode creation_rows _ creations (rows_read s opcode cfa_rows _ cfas (rows_read s opcode register_rows _ registers (rows_read s opcode offset_rows _ offsets (rows_read s opcode expression_rows _ expressions (rows_read s opcode other_rows unknown others (unknown_reads s))))))

restore_by : (s : Section) (opcode : ℕ) (b : Bool) (offset restore : Reading) → Reads s offset → Reads s restore → Reads s (cond b offset restore)
restore_by s opcode true offset restore a c = a
restore_by s opcode false offset restore a c = c

opcode_reads : (s : Section) → Inside s → (opcode : ℕ) → Reads s (reading_of opcode)
unfolding reading_of
opcode_reads s inside opcode =
    restore_by s opcode (nat_lt opcode DW_CFA_advance_loc) _ _ (extended_reads s inside opcode)
    (restore_by s opcode (nat_lt opcode DW_CFA_offset) _ _ (plain_reads s _)
    (restore_by s opcode (nat_lt opcode DW_CFA_restore) _ _ (number_reads s inside _) (plain_reads s _)))

pub instruction_ends : (s : Section) → Inside s → (encoding : Encoding) (place : ℕ) (d : Decoded) → instruction_at s encoding place ≡ Ok d → Forward s (place + 1) d.next
instruction_ends s inside encoding place d h =
    let b = bind_ok (byte s.cells place) (λ (opcode : ℕ). reading_of opcode s encoding (place + 1)) d h in
    let ends = byte_ends s inside place b.0 (ok_or_ok (bytes_of s.cells place) Truncated b.0 b.1) in
    opcode_reads s inside b.0 encoding (place + 1) ends d b.2
