-- Encoded pointers: Linux Standard Base Core, "DWARF Exception Header Encoding".
use Rattle.std.specs.Prelude.{ℕ, ◌+◌, ◌-◌, ◌%◌, ◌^◌, ◌==◌, ◌||◌, nat_le, Bool, true, false, if◌then◌else◌, List, [], ◌∷◌, ok_or, Result, Ok, Err}
use Rattle.std.specs.Int.{w16, w32, w64, cast_signed, cast_unsigned}
use Rattle.plcr_base.specs.Chains.{◌>>=◌}
use Rattle.plcr_memory.specs.Regions.{number_at}
use Rattle.plcr_leb128.specs.declared.leb128.Number.{Number}
use Rattle.plcr_leb128.specs.Cells.{Source}
use Rattle.plcr_dwarf_expr.specs.Decoding.{among, row, Row}
use Rattle.plcr_dwarf_cfi.specs.declared.encodings.TheConstants.{DW_EH_PE_absptr, DW_EH_PE_uleb128, DW_EH_PE_udata2, DW_EH_PE_udata4, DW_EH_PE_udata8, DW_EH_PE_sleb128, DW_EH_PE_sdata2, DW_EH_PE_sdata4, DW_EH_PE_sdata8, DW_EH_PE_pcrel, DW_EH_PE_indirect}
use Rattle.plcr_dwarf_cfi.specs.declared.entries.Encoding.{Encoding}
use Rattle.plcr_dwarf_cfi.specs.declared.entries.Format.{Format}
use Rattle.plcr_dwarf_cfi.specs.declared.entries.Format.TheVariants.{Absptr, Uleb128, Udata2, Udata4, Udata8, Sleb128, Sdata2, Sdata4, Sdata8}
use Rattle.plcr_dwarf_cfi.specs.declared.fault.CallFrameFault.{CallFrameFault}
use Rattle.plcr_dwarf_cfi.specs.declared.fault.CallFrameFault.TheVariants.{Truncated, UnknownEncoding}
use Rattle.plcr_dwarf_cfi.specs.Sections.{Section, signed, sized, unsigned}

-- the formats of numbers
abbrev pub formats : List (Row Format)
formats =
    row DW_EH_PE_absptr Absptr ∷
    row DW_EH_PE_uleb128 Uleb128 ∷
    row DW_EH_PE_udata2 Udata2 ∷
    row DW_EH_PE_udata4 Udata4 ∷
    row DW_EH_PE_udata8 Udata8 ∷
    row DW_EH_PE_sleb128 Sleb128 ∷
    row DW_EH_PE_sdata2 Sdata2 ∷
    row DW_EH_PE_sdata4 Sdata4 ∷
    row DW_EH_PE_sdata8 Sdata8 ∷
    []

-- the format in the low four bits of an encoding
abbrev pub format_bits : ℕ → ℕ
format_bits n = n % DW_EH_PE_pcrel

-- how the number applies, in the next three bits
abbrev pub application_bits : ℕ → ℕ
application_bits n = n % DW_EH_PE_indirect - format_bits n

-- the encoding in a byte; one that counts from elsewhere than 0 or the pointer's own address isn't
-- accepted
unfoldable pub encoding_of : ℕ → Result Encoding CallFrameFault
encoding_of n =
    ok_or (among (format_bits n) formats) UnknownEncoding >>= λ format.
    if (application_bits n == DW_EH_PE_absptr) || (application_bits n == DW_EH_PE_pcrel) then
    Ok (record {
      format = format;
      relative = application_bits n == DW_EH_PE_pcrel;
      indirect = nat_le DW_EH_PE_indirect n;
    })
    else Err UnknownEncoding

-- the number of a pointer, modulo 2^64, and the place behind it
unfoldable pub number_of : Format → Source → ℕ → Result Number CallFrameFault
number_of Absptr source place = sized 8 source place (λ n. n)
number_of Uleb128 source place = unsigned source place
number_of Udata2 source place = sized 2 source place (λ n. n)
number_of Udata4 source place = sized 4 source place (λ n. n)
number_of Udata8 source place = sized 8 source place (λ n. n)
number_of Sleb128 source place = signed source place
number_of Sdata2 source place = sized 2 source place (λ n. cast_unsigned w64 (cast_signed w16 n))
number_of Sdata4 source place = sized 4 source place (λ n. cast_unsigned w64 (cast_signed w32 n))
number_of Sdata8 source place = sized 8 source place (λ n. n)

-- the address that a pointer's number at a place tells
abbrev pub told_address : Section → Bool → ℕ → ℕ → ℕ
told_address s true place n = (n + s.at + place) % 2 ^ 64
told_address s false place n = n

-- the pointer itself, where the address is only told to hold it
abbrev pub held_pointer : Section → Bool → ℕ → Result ℕ CallFrameFault
held_pointer s true address = ok_or (number_at 8 s.memory address) Truncated
held_pointer s false address = Ok address

-- the pointer at a place, and the place behind it
unfoldable pub pointer_at : Section → Encoding → ℕ → Result Number CallFrameFault
pointer_at s encoding place =
    number_of encoding.format s.cells place >>= λ number.
    held_pointer s encoding.indirect (told_address s encoding.relative place number.value)
    >>= λ pointer.
    Ok (record { value = pointer; next = number.next })
