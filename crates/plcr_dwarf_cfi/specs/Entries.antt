-- The entries of `__eh_frame`: Linux Standard Base Core, "The .eh_frame section"; DWARF 4, section
-- 6.4.1.
use Rattle.std.specs.Prelude.{ℕ, ◌+◌, ◌-◌, ◌==◌, ◌&&◌, ◌||◌, nat_le, nat_lt, Bool, true, false, if◌then◌else◌, List, [], ◌∷◌, length, Option, Some, None, ok_or, Result, Ok, Err}
use Rattle.std.specs.List.{list_all}
use Rattle.plcr_base.specs.Chains.{◌>>=◌}
use Rattle.plcr_leb128.specs.declared.leb128.Number.{Number}
use Rattle.plcr_leb128.specs.Cells.{Source}
use Rattle.plcr_dwarf_cfi.specs.declared.augmentations.TheConstants.{AUGMENTED, POINTER_ENCODING, LANGUAGE_DATA, PERSONALITY, SIGNAL_FRAME}
use Rattle.plcr_dwarf_cfi.specs.declared.augmented.Augmentation.{Augmentation}
use Rattle.plcr_dwarf_cfi.specs.declared.common.Numbers.{Numbers}
use Rattle.plcr_dwarf_cfi.specs.declared.common.Rest.{Rest}
use Rattle.plcr_dwarf_cfi.specs.declared.encodings.TheConstants.{DW_EH_PE_omit}
use Rattle.plcr_dwarf_cfi.specs.declared.entries.CommonInformation.{CommonInformation}
use Rattle.plcr_dwarf_cfi.specs.declared.entries.Encoding.{Encoding}
use Rattle.plcr_dwarf_cfi.specs.declared.entries.Entry.{Entry}
use Rattle.plcr_dwarf_cfi.specs.declared.entries.Entry.TheVariants.{Common, Description}
use Rattle.plcr_dwarf_cfi.specs.declared.entries.Extent.{Extent}
use Rattle.plcr_dwarf_cfi.specs.declared.entries.Format.TheVariants.{Absptr}
use Rattle.plcr_dwarf_cfi.specs.declared.entries.FrameDescription.{FrameDescription}
use Rattle.plcr_dwarf_cfi.specs.declared.entries.Version.{Version}
use Rattle.plcr_dwarf_cfi.specs.declared.entries.Version.TheVariants.{One, Three}
use Rattle.plcr_dwarf_cfi.specs.declared.fault.CallFrameFault.{CallFrameFault}
use Rattle.plcr_dwarf_cfi.specs.declared.fault.CallFrameFault.TheVariants.{Truncated, NotCovered, UnknownVersion, UnknownAugmentation}
use Rattle.plcr_dwarf_cfi.specs.declared.sections.TheConstants.{EXTENDED_LENGTH}
use Rattle.plcr_dwarf_cfi.specs.Lists.{Listed, Step, ended, fold_until, listed}
use Rattle.plcr_dwarf_cfi.specs.Pointers.{encoding_of, number_of, pointer_at}
use Rattle.plcr_dwarf_cfi.specs.Sections.{Section, byte, fixed, passed_over, signed, unsigned, within}

-- what stands behind an entry's length: as many bytes as it says. A length of 32 bits with all bits
-- set is followed by one of 64 bits
abbrev pub extent_of : ℕ → ℕ → Extent
extent_of start length = record { start = start; end = start + length }

unfoldable pub extent_at : Section → ℕ → Result Extent CallFrameFault
extent_at s place =
    fixed 4 s.cells place >>= λ length.
    if length == EXTENDED_LENGTH
    then (fixed 8 s.cells (place + 4) >>= λ long. Ok (extent_of (place + 12) long)) else
    Ok (extent_of (place + 4) length)

-- the id of an entry
abbrev pub id_of : Section → Extent → Result ℕ CallFrameFault
id_of s e = fixed 4 (within s e).cells e.start

-- the versions that are read
abbrev pub version_of : ℕ → Option Version
version_of n = if n == 1 then Some One else if n == 3 then Some Three else None

-- augmentation texts: letters, ended by a byte 0
abbrev pub letter_at : Source → Step ℕ
letter_at source place = byte source place >>= λ letter.
    Ok (if letter == 0 then None else Some (letter, place + 1))

pub record Text : Type 0 where
  pub letters : List ℕ
  pub next : ℕ

abbrev pub text_of : ℕ → Listed ℕ → Result Text CallFrameFault
text_of place list =
    ended list.fault (record { letters = list.items; next = place + length list.items + 1 })

-- the text at a place, whole
abbrev pub text_at : Section → ℕ → Result Text CallFrameFault
text_at s place = text_of place (listed (letter_at s.cells) s.size place)

abbrev pub is_letter : ℕ → Bool
is_letter letter = (letter == POINTER_ENCODING) || (letter == LANGUAGE_DATA)
    || (letter == PERSONALITY) || (letter == SIGNAL_FRAME)

-- the texts that are accepted: none, or z and letters that are known
abbrev pub is_accepted : List ℕ → Bool
is_accepted [] = true
is_accepted (letter ∷ letters) = (letter == AUGMENTED) && list_all is_letter letters

abbrev pub accepted : Text → Result Text CallFrameFault
accepted text = if is_accepted text.letters then Ok text else Err UnknownAugmentation

-- the letters are judged when the text is read whole
abbrev pub augmentation_text : Section → ℕ → Result Text CallFrameFault
augmentation_text s place = text_at s place >>= accepted

-- where nothing says otherwise
abbrev pub plain_pointers : Encoding
plain_pointers = record { format = Absptr; relative = false; indirect = false }

-- augmentation data is read letter by letter
abbrev pub pointers_read : Section → Augmentation → Result Augmentation CallFrameFault
pointers_read s a =
    byte s.cells a.place >>= λ n. encoding_of n >>= λ encoding.
    Ok (record { place = a.place + 1; signal_frame = a.signal_frame; pointers = encoding })

abbrev pub moved_to : ℕ → Augmentation → Augmentation
moved_to place a = record { place = place; signal_frame = a.signal_frame; pointers = a.pointers }

abbrev pub language_read : Section → Augmentation → Result Augmentation CallFrameFault
language_read s a =
    byte s.cells a.place >>= λ n.
    if n == DW_EH_PE_omit then Ok (moved_to (a.place + 1) a) else
    (encoding_of n >>= λ encoding. Ok (moved_to (a.place + 1) a))

-- the pointer of a personality routine isn't needed, so only its number is read
abbrev pub personality_read : Section → Augmentation → Result Augmentation CallFrameFault
personality_read s a =
    byte s.cells a.place >>= λ n.
    if n == DW_EH_PE_omit then Ok (moved_to (a.place + 1) a) else
    (encoding_of n >>= λ encoding. number_of encoding.format s.cells (a.place + 1) >>= λ number.
    Ok (moved_to number.next a))

unfoldable pub letter_read : Section → ℕ → Augmentation → Result Augmentation CallFrameFault
letter_read s letter a =
    if letter == POINTER_ENCODING then pointers_read s a else
    if letter == LANGUAGE_DATA then language_read s a else
    if letter == PERSONALITY then personality_read s a else
    if letter == SIGNAL_FRAME
    then Ok (record { place = a.place; signal_frame = true; pointers = a.pointers }) else Ok a

abbrev pub never : {S : Type 0} → S → Bool
never state = false

abbrev pub augmentation_from : Section → List ℕ → ℕ → Result Augmentation CallFrameFault
augmentation_from s letters place =
    fold_until (letter_read s) never letters None
    (record { place = place; signal_frame = false; pointers = plain_pointers })

-- the column of the return address: one byte in version 1, a LEB128 number in version 3
abbrev pub return_register : Version → Source → ℕ → Result Number CallFrameFault
return_register One source place = byte source place >>= λ n.
    Ok (record { value = n; next = place + 1 })
return_register Three source place = unsigned source place

-- the numbers of a common information entry
abbrev pub numbers_at : Version → Source → ℕ → Result Numbers CallFrameFault
numbers_at version source place =
    unsigned source place >>= λ code.
    signed source code.next >>= λ factor.
    return_register version source factor.next >>= λ column.
    Ok (record {
      code_factor = code.value;
      data_factor = factor.value;
      column = column.value;
      next = column.next;
    })

-- the augmentation of a common information entry, and where its instructions stand: behind the
-- augmentation data as its length tells, whatever the letters read
abbrev pub rest_at : Section → Extent → List ℕ → ℕ → Result Rest CallFrameFault
rest_at s e [] place =
    Ok (record {
      augmented = false;
      signal_frame = false;
      pointers = plain_pointers;
      instructions = place;
    })
rest_at s e (letter ∷ letters) place =
    passed_over s e place >>= λ bytes.
    augmentation_from s (letter ∷ letters) bytes.value >>= λ a.
    Ok (record {
      augmented = true;
      signal_frame = a.signal_frame;
      pointers = a.pointers;
      instructions = bytes.next;
    })

abbrev pub common_of : Extent → Numbers → Rest → CommonInformation
common_of e numbers rest = record {
  augmented = rest.augmented;
  signal_frame = rest.signal_frame;
  code_alignment_factor = numbers.code_factor;
  data_alignment_factor = numbers.data_factor;
  return_address_register = numbers.column;
  pointers = rest.pointers;
  initial_instructions = record { start = rest.instructions; end = e.end };
}

-- the fields of a common information entry behind its id, as far as its instructions
unfoldable pub common_in : Section → Extent → Result CommonInformation CallFrameFault
common_in s e =
    byte s.cells (e.start + 4) >>= λ n.
    ok_or (version_of n) UnknownVersion >>= λ version.
    augmentation_text s (e.start + 5) >>= λ text.
    numbers_at version s.cells text.next >>= λ numbers.
    rest_at s e text.letters numbers.next >>= λ rest.
    Ok (common_of e numbers rest)

-- the common information entry at a place, whose id isn't tested
unfoldable pub common_at : Section → ℕ → Result CommonInformation CallFrameFault
common_at s place = extent_at s place >>= λ e. id_of s e >>= λ id. common_in (within s e) e

-- the common information entry so many bytes before the id of a frame description entry
abbrev pub common_before : Section → ℕ → ℕ → Result CommonInformation CallFrameFault
common_before s place id = if nat_lt place id then Err Truncated else common_at s (place - id)

-- a frame description entry through its range, which is a number of the same format as the pointer
-- before it
unfoldable pub description_in : Section → Extent → CommonInformation →
    Result FrameDescription CallFrameFault
description_in s e common =
    pointer_at s common.pointers (e.start + 4) >>= λ start.
    number_of common.pointers.format s.cells start.next >>= λ range.
    Ok (record {
      common = common;
      initial_location = start.value;
      address_range = range.value;
      rest = record { start = range.next; end = e.end };
    })

abbrev pub description_at : Section → Extent → ℕ → Result Entry CallFrameFault
description_at s e id = common_before s e.start id >>= λ common.
    description_in (within s e) e common >>= λ d. Ok (Description d)

-- the entry of an extent: one with an id of 0 is a common information entry
abbrev pub entry_of : Section → Extent → ℕ → Result Entry CallFrameFault
entry_of s e id = if id == 0 then (common_in (within s e) e >>= λ c. Ok (Common c))
    else description_at s e id

-- the entry at a place, and the place of the next one; a length of 0 ends the list, and so does the
-- section's end
unfoldable pub entry_at : Section → Step Entry
entry_at s place =
    if nat_le s.size place then Ok None else
    (extent_at s place >>= λ e.
    if e.end == e.start then Ok None else
    (id_of s e >>= λ id. entry_of s e id >>= λ entry. Ok (Some (entry, e.end))))

-- the entries of a section. Each takes some of its bytes, and one step more meets the end
unfoldable pub entries_of : Section → Listed Entry
entries_of s = listed (entry_at s) (s.size + 1) 0

-- whether a frame description entry is one of code at an address
abbrev pub covers : FrameDescription → ℕ → Bool
covers d a = nat_le d.initial_location a && nat_lt (a - d.initial_location) d.address_range

abbrev pub description_over : ℕ → Entry → Option FrameDescription
description_over a (Common c) = None
description_over a (Description d) = if covers d a then Some d else None

-- the first that covers the address, where no bad entry stands before it
abbrev pub or_behind : Option FrameDescription → Result FrameDescription CallFrameFault →
    Result FrameDescription CallFrameFault
or_behind (Some d) rest = Ok d
or_behind None rest = rest

abbrev pub at_end : Option CallFrameFault → Result FrameDescription CallFrameFault
at_end None = Err NotCovered
at_end (Some fault) = Err fault

abbrev pub first_over : ℕ → List Entry → Option CallFrameFault →
    Result FrameDescription CallFrameFault
first_over a [] fault = at_end fault
first_over a (entry ∷ entries) fault =
    or_behind (description_over a entry) (first_over a entries fault)

abbrev pub found_in : ℕ → Listed Entry → Result FrameDescription CallFrameFault
found_in a list = first_over a list.items list.fault

-- the frame description entry of the code at an address
unfoldable pub description_for : Section → ℕ → Result FrameDescription CallFrameFault
description_for s a = found_in a (entries_of s)
