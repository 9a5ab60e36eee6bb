-- Augmentation texts, letter by letter, and common information entries that were read last.
use Rattle.std.specs.Prelude.{◌≡◌, ℕ, ◌+◌, ◌==◌, Bool, true, false, if◌then◌else◌, List, [], ◌∷◌, length, Option, Some, None, IfSome, ok_or, Result, Ok, Err}
use Rattle.plcr_base.specs.Chains.{◌>>=◌, result_map}
use Rattle.plcr_dwarf_cfi.specs.declared.augmentations.TheConstants.{AUGMENTED}
use Rattle.plcr_dwarf_cfi.specs.declared.common.Recent.{Recent}
use Rattle.plcr_dwarf_cfi.specs.declared.common.Rest.{Rest}
use Rattle.plcr_dwarf_cfi.specs.declared.entries.CommonInformation.{CommonInformation}
use Rattle.plcr_dwarf_cfi.specs.declared.entries.Extent.{Extent}
use Rattle.plcr_dwarf_cfi.specs.declared.augmented.Summary.{Summary}
use Rattle.plcr_dwarf_cfi.specs.declared.augmented.TextForm.{TextForm}
use Rattle.plcr_dwarf_cfi.specs.declared.augmented.TextForm.TheVariants.{Empty, Accepted, Refused}
use Rattle.plcr_dwarf_cfi.specs.declared.fault.CallFrameFault.{CallFrameFault}
use Rattle.plcr_dwarf_cfi.specs.declared.fault.CallFrameFault.TheVariants.{UnknownAugmentation, UnknownVersion}
use Rattle.plcr_dwarf_cfi.specs.Entries.{Text, augmentation_from, augmentation_text, common_at, common_of, is_letter, letter_at, numbers_at, plain_pointers, version_of}
use Rattle.plcr_dwarf_cfi.specs.Lists.{Listed, listed}
use Rattle.plcr_dwarf_cfi.specs.Sections.{Section, byte, passed_over}

-- a text with one letter more
abbrev pub with_letter : TextForm → ℕ → TextForm
with_letter Empty letter = if letter == AUGMENTED then Accepted else Refused
with_letter Accepted letter = if is_letter letter then Accepted else Refused
with_letter Refused letter = Refused

abbrev pub with_letters : TextForm → List ℕ → TextForm
with_letters form [] = form
with_letters form (letter ∷ letters) = with_letters (with_letter form letter) letters

-- what is kept of a text that ends before a place
abbrev pub summary_of : TextForm → ℕ → Result Summary CallFrameFault
summary_of Empty next = Ok (record { augmented = false; next = next })
summary_of Accepted next = Ok (record { augmented = true; next = next })
summary_of Refused next = Err UnknownAugmentation

-- the same of a text of which letters have been read up to a place
abbrev pub unless : Option CallFrameFault → Result Summary CallFrameFault →
    Result Summary CallFrameFault
unless None result = result
unless (Some fault) result = Err fault

abbrev pub summarized : TextForm → ℕ → Listed ℕ → Result Summary CallFrameFault
summarized form place list =
    unless list.fault (summary_of (with_letters form list.items) (place + length list.items + 1))

-- the same of a text
abbrev pub has_letters : List ℕ → Bool
has_letters [] = false
has_letters (letter ∷ letters) = true

abbrev pub summary : Text → Summary
summary text = record { augmented = has_letters text.letters; next = text.next }

-- the common information entry that was read last is the one at its place
abbrev pub IsRecent : Section → Option Recent → Type 0
IsRecent s recent = IfSome recent (λ r. common_at s r.place ≡ Ok r.common)

-- a common information entry by what is kept of its text
abbrev pub rest_by : Section → Extent → Bool → List ℕ → ℕ → Result Rest CallFrameFault
rest_by s e false letters place =
    Ok (record {
      augmented = false;
      signal_frame = false;
      pointers = plain_pointers;
      instructions = place;
    })
rest_by s e true letters place =
    passed_over s e place >>= λ bytes.
    augmentation_from s letters bytes.value >>= λ a.
    Ok (record {
      augmented = true;
      signal_frame = a.signal_frame;
      pointers = a.pointers;
      instructions = bytes.next;
    })

abbrev pub common_by : Section → Extent → Result CommonInformation CallFrameFault
common_by s e =
    byte s.cells (e.start + 4) >>= λ n.
    ok_or (version_of n) UnknownVersion >>= λ version.
    result_map summary (augmentation_text s (e.start + 5)) >>= λ text.
    numbers_at version s.cells text.next >>= λ numbers.
    rest_by s e text.augmented (listed (letter_at s.cells) s.size (e.start + 5)).items numbers.next
    >>= λ rest.
    Ok (common_of e numbers rest)
