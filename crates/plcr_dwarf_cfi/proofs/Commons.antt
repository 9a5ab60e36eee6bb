-- Common information entries, by what is kept of their texts.
use Rattle.std.proofs.Common.{◌≡◌, ℕ, ◌+◌, Bool, true, false, List, [], ◌∷◌, Option, Some, None, Ok, Err, Result, refl}
use Rattle.std.specs.Prelude.{ok_or}
use Rattle.plcr_base.specs.Chains.{◌>>=◌, result_map}
use Rattle.plcr_dwarf_cfi.specs.declared.entries.CommonInformation.{CommonInformation}
use Rattle.plcr_dwarf_cfi.specs.declared.entries.Extent.{Extent}
use Rattle.plcr_dwarf_cfi.specs.declared.entries.Version.{Version}
use Rattle.plcr_dwarf_cfi.specs.declared.fault.CallFrameFault.{CallFrameFault}
use Rattle.plcr_dwarf_cfi.specs.declared.fault.CallFrameFault.TheVariants.{UnknownVersion}
use Rattle.plcr_dwarf_cfi.specs.Entries.{Text, accepted, augmentation_text, common_in, common_of, is_accepted, letter_at, numbers_at, rest_at, text_of, version_of}
use Rattle.plcr_dwarf_cfi.specs.Lists.{Listed, listed}
use Rattle.plcr_dwarf_cfi.specs.Sections.{Section, byte}
use Rattle.plcr_dwarf_cfi.specs.inner.Texts.{common_by, rest_by, summary}

-- what stands behind the text
abbrev behind_text : Section → Extent → Version → Text → Result CommonInformation CallFrameFault
behind_text s e version text =
    numbers_at version s.cells text.next >>= λ numbers. rest_at s e text.letters numbers.next >>= λ rest. Ok (common_of e numbers rest)

abbrev behind_summary : Section → Extent → Version → List ℕ → Result Text CallFrameFault → Result CommonInformation CallFrameFault
behind_summary s e version letters text =
    result_map summary text >>= λ y. numbers_at version s.cells y.next >>= λ numbers. rest_by s e y.augmented letters numbers.next >>= λ rest. Ok (common_of e numbers rest)

by_letters : (s : Section) (e : Extent) (version : Version) (letters : List ℕ) (next : ℕ)
    → behind_text s e version (record { letters = letters; next = next }) ≡ behind_summary s e version letters (Ok (record { letters = letters; next = next }))
by_letters s e version [] next = refl
by_letters s e version (letter ∷ letters) next = refl

by_judgement : (s : Section) (e : Extent) (version : Version) (letters : List ℕ) (next : ℕ) (b : Bool) → is_accepted letters ≡ b
    → (accepted (record { letters = letters; next = next }) >>= behind_text s e version) ≡ behind_summary s e version letters (accepted (record { letters = letters; next = next }))
by_judgement s e version letters next true judged = rw judged (by_letters s e version letters next)
by_judgement s e version letters next false judged = rw judged refl

by_list : (s : Section) (e : Extent) (version : Version) (start : ℕ) (letters : List ℕ) (fault : Option CallFrameFault)
    → (text_of start (record { items = letters; fault = fault }) >>= accepted >>= behind_text s e version)
    ≡ behind_summary s e version letters (text_of start (record { items = letters; fault = fault }) >>= accepted)
by_list s e version start letters (Some fault) = refl
by_list s e version start letters None = by_judgement s e version letters _ (is_accepted letters) refl

by_version : (s : Section) (e : Extent) (version : Option Version)
    → (ok_or version UnknownVersion >>= λ v. augmentation_text s (e.start + 5) >>= behind_text s e v)
    ≡ (ok_or version UnknownVersion >>= λ v. behind_summary s e v (listed (letter_at s.cells) s.size (e.start + 5)).items (augmentation_text s (e.start + 5)))
by_version s e None = refl
by_version s e (Some version) =
    let list : Listed ℕ = listed (letter_at s.cells) s.size (e.start + 5) in
    by_list s e version (e.start + 5) list.items list.fault

by_byte : (s : Section) (e : Extent) (n : Result ℕ CallFrameFault)
    → (n >>= λ k. ok_or (version_of k) UnknownVersion >>= λ v. augmentation_text s (e.start + 5) >>= behind_text s e v)
    ≡ (n >>= λ k. ok_or (version_of k) UnknownVersion >>= λ v. behind_summary s e v (listed (letter_at s.cells) s.size (e.start + 5)).items (augmentation_text s (e.start + 5)))
by_byte s e (Err fault) = refl
by_byte s e (Ok n) = by_version s e (version_of n)

pub by_summary : (s : Section) (e : Extent) → common_in s e ≡ common_by s e
unfolding common_in
by_summary s e = by_byte s e (byte s.cells (e.start + 4))
