-- The images looked at so far don't have the address.
use Rattle.std.proofs.Common.{◌≡◌, ◌≤◌, ◌<◌, ℕ, zero, suc, ◌+◌, List, [], ◌∷◌, length, drop, Option, Some, None, refl, ap, subst, ◌∙◌, arith}
use Rattle.std.specs.Option.{option_or, option_map}
use Rattle.plcr_memory.specs.Regions.{Contents}
use Rattle.plcr_regs.specs.declared.arch.Arch.{Arch}
use Rattle.plcr_macho.specs.declared.image.Image.{Image}
use Rattle.plcr_macho.specs.Images.{Listed, listed_at}
use Rattle.plcr_macho.specs.Loading.{image_at}
use Rattle.plcr_macho.specs.Containing.{first_over, over}

-- the first image that has the address is the first from an index on
abbrev pub FirstFrom : Contents → Arch → ℕ → List Listed → ℕ → Type 0
FirstFrom m arch address images i = first_over m arch address i (drop i images) ≡ first_over m arch address 0 images

pub drop_here : (images : List Listed) (i : ℕ) → i < length images → drop i images ≡ listed_at images i ∷ drop (i + 1) images
drop_here [] i h = absurd (omega arith)
drop_here (l ∷ ls) zero h = refl
drop_here (l ∷ ls) (suc i) h =
    let e : suc (i + 1) ≡ suc i + 1 = omega arith in
    drop_here ls i (omega (arith, h)) ∙ ap (λ (n : ℕ). listed_at ls i ∷ drop n (l ∷ ls)) e

pub drop_past : (images : List Listed) (i : ℕ) → length images ≤ i → drop i images ≡ []
drop_past [] zero h = refl
drop_past [] (suc i) h = refl
drop_past (l ∷ ls) zero h = absurd (omega arith)
drop_past (l ∷ ls) (suc i) h = drop_past ls i (omega (arith, h))

here_first : (m : Contents) (arch : Arch) (address : ℕ) (images : List Listed) (i : ℕ) → FirstFrom m arch address images i → i < length images
    → option_or (option_map (λ image. (i, image)) (over address (image_at m arch (listed_at images i).header))) (first_over m arch address (i + 1) (drop (i + 1) images)) ≡ first_over m arch address 0 images
here_first m arch address images i h more = subst (λ (ls : List Listed). first_over m arch address i ls ≡ first_over m arch address 0 images) (drop_here images i more) h

-- an image that hasn't the address
pub passes_over : (m : Contents) (arch : Arch) (address : ℕ) (images : List Listed) (i : ℕ) → FirstFrom m arch address images i → i < length images
    → None ≡ over address (image_at m arch (listed_at images i).header) → FirstFrom m arch address images (i + 1)
passes_over m arch address images i h more none =
    ap (λ (o : Option Image). option_or (option_map (λ (image : Image). let p : ℕ × Image = (i, image) in p) o) (first_over m arch address (i + 1) (drop (i + 1) images))) none
    ∙ here_first m arch address images i h more

-- an image that has it
pub stops_at : (m : Contents) (arch : Arch) (address : ℕ) (images : List Listed) (i : ℕ) (image : Image) → FirstFrom m arch address images i → i < length images
    → Some image ≡ over address (image_at m arch (listed_at images i).header) → Some (i, image) ≡ first_over m arch address 0 images
stops_at m arch address images i image h more found =
    ap (λ (o : Option Image). option_or (option_map (λ (image : Image). let p : ℕ × Image = (i, image) in p) o) (first_over m arch address (i + 1) (drop (i + 1) images))) found
    ∙ here_first m arch address images i h more

-- no image has it
pub none_over : (m : Contents) (arch : Arch) (address : ℕ) (images : List Listed) (i : ℕ) → FirstFrom m arch address images i → length images ≤ i → None ≡ first_over m arch address 0 images
none_over m arch address images i h none_left = subst (λ (ls : List Listed). first_over m arch address i ls ≡ first_over m arch address 0 images) (drop_past images i none_left) h
