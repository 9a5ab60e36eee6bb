-- Which image is written of a list's entry.
use Rattle.std.proofs.Common.{◌≡◌, ℕ, List, Result, ap, ◌∙◌}
use Rattle.plcr_memory.specs.Regions.{Contents}
use Rattle.plcr_regs.specs.declared.arch.Arch.{Arch}
use Rattle.plcr_macho.specs.declared.image.ImageFault.{ImageFault}
use Rattle.plcr_macho.specs.declared.image.Image.{Image}
use Rattle.plcr_macho.specs.Images.{Listed, listed_at}
use Rattle.plcr_macho.specs.Loading.{image_at}
use Rattle.plcr_encode.specs.Images.{image_with, image_of}

-- a header and a name that were read from a list at an index, and what was found at the header
pub image_is : (memory : Contents) (arch : Arch) (listed later : List Listed) (i header : ℕ) (name : List ℕ) (found : Result Image ImageFault)
    → header ≡ (listed_at listed i).header → later ≡ listed → name ≡ (listed_at later i).name → found ≡ image_at memory arch header
    → image_with (record { header = header; name = name }) found ≡ image_of memory arch (listed_at listed i)
image_is memory arch listed later i header name found at same named parsed =
    let name_is : name ≡ (listed_at listed i).name = named ∙ ap (λ l. (listed_at l i).name) same in
    let found_is : found ≡ image_at memory arch (listed_at listed i).header = parsed ∙ ap (image_at memory arch) at in
    λ k. image_with (record { header = at k; name = name_is k }) (found_is k)
