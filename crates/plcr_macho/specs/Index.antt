-- The index of a list of images: where those that can be read have their `__TEXT`, and which of
-- them has an address.
use Rattle.std.specs.Prelude.{ℕ, zero, suc, ◌+◌, ◌-◌, min, Bool, nat_le, nat_lt, ◌==◌, ◌&&◌, if◌then◌else◌, List, [], ◌∷◌, ◌++◌, Option, Some, None, option_to_list, Result, Ok, Err}
use Rattle.std.specs.List.{find}
use Rattle.plcr_memory.specs.Regions.{Contents}
use Rattle.plcr_regs.specs.declared.arch.Arch.{Arch}
use Rattle.plcr_macho.specs.declared.image.Image.{Image}
use Rattle.plcr_macho.specs.declared.image.ImageFault.{ImageFault}
use Rattle.plcr_macho.specs.Images.{Listed}
use Rattle.plcr_macho.specs.Loading.{image_at}

-- an image that can be read: its position in the list, the address of its header, and the size of
-- its `__TEXT`
pub record Extent : Type 0 where
  pub position : ℕ
  pub header : ℕ
  pub size : ℕ

-- that of the image at a position, where it can be read
abbrev pub extent_at : ℕ → Result Image ImageFault → List Extent
extent_at i (Ok image) = record { position = i; header = image.header; size = image.text_size } ∷ []
extent_at i (Err fault) = []

-- those of a list of images, with positions counted from a number
abbrev pub extents_from : Contents → Arch → ℕ → List Listed → List Extent
extents_from memory arch i [] = []
extents_from memory arch i (l ∷ ls) =
    extent_at i (image_at memory arch l.header) ++ extents_from memory arch (i + 1) ls

-- the index of a list of images for a memory and an architecture
abbrev pub index_of : Contents → Arch → List Listed → List Extent
index_of memory arch images = extents_from memory arch 0 images

-- whether the address lies in the `__TEXT`
abbrev pub has_address : ℕ → Extent → Bool
has_address address e = nat_le e.header address && nat_lt (address - e.header) e.size

-- the lesser of a position and another, where there is another
abbrev pub lesser : ℕ → Option ℕ → ℕ
lesser i None = i
lesser i (Some j) = min i j

-- the least position of those that have the address
abbrev pub least_over : List Extent → ℕ → Option ℕ
least_over [] address = None
least_over (e ∷ es) address = if has_address address e
    then Some (lesser e.position (least_over es address)) else least_over es address

-- what an index answers; without one nothing
abbrev pub located : Option (List Extent) → ℕ → Option ℕ
located None address = None
located (Some es) address = least_over es address

-- the extents at so many positions from a number on, by position
abbrev pub ordered_from : ℕ → ℕ → List Extent → List Extent
ordered_from i zero es = []
ordered_from i (suc n) es =
    option_to_list (find (λ e. e.position == i) es) ++ ordered_from (i + 1) n es
