-- Which image of a list has an address in its `__TEXT`.
use Rattle.std.specs.Prelude.{ℕ, ◌+◌, ◌-◌, nat_le, nat_lt, ◌&&◌, if◌then◌else◌, List, [], ◌∷◌, Option, Some, None, option_map, Result, Ok, Err}
use Rattle.std.specs.Option.{option_or}
use Rattle.plcr_memory.specs.Regions.{Contents}
use Rattle.plcr_regs.specs.declared.arch.Arch.{Arch}
use Rattle.plcr_macho.specs.declared.image.Image.{Image}
use Rattle.plcr_macho.specs.declared.image.ImageFault.{ImageFault}
use Rattle.plcr_macho.specs.Images.{Listed}
use Rattle.plcr_macho.specs.Loading.{image_at}

-- the image, where the address lies in its `__TEXT`
abbrev pub over : ℕ → Result Image ImageFault → Option Image
over address (Ok image) = if nat_le image.header address
    && nat_lt (address - image.header) image.text_size then Some image else None
over address (Err fault) = None

-- the first image of the list that has the address, with its index, counted from an index
abbrev pub first_over : Contents → Arch → ℕ → ℕ → List Listed → Option (ℕ × Image)
first_over memory arch address i [] = None
first_over memory arch address i (l ∷ ls) =
    option_or (option_map (λ image. (i, image)) (over address (image_at memory arch l.header)))
    (first_over memory arch address (i + 1) ls)
