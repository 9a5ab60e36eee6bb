-- What is kept of the images of a memory.
use Rattle.std.specs.Prelude.{◌≡◌, ℕ, Option, Some, None}
use Rattle.std.specs.Result.{result_ok}
use Rattle.plcr_memory.specs.Regions.{Contents}
use Rattle.plcr_regs.specs.declared.arch.Arch.{Arch}
use Rattle.plcr_macho.specs.declared.image.Image.{Image}
use Rattle.plcr_macho.specs.Loading.{image_at}
use Rattle.plcr_cursor.specs.declared.known.KnownImage.{KnownImage}

-- the image that stands at a header, if there is one
abbrev pub IsImage : Contents → Arch → ℕ → Option Image → Type 0
IsImage memory arch header image = image ≡ result_ok (image_at memory arch header)

-- what a slot has is so
abbrev pub Holds : Contents → Option KnownImage → Type 0
Holds memory None = Unit {0}
Holds memory (Some known) = IsImage memory known.arch known.header known.image
