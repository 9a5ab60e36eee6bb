-- Lists of loaded images.
use Rattle.std.specs.Prelude.{ℕ, List, [], map, slice_index_or}
use Rattle.plcr_macho.specs.declared.list.PlainImage.{PlainImage}

-- a loaded image: the address of its header, and its name
pub record Listed : Type 0 where
  pub header : ℕ
  pub name : List ℕ

-- the image at an index, and an empty one past the end
abbrev pub listed_at : List Listed → ℕ → Listed
listed_at images i = slice_index_or images i (record { header = 0; name = [] })

-- what a plain list has
abbrev pub listed_of : PlainImage → Listed
listed_of image = record { header = image.header; name = image.name.items }

abbrev pub all_listed : List PlainImage → List Listed
all_listed images = map listed_of images
