-- What stands in the fields of a structure. Where the fields of a Mach-O file's structures stand
-- (loader.h, nlist.h) is told by the constants of their modules.
use Rattle.std.specs.Prelude.{ℕ, Bool, List, take, drop}
use Rattle.std.specs.Str.{bytes_eq}
use Rattle.byteorder.specs.Endian.{little_number}
use Rattle.plcr_loader.specs.declared.field.Field.{Field}

-- the number in a field
unfoldable pub number : Field → List ℕ → ℕ
number field bytes = little_number field.size (drop field.at bytes)

-- the bytes of a field
unfoldable pub bytes_of : Field → List ℕ → List ℕ
bytes_of field bytes = take field.size (drop field.at bytes)

-- whether the field has this name, compared as all of its bytes
abbrev pub is_named : Field → List ℕ → List ℕ → Bool
is_named field name bytes = bytes_eq (bytes_of field bytes) name
