-- The names of files in scripts are text.
use Rattle.std.proofs.Common.{◌≤◌, ℕ, List, IsTrue, arith}
use Rattle.std.specs.Prelude.{nat_le, slice_index_or}
use Rattle.std.specs.Str.{IsUtf8}
use Rattle.std.proofs.lemmas.Str.{IsUtf8-from_ascii}
use Rattle.std.proofs.lemmas.Str.Ascii.{IsAscii-from_all}
use Rattle.std.proofs.lemmas.List.Sums.{AllPass-from_list_all}
use Rattle.std.proofs.lemmas.Bool.{and_parts, leb-true}
use Rattle.plcr_script.specs.Sayings.{is_file_name, is_visible}

-- the name of a file is text of visible ASCII characters
pub file_name_is_text : (name : List ℕ) → IsTrue (is_file_name name) → IsUtf8 name
file_name_is_text name is =
    let parts = and_parts _ _ is in
    let more = and_parts _ _ parts.1 in
    let each = AllPass-from_list_all is_visible name more.1 in
    IsUtf8-from_ascii name (IsAscii-from_all name (λ k d below.
    let b = slice_index_or name k d in
    let low = and_parts (nat_le 0x21 b) (nat_le b 0x7e) (each k d below) in
    let top : b ≤ 0x7e = leb-true b 0x7e low.1 in
    omega arith))
