-- How long fields are.
use Rattle.std.proofs.Common.{◌≡◌, ℕ, ◌+◌, ◌*◌, ◌^◌, ◌<◌, ◌≤◌, List, ◌++◌, length, refl, arith, length-append}
use Rattle.plcr_wire.specs.Varint.{varint, tag}
use Rattle.plcr_wire.specs.Message.{field_spelling, number_field, bytes_field}
use Rattle.plcr_wire.proofs.Varints.{varint_short}

pub number_length : (field value : ℕ) → length (field_spelling (number_field field value)) ≡ length (tag field 0) + length (varint value)
unfolding field_spelling
number_length field value = rw length-append refl

pub bytes_length : (field : ℕ) (bytes : List ℕ) → length (field_spelling (bytes_field field bytes)) ≡ length (tag field 2) + length (varint (length bytes)) + length bytes
unfolding field_spelling
bytes_length field bytes = rw (length-append (tag field 2) (varint (length bytes) ++ bytes), length-append (varint (length bytes)) bytes) (omega arith)

-- and their bounds
pub number_short : (field value : ℕ) → field < 2 ^ 32 → value < 2 ^ 64 → length (field_spelling (number_field field value)) ≤ 20
unfolding tag
number_short field value small fits =
    let head : length (varint (field * 8 + 0)) ≤ 10 = varint_short (field * 8 + 0) (omega arith) in
    let rest : length (varint value) ≤ 10 = varint_short value fits in
    let whole : length (field_spelling (number_field field value)) ≡ length (varint (field * 8 + 0)) + length (varint value) = number_length field value in
    omega arith

pub bytes_short : (field : ℕ) (bytes : List ℕ) → field < 2 ^ 32 → length bytes < 2 ^ 64 → length (field_spelling (bytes_field field bytes)) ≤ 20 + length bytes
unfolding tag
bytes_short field bytes small fits =
    let head : length (varint (field * 8 + 2)) ≤ 10 = varint_short (field * 8 + 2) (omega arith) in
    let rest : length (varint (length bytes)) ≤ 10 = varint_short (length bytes) fits in
    let whole : length (field_spelling (bytes_field field bytes)) ≡ length (varint (field * 8 + 2)) + length (varint (length bytes)) + length bytes = bytes_length field bytes in
    omega arith
