-- Reading one field from the left, with the first fault that is met (Protocol Buffers
-- documentation, "Encoding"). Only the end of the message is passed down: a list that is left
-- begins at `end - length bytes`.
use Rattle.std.specs.Prelude.{◌≡◌, ℕ, Option, Some, None, ok_or, zero, suc, ◌+◌, ◌-◌, ◌*◌, ◌/◌, ◌%◌, ◌^◌, ◌||◌, ◌==◌, List, [], ◌∷◌, length, take, drop, slice_range, Result, Ok, Err, nat_lt, if◌then◌else◌}
use Rattle.std.specs.Int.{Width, w32, w64, byte_len, from_le_bytes}
use Rattle.plcr_base.specs.Chains.{◌>>=◌}
use Rattle.plcr_wire.specs.Wires.{wire_number}
use Rattle.plcr_wire.specs.Message as message
use Rattle.plcr_wire.specs.declared.varint.TheConstants.{VARINT_BYTES}
use Rattle.plcr_wire.specs.declared.fields.Field.{Field}
use Rattle.plcr_wire.specs.declared.fields.Value.{Value}
use Rattle.plcr_wire.specs.declared.fields.Value.TheVariants.{Varint, Fixed64, Span, Fixed32}
use Rattle.plcr_wire.specs.declared.fields.WireFault.{WireFault}
use Rattle.plcr_wire.specs.declared.fields.WireFault.TheVariants.{Truncated, BadVarint, BadTag}
use Rattle.plcr_wire.specs.declared.wires.Wire.{Wire}
use Rattle.plcr_wire.specs.declared.wires.Wire.TheVariants as wires
use Rattle.plcr_wire.specs.declared.slices.FieldSlice.{FieldSlice}
use Rattle.plcr_wire.specs.declared.slices.ValueSlice.{ValueSlice}
use Rattle.plcr_wire.specs.declared.slices.ValueSlice.TheVariants as slices

-- What a function returned, seen by view, is what reading gives.
abbrev pub Returns : {X Y E : Type 0} → (X → Y) → Result X E → Result Y E → Type 0
Returns view (Ok x) read = read ≡ Ok (view x)
Returns view (Err e) read = read ≡ Err e

-- A varint, of which k more groups may follow the next: its number, and what is left. The tenth
-- group has one bit.
abbrev pub varint_at : ℕ → ℕ → ℕ → List ℕ → Result (ℕ × List ℕ) WireFault
varint_at end first k [] = Err (Truncated end)
varint_at end first zero (b ∷ bs) = if nat_lt b 2 then Ok (b, bs) else Err (BadVarint first)
varint_at end first (suc k) (b ∷ bs) = if nat_lt b 128 then Ok (b, bs)
    else (varint_at end first k bs >>= λ n. Ok (b - 128 + 128 * n.0, n.1))

unfoldable pub number_at : ℕ → List ℕ → Result (ℕ × List ℕ) WireFault
number_at end bytes = varint_at end (end - length bytes) (VARINT_BYTES - 1) bytes

-- a number of a fixed width, lowest byte first
unfoldable pub fixed_at : Width → ℕ → List ℕ → Result (ℕ × List ℕ) WireFault
fixed_at w end bytes = if nat_lt (length bytes) (byte_len w) then Err (Truncated end)
    else Ok (from_le_bytes w (take (byte_len w) bytes), drop (byte_len w) bytes)

-- a length, and so many bytes
unfoldable pub text_at : ℕ → List ℕ → Result (List ℕ × List ℕ) WireFault
text_at end bytes = do
  n ← number_at end bytes
  if nat_lt (length n.1) n.0 then Err (Truncated end) else Ok (take n.0 n.1, drop n.0 n.1)

-- the wire type that these three bits of a tag name
abbrev pub wire_named : ℕ → Option Wire
wire_named n =
    if n == wire_number wires.Number then Some wires.Number
    else if n == wire_number wires.Fixed64 then Some wires.Fixed64
    else if n == wire_number wires.Bytes then Some wires.Bytes
    else if n == wire_number wires.Fixed32 then Some wires.Fixed32
    else None

-- the wire type of a tag, where its field is 1 to 2^29 - 1 and the type is one in use
abbrev pub tag_wire : ℕ → Option Wire
tag_wire t = if nat_lt t 8 || nat_lt (2 ^ 32 - 1) t then None else wire_named (t % 8)

-- a value of this wire type
unfoldable pub value_at : ℕ → Wire → List ℕ → Result (message.Value × List ℕ) WireFault
value_at end wires.Number bytes = number_at end bytes >>= λ n. Ok (message.Number n.0, n.1)
value_at end wires.Fixed64 bytes = fixed_at w64 end bytes >>= λ n. Ok (message.Fixed64 n.0, n.1)
value_at end wires.Bytes bytes = text_at end bytes >>= λ t. Ok (message.Bytes t.0, t.1)
value_at end wires.Fixed32 bytes = fixed_at w32 end bytes >>= λ n. Ok (message.Fixed32 n.0, n.1)

-- the field that these bytes begin with, and what is left
unfoldable pub field_at : ℕ → List ℕ → Result (message.Field × List ℕ) WireFault
field_at end bytes = do
  t ← number_at end bytes
  wire ← ok_or (tag_wire t.0) (BadTag (end - length bytes))
  v ← value_at end wire t.1
  Ok (record { number = t.0 / 8; value = v.0 }, v.1)

-- a value as it lies in memory
abbrev pub value_slice : ValueSlice → message.Value
value_slice (slices.Number n) = message.Number n
value_slice (slices.Fixed64 n) = message.Fixed64 n
value_slice (slices.Bytes bytes) = message.Bytes bytes.now
value_slice (slices.Fixed32 n) = message.Fixed32 n

-- how many bytes it has that may hold fields
abbrev pub value_slice_len : ValueSlice → ℕ
value_slice_len (slices.Bytes bytes) = length bytes.now
value_slice_len _ = 0

abbrev pub field_slice : FieldSlice → message.Field × List ℕ
field_slice p = (record { number = p.number; value = value_slice p.value }, p.rest.now)

-- a value that ends at this place
abbrev pub placed : ℕ → message.Value → Value
placed to (message.Number n) = Varint n
placed to (message.Fixed64 n) = Fixed64 n
placed to (message.Bytes bytes) = Span (to - length bytes) to
placed to (message.Fixed32 n) = Fixed32 n

-- the field that these bytes, up to `end`, begin with, with places for its bytes and for what is
-- left
unfoldable pub found_at : ℕ → List ℕ → Result Field WireFault
found_at end bytes = field_at end bytes >>= λ f.
    Ok (record {
      number = f.0.number;
      value = placed (end - length f.1) f.0.value;
      next = end - length f.1;
    })

-- the value that stands at these places
abbrev pub value_in : List ℕ → Value → message.Value
value_in bytes (Varint n) = message.Number n
value_in bytes (Fixed64 n) = message.Fixed64 n
value_in bytes (Span from to) = message.Bytes (slice_range bytes from to)
value_in bytes (Fixed32 n) = message.Fixed32 n

-- the message from `at` to `end` begins with this field, and what is left begins at the next place
abbrev pub Stands : List ℕ → ℕ → ℕ → Field → Type 0
Stands bytes at end f =
    field_at end (slice_range bytes at end)
    ≡ Ok (
      record { number = f.number; value = value_in bytes f.value },
      slice_range bytes f.next end,
    )
