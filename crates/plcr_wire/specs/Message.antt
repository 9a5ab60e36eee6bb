-- A message as the list of its fields, and the bytes that spell it (Protocol Buffers documentation,
-- "Encoding").
use Rattle.std.specs.Prelude.{ℕ, ◌<◌, ◌^◌, List, [], ◌∷◌, ◌++◌, length}
use Rattle.std.specs.Int.{w32, w64, to_le_bytes}
use Rattle.plcr_wire.specs.Varint.{varint, tag}
use Rattle.plcr_wire.specs.Wires.{wire_number}
use Rattle.plcr_wire.specs.declared.wires.Wire.{Wire}
use Rattle.plcr_wire.specs.declared.wires.Wire.TheVariants as wires

-- A value of one of the four wire types in use. A text, a run of bytes and a submessage are the
-- bytes of their spelling.
pub data Value : Type 0 where
  Number : ℕ → Value
  Fixed64 : ℕ → Value
  Bytes : List ℕ → Value
  Fixed32 : ℕ → Value

pub record Field : Type 0 where
  pub number : ℕ
  pub value : Value

-- the wire type that a value is written with
abbrev pub value_wire : Value → Wire
value_wire (Number n) = wires.Number
value_wire (Fixed64 n) = wires.Fixed64
value_wire (Bytes bs) = wires.Bytes
value_wire (Fixed32 n) = wires.Fixed32

-- its number
abbrev pub wire_type : Value → ℕ
wire_type v = wire_number (value_wire v)

abbrev pub value_spelling : Value → List ℕ
value_spelling (Number n) = varint n
value_spelling (Fixed64 n) = to_le_bytes w64 n
value_spelling (Bytes bs) = varint (length bs) ++ bs
value_spelling (Fixed32 n) = to_le_bytes w32 n

-- a tag and a value
unfoldable pub field_spelling : Field → List ℕ
field_spelling f = tag f.number (wire_type f.value) ++ value_spelling f.value

-- the fields of a message, one after the other
abbrev pub spelling : List Field → List ℕ
spelling [] = []
spelling (f ∷ fs) = field_spelling f ++ spelling fs

-- a field that is a varint
abbrev pub number_field : ℕ → ℕ → Field
number_field field n = record { number = field; value = Number n }

-- a field that is a text or a run of bytes
abbrev pub bytes_field : ℕ → List ℕ → Field
bytes_field field bs = record { number = field; value = Bytes bs }

-- what stands before a submessage of so many bytes: its tag and its length
abbrev pub message_head : ℕ → ℕ → List ℕ
message_head field len = tag field (wire_number wires.Bytes) ++ varint len

-- the bytes that may hold a message, none in a number
abbrev pub value_bytes : Value → List ℕ
value_bytes (Number n) = []
value_bytes (Fixed64 n) = []
value_bytes (Bytes bs) = bs
value_bytes (Fixed32 n) = []

-- the values that have a spelling
abbrev pub FitsValue : Value → Type 0
FitsValue (Number n) = n < 2 ^ 64
FitsValue (Fixed64 n) = n < 2 ^ 64
FitsValue (Bytes bs) = length bs < 2 ^ 64
FitsValue (Fixed32 n) = n < 2 ^ 32

-- the fields that have a spelling
pub record FitsField (f : Field) : Type 0 where
  pub some : 0 < f.number
  pub within : f.number < 2 ^ 29
  pub fits : FitsValue f.value
