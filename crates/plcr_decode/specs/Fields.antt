-- A message as the whole list of its fields, and what stands in it (Protocol Buffers documentation,
-- "Encoding").
use Rattle.std.specs.Prelude.{ℕ, zero, suc, ◌==◌, Bool, true, false, List, [], ◌∷◌, ◌++◌, length, Option, Some, None, Result, Ok, Err, if◌then◌else◌}
use Rattle.plcr_wire.specs.Message.{Value, Number, Fixed64, Bytes, Fixed32, Field, value_bytes}
use Rattle.plcr_wire.specs.Reading.{field_at}
use Rattle.plcr_wire.specs.declared.fields.WireFault.{WireFault}

-- a field and those after it, or none at a fault
abbrev pub front_of : (List ℕ → List Field) → Result (Field × List ℕ) WireFault → List Field
front_of more (Ok f) = f.0 ∷ more f.1
front_of more (Err e) = []

-- at most so many of the fields that these bytes begin with
abbrev pub fields_within : ℕ → List ℕ → List Field
fields_within zero bytes = []
fields_within (suc k) bytes = front_of (fields_within k) (field_at (length bytes) bytes)

-- the fields that these bytes spell, up to a fault; each has a byte at least
unfoldable pub fields_of : List ℕ → List Field
fields_of bytes = fields_within (length bytes) bytes

-- the messages that stand in the fields of this number, each as its own fields
abbrev pub messages_in : ℕ → List Field → List (List Field)
messages_in n [] = []
messages_in n (f ∷ fs) = if f.number == n then fields_of (value_bytes f.value) ∷ messages_in n fs
    else messages_in n fs

-- lists of fields, one after the other
abbrev pub together : List (List Field) → List Field
together [] = []
together (fs ∷ others) = fs ++ together others

-- the fields of the one message whose parts stand in the fields of this number: parts are merged
abbrev pub joined : ℕ → List Field → List Field
joined n fs = together (messages_in n fs)

-- the value of the last field of this number, or this one where there is none
abbrev pub last_or : Option Value → ℕ → List Field → Option Value
last_or before n [] = before
last_or before n (f ∷ fs) = last_or (if f.number == n then Some f.value else before) n fs

-- the value of the last field of this number: of several, the last counts
abbrev pub last_value : ℕ → List Field → Option Value
last_value n fs = last_or None n fs

-- whether there is a value
abbrev pub is_there : Option Value → Bool
is_there None = false
is_there (Some v) = true

-- whether a field of this number stands there
abbrev pub has : ℕ → List Field → Bool
has n fs = is_there (last_value n fs)

-- the number that a value is
abbrev pub value_number : Value → ℕ
value_number (Number n) = n
value_number (Fixed64 n) = 0
value_number (Bytes bs) = 0
value_number (Fixed32 n) = 0

abbrev pub number_of : Option Value → Option ℕ
number_of None = None
number_of (Some v) = Some (value_number v)

abbrev pub bytes_of : Option Value → Option (List ℕ)
bytes_of None = None
bytes_of (Some v) = Some (value_bytes v)

-- the number that stands in the last field of this number
abbrev pub number_in : ℕ → List Field → Option ℕ
number_in n fs = number_of (last_value n fs)

-- the text or bytes that stand in the last field of this number
abbrev pub text_in : ℕ → List Field → Option (List ℕ)
text_in n fs = bytes_of (last_value n fs)

-- a number, 0 where there is none
abbrev pub or_zero : Option ℕ → ℕ
or_zero None = 0
or_zero (Some n) = n

-- a text, empty where there is none
abbrev pub or_empty : Option (List ℕ) → List ℕ
or_empty None = []
or_empty (Some bytes) = bytes
