-- The last values of a message's fields and how many there are, as they lie in memory.
use Rattle.std.specs.Prelude.{◌≡◌, ℕ, suc, ◌+◌, ◌==◌, ◌<◌, List, [], ◌∷◌, length, slice_index_or, Option, Some, None, if◌then◌else◌}
use Rattle.plcr_wire.specs.Message.{Value, Field, value_bytes}
use Rattle.plcr_wire.specs.Reading.{value_slice}
use Rattle.plcr_wire.specs.declared.slices.ValueSlice.{ValueSlice}
use Rattle.plcr_wire.specs.declared.slices.ValueSlice.TheVariants as slices
use Rattle.plcr_decode.specs.Fields.{fields_of, messages_in, last_or, last_value}
use Rattle.plcr_decode.specs.declared.found.TheConstants.{NUMBERS}
use Rattle.plcr_decode.specs.declared.found.Kept.{Kept}

-- the value of a field, where there is one
abbrev pub told_value : Option ValueSlice → Option Value
told_value None = None
told_value (Some c) = Some (value_slice c)

-- nothing is kept
abbrev pub nothing : Kept
nothing = record { value = slices.Number 0; count = 0 }

-- what is kept under a number
abbrev pub under : List Kept → ℕ → Kept
under kept n = slice_index_or kept n nothing

-- the last value
abbrev pub shown : Kept → Option Value
shown k = if k.count == 0 then None else Some (value_slice k.value)

-- the same, once one more stands there
abbrev pub again : Kept → ValueSlice → Kept
again k c = record { value = c; count = suc k.count }

-- What is kept under a number and the fields that are left give its last value and how many there
-- are; of none or of one, also its messages.
pub record KeepsOne (k : Kept) (n : ℕ) (whole rest : List Field) : Type 0 where
  pub value : last_or (shown k) n rest ≡ last_value n whole
  pub count : k.count + length (messages_in n rest) ≡ length (messages_in n whole)
  pub none : k.count ≡ 0 → messages_in n whole ≡ messages_in n rest
  pub only : k.count ≡ 1 → messages_in n whole ≡ fields_of (value_bytes (value_slice k.value))
      ∷ messages_in n rest

-- the same under each number
abbrev pub KeepsUpTo : List Kept → List Field → List Field → Type 0
KeepsUpTo kept whole rest = (n : ℕ) → n < NUMBERS → KeepsOne (under kept n) n whole rest

-- and no field is left
abbrev pub Keeps : List Kept → List Field → Type 0
Keeps kept whole = KeepsUpTo kept whole []
