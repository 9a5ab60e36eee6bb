-- Fields that are messages of their own, once and repeated.
use Rattle.std.specs.Prelude.{ℕ, List, map}
use Rattle.plcr_wire.specs.Message.{Field, bytes_field, spelling}

-- a field that is a message of its own
abbrev pub message_field : ℕ → List Field → Field
message_field field message = bytes_field field (spelling message)

-- a field of this number for each of these, which are written as messages
abbrev pub message_fields : {A : Type 0} → ℕ → (A → List Field) → List A → List Field
message_fields number message xs = map (λ x. message_field number (message x)) xs
