-- The first fault of a message's bytes, in reading order, with each known submessage read where it
-- stands.
use Rattle.std.specs.Prelude.{◌≡◌, ◌<◌, ℕ, zero, suc, ◌-◌, ◌==◌, Bool, true, List, [], ◌∷◌, length, Option, Some, None, Result, Ok, Err, if◌then◌else◌}
use Rattle.plcr_wire.specs.Message.{Value, wire_type, value_bytes}
use Rattle.plcr_base.specs.Chains.{◌>>=◌}
use Rattle.plcr_wire.specs.Reading.{field_at}
use Rattle.plcr_wire.specs.Wires.{wire_number}
use Rattle.plcr_wire.specs.declared.wires.Wire.TheVariants as wires
use Rattle.plcr_wire.specs.declared.fields.WireFault.{WireFault}
use Rattle.plcr_wire.specs.declared.fields.WireFault.TheVariants as wire
use Rattle.plcr_report.specs.Schema.{rule}
use Rattle.plcr_report.specs.declared.kinds.Kind.{Kind}
use Rattle.plcr_report.specs.declared.kinds.Holds.{Holds}
use Rattle.plcr_report.specs.declared.kinds.Holds.TheVariants as holds
use Rattle.plcr_decode.specs.declared.faults.DecodeFault.{DecodeFault}
use Rattle.plcr_decode.specs.declared.faults.DecodeFault.TheVariants.{Truncated, BadVarint, BadTag, WrongWire}

-- a fault of one field is one of the report
abbrev pub of_wire : WireFault → DecodeFault
of_wire (wire.Truncated at) = Truncated at
of_wire (wire.BadVarint at) = BadVarint at
of_wire (wire.BadTag at) = BadTag at

abbrev pub lifted : {A : Type 0} → Result A WireFault → Result A DecodeFault
lifted (Ok x) = Ok x
lifted (Err e) = Err (of_wire e)

-- the wire type of what a field holds
abbrev pub wire_of : Holds → ℕ
wire_of holds.Number = wire_number wires.Number
wire_of holds.Text = wire_number wires.Bytes
wire_of (holds.Message kind) = wire_number wires.Bytes

-- the value has the wire type of its field; one of an unknown field has any
abbrev pub fits : Option Holds → Value → Bool
fits None v = true
fits (Some h) v = wire_of h == wire_type v

-- What is read after a field's own bytes: first the message in it, then the rest of the message
-- around it.
pub record Step : Type 0 where
  pub kind : Kind
  pub text : List ℕ
  pub rest : List ℕ

-- the message that stands in a field; an empty one where the field holds none
abbrev pub inside : Kind → Option Holds → Value → List ℕ → Step
inside kind None v rest = record { kind = kind; text = []; rest = rest }
inside kind (Some holds.Number) v rest = record { kind = kind; text = []; rest = rest }
inside kind (Some holds.Text) v rest = record { kind = kind; text = []; rest = rest }
inside kind (Some (holds.Message inner)) v rest =
    record { kind = inner; text = value_bytes v; rest = rest }

-- the field that a message's bytes begin with, and what is read after it; its wire type is tested
-- last
unfoldable pub step_at : Kind → ℕ → List ℕ → Result Step DecodeFault
step_at kind end bytes = lifted (field_at end bytes) >>= λ f.
    (if fits (rule kind f.0.number) f.0.value
    then Ok (inside kind (rule kind f.0.number) f.0.value f.1)
    else Err (WrongWire f.0.number (end - length bytes)))

abbrev pub scan_within : ℕ → Kind → ℕ → List ℕ → Result (Unit {0}) DecodeFault
scan_within zero kind end bytes = Ok tt
scan_within (suc k) kind end [] = Ok tt
scan_within (suc k) kind end (b ∷ bs) = step_at kind end (b ∷ bs) >>= λ s.
    (scan_within k s.kind (end - length s.rest) s.text >>= λ u. scan_within k kind end s.rest)

-- the first fault of a message that ends at this place; each field has a byte at least
unfoldable pub scan : Kind → ℕ → List ℕ → Result (Unit {0}) DecodeFault
scan kind end bytes = scan_within (length bytes) kind end bytes

-- a message's scan by the scans of its parts: its first field, the message within that, and what is
-- left; no part of it is cut off
pub record ScanByParts : Type 0 where
  pub none : (kind : Kind) (end : ℕ) → scan kind end [] ≡ Ok tt
  pub step : (kind : Kind) (end : ℕ) (bytes : List ℕ) → 0 < length bytes
      → scan kind end bytes
      ≡ (step_at kind end bytes >>= λ s.
      (scan s.kind (end - length s.rest) s.text >>= λ u. scan kind end s.rest))
