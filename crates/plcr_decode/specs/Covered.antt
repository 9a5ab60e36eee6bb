-- A list of fields that leaves nothing out.
use Rattle.std.specs.Prelude.{◌≡◌, ℕ, List, [], ◌∷◌, length, Ok}
use Rattle.plcr_wire.specs.Message.{Field}
use Rattle.plcr_wire.specs.Reading.{field_at}
use Rattle.plcr_report.specs.declared.kinds.Kind.{Kind}
use Rattle.plcr_decode.specs.Fields.{fields_of}
use Rattle.plcr_decode.specs.Scan.{scan}

-- the bytes are those of these fields, one after the other, and nothing else
abbrev pub AreFieldsOf : List Field → List ℕ → Type 0
AreFieldsOf [] bytes = bytes ≡ []
AreFieldsOf (f ∷ fs) bytes = (rest : List ℕ) × (field_at (length bytes) bytes ≡ Ok (f, rest))
    × AreFieldsOf fs rest

-- where a message has no fault in reading order, its fields are all its bytes
abbrev pub FieldsCover : Type 0
FieldsCover = (kind : Kind) (end : ℕ) (bytes : List ℕ) → scan kind end bytes ≡ Ok tt →
    AreFieldsOf (fields_of bytes) bytes
