-- What stands in memory, as contracts see it.
use Rattle.std.specs.Prelude.{ℕ, ◌+◌, List, ◌++◌, length, Option, Some, None}
use Rattle.std.specs.Borrow.{Bor}
use Rattle.plcr_wire.specs.Message.{Field}
use Rattle.plcr_wire.specs.Reading.{value_slice}
use Rattle.plcr_report.specs.declared.kinds.Kind.{Kind}
use Rattle.plcr_decode.specs.Fields.{fields_of, joined}
use Rattle.plcr_decode.specs.declared.fields.Fields.{Fields}
use Rattle.plcr_decode.specs.Scan as spec
use Rattle.plcr_decode.specs.declared.scanning.Step.{Step}

-- what is read after a field's own bytes
abbrev pub step_view : Kind → Step → spec.Step
step_view kind s = spec.inside kind s.holds (value_slice s.field.value) s.field.rest.now

-- the fields that a cursor has left
abbrev pub left : Fields → List Field
left f = fields_of f.part.now ++ joined f.number (fields_of f.outer.now)

-- how many bytes it has left
abbrev pub size : Fields → ℕ
size f = length f.part.now + length f.outer.now

-- a text where it lies
abbrev pub told : Option (Bor (List ℕ)) → Option (List ℕ)
told None = None
told (Some text) = Some text.now
