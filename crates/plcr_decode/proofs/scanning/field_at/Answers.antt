-- The list of fields begins as the bytes do.
use Rattle.plcr_wire.specs.Reading.{field_slice}
use Rattle.plcr_decode.proofs.Listed.{fields_any}
use Rattle.plcr_decode.proofs.scanning.field_at.Goals as goal

pub returns-in-Ok-clause-field : goal.returns-in-Ok-clause-field
returns-in-Ok-clause-field c = fields_any c.args.end c.args.bytes.now (field_slice c.in-Ok.field) c.in-Ok.ensures.reads
