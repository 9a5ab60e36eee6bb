-- The list of fields begins as the bytes do.
use Rattle.plcr_wire.specs.Reading.{field_slice}
use Rattle.plcr_decode.proofs.Listed.{fields_step, fields_fault}
use Rattle.plcr_decode.proofs.fields.first.Goals as goal

pub returns-in-Ok-clause-first : goal.returns-in-Ok-clause-first
returns-in-Ok-clause-first c = fields_step c.args.bytes.now (field_slice c.in-Ok.field) c.in-Ok.ensures.reads

pub returns-in-Err-clause-first : goal.returns-in-Err-clause-first
returns-in-Err-clause-first c = fields_fault c.args.bytes.now _ c.in-Err.ensures.reads
