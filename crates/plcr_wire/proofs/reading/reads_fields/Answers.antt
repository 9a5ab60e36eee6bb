-- Both laws as they stand.
use Rattle.plcr_wire.proofs.FieldsWere.{field_was, field_reads}
use Rattle.plcr_wire.proofs.reading.reads_fields.Goals as goal

pub returns-clause-found : goal.returns-clause-found
returns-clause-found c = field_was

pub returns-clause-all : goal.returns-clause-all
returns-clause-all c = field_reads
