use Rattle.plcr_run.proofs.Named.{file_name_is_text}
use Rattle.plcr_workers.proofs.making.file_name.Goals as goal

pub unreachable-requires : goal.unreachable-requires
unreachable-requires c = c.in-Err.ensures.cases.0 (file_name_is_text c.args.file.now c.requires)
