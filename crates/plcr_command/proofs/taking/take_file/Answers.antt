use Rattle.plcr_command.proofs.Takings.{took_one, untaken_one}
use Rattle.plcr_command.proofs.taking.take_file.Goals as goal

pub returns-in-Ok-clause-taken : goal.returns-in-Ok-clause-taken
returns-in-Ok-clause-taken g c = rw c.new.ensures (took_one _ c.in-Ok.bytes _ _ c.in-Ok.ensures)

pub returns-in-Err-clause-taken : goal.returns-in-Err-clause-taken
returns-in-Err-clause-taken g c = rw c.untaken.ensures (untaken_one c.args.word c.in-Err.fault _ _ c.in-Err.ensures)
