use Rattle.plcr_script.proofs.Steps.{at_passes}
use Rattle.plcr_script.proofs.wording.worded.Goals as goal

pub returns-then-eq-clause-fits : goal.returns-then-eq-clause-fits
returns-then-eq-clause-fits c = at_passes c.args.passes c.table.result c.table.ensures.fits

pub returns-then-eq-2-clause-fits : goal.returns-then-eq-2-clause-fits
returns-then-eq-2-clause-fits c = at_passes c.args.passes c.set.result c.set.ensures.fits
