use Rattle.plcr_imagelist.proofs.Sees.{sees_again, reading_sees, met_named}
use Rattle.plcr_imagelist.proofs.laws.seeing_goes_on.Goals as goal

pub returns-clause-again : goal.returns-clause-again
returns-clause-again c = sees_again

pub returns-clause-reading : goal.returns-clause-reading
returns-clause-reading c = reading_sees

pub returns-clause-named : goal.returns-clause-named
returns-clause-named c = met_named
