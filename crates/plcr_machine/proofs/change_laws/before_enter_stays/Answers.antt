use Rattle.plcr_machine.proofs.Makers.{before_enter-stays, entered_after}
use Rattle.plcr_machine.proofs.change_laws.before_enter_stays.Goals as goal

pub returns-clause-stays : goal.returns-clause-stays
returns-clause-stays c = before_enter-stays

pub returns-clause-entered : goal.returns-clause-entered
returns-clause-entered c = entered_after
