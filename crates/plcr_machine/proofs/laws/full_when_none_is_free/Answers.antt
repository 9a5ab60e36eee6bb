use Rattle.plcr_machine.proofs.Full.{found_listed, all_live}
use Rattle.plcr_machine.proofs.laws.full_when_none_is_free.Goals as goal

pub returns-clause-all : goal.returns-clause-all
returns-clause-all c = λ nodes passes h out none n positive most. found_listed passes n h out (none n positive most)

pub returns-clause-length : goal.returns-clause-length
returns-clause-length c = all_live
