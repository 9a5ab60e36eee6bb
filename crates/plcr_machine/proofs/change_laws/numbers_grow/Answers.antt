use Rattle.plcr_machine.proofs.Growing.{changes-grows, counts-grows, loads-grows}
use Rattle.plcr_machine.proofs.change_laws.numbers_grow.Goals as goal

pub returns : goal.returns
returns c = λ past h g. (changes-grows past h g, counts-grows past h g, loads-grows past h g)
