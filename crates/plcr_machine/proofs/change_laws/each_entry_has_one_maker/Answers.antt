use Rattle.plcr_machine.proofs.Makers.{one_maker, nothing_else}
use Rattle.plcr_machine.proofs.Between.{own_between, owner_between}
use Rattle.plcr_machine.proofs.change_laws.each_entry_has_one_maker.Goals as goal

pub returns-clause-makers : goal.returns-clause-makers
returns-clause-makers c = one_maker

pub returns-clause-nothing : goal.returns-clause-nothing
returns-clause-nothing c = nothing_else

pub returns-clause-between : goal.returns-clause-between
returns-clause-between c = λ a b d g h. (λ p same. own_between p a b d g h same, λ same. owner_between a b d g h same)
