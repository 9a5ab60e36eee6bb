use Rattle.plcr_machine.proofs.Counted.{nodes_counted, waiting_most, none_counted, counted_none}
use Rattle.plcr_machine.proofs.change_laws.nodes_are_counted.Goals as goal

pub returns-clause-nodes : goal.returns-clause-nodes
returns-clause-nodes c = λ nodes passes h l. (nodes_counted nodes passes h l, waiting_most nodes passes h)

pub returns-clause-free : goal.returns-clause-free
returns-clause-free c = λ nodes passes h l. (none_counted nodes passes h l, counted_none nodes passes h l)
