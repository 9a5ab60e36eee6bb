use Rattle.plcr_machine.proofs.ListsMade.{changes_of-length, lists_after, takes_same}
use Rattle.plcr_machine.proofs.Staying.{changes_stay}
use Rattle.plcr_machine.proofs.Counted.{unloads-loads, loads-unloads}
use Rattle.plcr_machine.proofs.change_laws.changes_leave_the_lists.Goals as goal

pub returns-clause-lists : goal.returns-clause-lists
returns-clause-lists c = λ nodes passes names h l f. (changes_of-length names h, λ j. lists_after nodes passes names h j l f)

pub returns-clause-loads : goal.returns-clause-loads
returns-clause-loads c = λ nodes passes h l. (unloads-loads nodes passes h l, loads-unloads h)

pub returns-clause-writer : goal.returns-clause-writer
returns-clause-writer c = takes_same

pub returns-clause-stay : goal.returns-clause-stay
returns-clause-stay c = changes_stay
