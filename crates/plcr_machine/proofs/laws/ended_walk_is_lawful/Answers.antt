use Rattle.plcr_machine.specs.Lists.{load_number, list_after}
use Rattle.plcr_machine.proofs.Lawful.{whole_walk_lawful}
use Rattle.plcr_machine.proofs.Loaded.{list_after_rises}
use Rattle.plcr_machine.proofs.laws.ended_walk_is_lawful.Goals as goal

pub returns-clause-of_lists : goal.returns-clause-of_lists
returns-clause-of_lists c = λ lists rising a b met w. whole_walk_lawful load_number lists rising a b met w

pub returns-clause-of_histories : goal.returns-clause-of_histories
returns-clause-of_histories c = λ nodes passes h l a b met w. whole_walk_lawful load_number (list_after h) (list_after_rises nodes passes h l) a b met w
