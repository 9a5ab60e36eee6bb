use Rattle.plcr_machine.proofs.Insiders.{inside_announced, inside_below, counts_few, stamp_few, announced_most}
use Rattle.plcr_machine.proofs.laws.inside_is_announced.Goals as goal

pub returns-clause-inside : goal.returns-clause-inside
returns-clause-inside c = λ nodes passes p h l i. (inside_announced nodes passes p h l i, inside_below nodes passes p h l i)

pub returns-clause-few : goal.returns-clause-few
returns-clause-few c = λ nodes passes p h l. (counts_few nodes passes h l, stamp_few nodes passes p h l, announced_most passes h)
