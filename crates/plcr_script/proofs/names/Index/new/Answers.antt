use Rattle.plcr_script.proofs.Indexing.{all_out}
use Rattle.plcr_script.proofs.names.Index.new.Goals as goal

pub returns-clause-inside : goal.returns-clause-inside
returns-clause-inside c = rw (c.in_ok-vec.ensures.items_if_clones_equal (λ y e. e)) all_out
