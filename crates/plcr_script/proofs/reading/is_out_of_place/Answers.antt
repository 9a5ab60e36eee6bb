use Rattle.plcr_script.proofs.reading.is_out_of_place.Goals as goal

pub returns-in-States-clause-index : goal.returns-in-States-clause-index
returns-in-States-clause-index c = rw c.in-States.is c.is_misplaced.ensures.index
