use Rattle.plcr_script.proofs.Naming.{index_more}
use Rattle.plcr_script.proofs.names.add_file.Goals as goal

pub returns-in_ok-add_name : goal.returns-in_ok-add_name
returns-in_ok-add_name c = λ files index.
    rw (← c.in-Some.ensures) (index_more c.args.names.now c.add_name.new.names files c.in-Some.file.now index c.in_ok-add_name.ensures.added)
