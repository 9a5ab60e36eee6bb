use Rattle.std.proofs.Common.{◌++◌, take, arith}
use Rattle.plcr_script.specs.Reading.{files_of}
use Rattle.plcr_script.proofs.Naming.{index_step}
use Rattle.plcr_script.proofs.names.add_names.Goals as goal

pub loop-numbered-preserved : goal.loop-numbered-preserved
loop-numbered-preserved c = λ files index.
    let xs = c.args.statements.now in
    let i = c.loop-numbered.numbered-index in
    index_step c.add_file.new.names files xs i c.numbered-item.result (omega arith) c.numbered-item.is
    (c.in_ok-add_file.ensures (files ++ files_of (take i xs)) (c.loop-numbered.invariant files index))
