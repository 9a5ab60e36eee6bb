use Rattle.std.proofs.Common.{ap, ◌∙◌, arith}
use Rattle.plcr_imagelist.specs.inner.Keeping.{times}
use Rattle.plcr_imagelist.proofs.Counted.{times_more}
use Rattle.plcr_imagelist.proofs.books.all_nodes.Goals as goal

pub loop-node-preserved : goal.loop-node-preserved
loop-node-preserved c =
    let len = c.push_reserved.ensures.len in let room = c.push_reserved.ensures.capacity in
    let before = c.loop-node.invariant in
    ((λ n. ap (times n) c.push_reserved.ensures.items ∙ times_more n _ _ (before.0 n)), omega arith, omega arith)
