use Rattle.plcr_imagelist.proofs.Looking.{LooksSoFar}
use Rattle.plcr_imagelist.proofs.bounds.look_at_all.Given as goal

abbrev pub invariant-loop-pass : goal.invariant-loop-pass
invariant-loop-pass l = LooksSoFar l.fn.owner l.owner l.pass l.announced l.bounds.items
