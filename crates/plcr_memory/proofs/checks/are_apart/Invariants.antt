use Rattle.plcr_memory.proofs.Passes.{Passed}
use Rattle.plcr_memory.proofs.checks.are_apart.Given as goal

abbrev pub invariant-loop-placed : goal.invariant-loop-placed
invariant-loop-placed l = Passed l.regions l.order l.count l.placed-index l.free
