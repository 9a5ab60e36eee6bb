use Rattle.std.proofs.Common.{◌≡◌, drop}
use Rattle.plcr_imagelist.specs.declared.bounds.TheConstants.{MOST_BOUND}
use Rattle.plcr_imagelist.specs.inner.Keeping.{least_from}
use Rattle.plcr_imagelist.proofs.bounds.least_of.Given as goal

abbrev pub invariant-loop-bound : goal.invariant-loop-bound
invariant-loop-bound l = least_from l.least (drop l.bound-index l.bounds) ≡ least_from MOST_BOUND l.fn.bounds
