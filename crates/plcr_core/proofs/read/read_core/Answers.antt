use Rattle.plcr_core.specs.inner.Gathering.{parts}
use Rattle.plcr_core.proofs.WholeThreads.{whole_in}
use Rattle.plcr_core.proofs.read.read_core.Goals as goal

pub returns-in-Ok-clause-threads : goal.returns-in-Ok-clause-threads
returns-in-Ok-clause-threads c =
    rw c.new-in-Ok.ensures (whole_in c.deref.result.now (parts c.in_ok-arch.field-0) c.in_ok-arch.ensures.exact)
