use Rattle.plcr_core.specs.inner.Gathering.{gains}
use Rattle.plcr_core.proofs.SoFar.{SoFar}
use Rattle.plcr_core.proofs.gathered.gather.Given as goal

abbrev pub invariant-loop-index : goal.invariant-loop-index
invariant-loop-index l = SoFar l.file l.header l.index l.at (gains l.found)
