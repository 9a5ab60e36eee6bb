use Rattle.plcr_imagelist.proofs.Passing.{may_enter}
use Rattle.plcr_imagelist.proofs.overlap_tests.announce_late.Goals as goal

pub returns-clause-out : goal.returns-clause-out
returns-clause-out c = (may_enter c.pass.inside.pass 0 c.announce.new.self c.announce.ensures.entry c.pass.invariant.0.outside).1
