use Rattle.std.proofs.Common.{◌≡◌, All, subst, sym}
use Rattle.plcr_imagelist.specs.Holds.{WalkerState}
use Rattle.plcr_turns.specs.declared.tests.TheConstants.{NODES}
use Rattle.plcr_turns.proofs.Opened.{opened_all}
use Rattle.plcr_turns.proofs.tests.run_scripts.Goals as goal

pub hire-requires-clause-images : goal.hire-requires-clause-images
hire-requires-clause-images g c = subst (All (λ (w : WalkerState). w.table ≡ c.in-Ok.list)) (sym c.in-Ok.ensures.opened.1.numbered) (opened_all c.in-Ok.list NODES 64 64)
