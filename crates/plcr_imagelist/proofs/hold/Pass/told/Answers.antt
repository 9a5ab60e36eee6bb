use Rattle.std.proofs.Common.{ap, subst, arith}
use Rattle.plcr_nodes.specs.Tokens.{NoteState, PassState}
use Rattle.plcr_imagelist.specs.Holds.{WalkerState}
use Rattle.plcr_imagelist.specs.inner.Holding.{walker_state}
use Rattle.plcr_imagelist.specs.Tellings.{IsWalkerTold}
use Rattle.plcr_imagelist.proofs.Told.{out_told, walker_told}
use Rattle.plcr_imagelist.specs.Carrying.{OnlySees}
use Rattle.plcr_imagelist.proofs.Sees.{only_sees}
use Rattle.plcr_imagelist.proofs.hold.Pass.told.Goals as goal

pub invariant_of-self : goal.invariant_of-self
invariant_of-self c =
    let nodes = ap (λ (s : PassState). s.nodes) c.told.ensures.told.now in
    let room = c.self.invariant.1 in
    let spots = c.self.invariant.2 in
    (out_told c.self.inside.pass c.note.inside.note c.told.new.self c.told.ensures.told c.self.invariant.0, omega arith, omega arith)

pub returns-clause-told : goal.returns-clause-told
returns-clause-told c =
    let new = walker_state c.told.new.self in
    subst (λ (n : NoteState). IsWalkerTold c.args.self.now n new) c.note.view_is
    (subst (λ (s : WalkerState). IsWalkerTold s c.note.inside.note new) c.self.view_is (walker_told c.self.inside.pass c.note.inside.note c.told.new.self c.told.ensures.told))

pub returns-clause-sees : goal.returns-clause-sees
returns-clause-sees c =
    let new = walker_state c.told.new.self in
    let t = c.told.ensures.told in
    subst (λ (s : WalkerState). OnlySees s new) c.self.view_is (only_sees (walker_state c.self.inside.pass) new t.past t.names t.sees (ap walker_state t.now) c.self.invariant.0.known.named)
