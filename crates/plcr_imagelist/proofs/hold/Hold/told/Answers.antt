use Rattle.std.proofs.Common.{List, ap, subst, arith}
use Rattle.plcr_nodes.specs.Tokens.{NoteState, PassState}
use Rattle.plcr_imagelist.specs.Holds.{HoldState}
use Rattle.plcr_imagelist.specs.Tellings.{IsHoldTold}
use Rattle.plcr_macho.specs.Index.{Extent}
use Rattle.plcr_imagelist.specs.inner.Indexing.{extents_in, hold_of}
use Rattle.plcr_imagelist.proofs.Indexed.{with, told_with, walking_with}
use Rattle.plcr_imagelist.proofs.Told.{holding_told, hold_told}
use Rattle.plcr_imagelist.specs.Carrying.{OnlySees}
use Rattle.plcr_imagelist.specs.inner.Holding.{walker_state}
use Rattle.plcr_imagelist.proofs.Sees.{only_sees}
use Rattle.plcr_imagelist.proofs.hold.Hold.told.Goals as goal

pub invariant_of-self : goal.invariant_of-self
invariant_of-self c =
    let h = c.self.inside in
    let nodes = ap (λ (s : PassState). s.nodes) c.told.ensures.told.now in
    let room = c.self.invariant.1 in
    let spots = c.self.invariant.2 in
    (holding_told h.pass c.note.inside.note c.told.new.self h.met.items h.ended h.low c.told.ensures.told c.self.invariant.0, omega arith, omega arith, c.self.invariant.3)

pub returns-clause-walking : goal.returns-clause-walking
returns-clause-walking c =
    let h = c.self.inside in
    walking_with (hold_of c.told.new.self h.met.items h.ended) (extents_in h.count h.spots.items h.filled) (holding_told h.pass c.note.inside.note c.told.new.self h.met.items h.ended h.low c.told.ensures.told c.self.invariant.0).walking

pub returns-clause-told : goal.returns-clause-told
returns-clause-told c =
    let h = c.self.inside in
    let es : List Extent = extents_in h.count h.spots.items h.filled in
    let new = with (hold_of c.told.new.self h.met.items h.ended) es in
    subst (λ (n : NoteState). IsHoldTold c.args.self.now n new) c.note.view_is
    (subst (λ (s : HoldState). IsHoldTold s c.note.inside.note new) c.self.view_is
    (told_with (hold_of h.pass h.met.items h.ended) c.note.inside.note (hold_of c.told.new.self h.met.items h.ended) es (hold_told h.pass c.note.inside.note c.told.new.self h.met.items h.ended h.low c.told.ensures.told c.self.invariant.0)))

pub returns-clause-sees : goal.returns-clause-sees
returns-clause-sees c =
    let h = c.self.inside in
    let new = walker_state c.told.new.self in
    let t = c.told.ensures.told in
    subst (λ (s : HoldState). OnlySees s.walker new) c.self.view_is (only_sees (walker_state h.pass) new t.past t.names t.sees (ap walker_state t.now) c.self.invariant.0.walking.known.named)
