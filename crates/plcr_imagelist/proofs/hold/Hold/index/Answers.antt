use Rattle.std.proofs.Common.{◌∙◌, ◌++◌, ℕ, List, length, take, drop, ap, subst, arith}
use Rattle.plcr_macho.specs.Index.{Extent, index_of}
use Rattle.plcr_macho.specs.Spots.{IsIndexOf}
use Rattle.plcr_imagelist.specs.Holds.{HoldState}
use Rattle.plcr_imagelist.specs.inner.Indexing.{extents_in, met_on, StaysHeld, hold_of}
use Rattle.plcr_imagelist.specs.Walk.{images_of, IsSameWalk}
use Rattle.plcr_imagelist.proofs.Indexed.{with, same_with, made, written_back}
use Rattle.plcr_imagelist.proofs.Meeting.{length-images_on}
use Rattle.plcr_imagelist.proofs.Reread.{length-named}
use Rattle.plcr_imagelist.proofs.hold.Hold.index.Goals as goal

pub lengthen-requires : goal.lengthen-requires
lengthen-requires c =
    let h = c.self.inside in
    let met = length-images_on h.met.items h.pass.history in
    let few = c.self.invariant.0.walking.few in
    let spots = c.self.invariant.2 in
    let count = c.len-count.ensures in
    let whole = h.met.ok.0 in
    omega arith

pub index_met-self-inside-requires-clause-room : goal.index_met-self-inside-requires-clause-room
index_met-self-inside-requires-clause-room c =
    let h = c.self.inside in
    let met = length-images_on h.met.items h.pass.history in
    let few = c.self.invariant.0.walking.few in
    let spots = c.self.invariant.2 in
    let nodes = ap (λ (ns : List ℕ). length ns) c.as_slice-met.ensures.value in
    let room = c.as_mut_slice-room.ensures.len in
    omega arith

pub invariant_of-self : goal.invariant_of-self
invariant_of-self c =
    let h = c.self.inside in
    let s = c.lengthen.new.spots in
    let call = c.index_met-self-inside in
    let held = subst (λ (ns : List ℕ). StaysHeld h.pass ns call.new.pass) c.as_slice-met.ensures.value call.ensures.held in
    let index = subst (λ (ns : List ℕ). IsIndexOf c.args.memory.now c.args.arch (met_on h.pass ns) call.new.room call.result) c.as_slice-met.ensures.value call.ensures.index in
    let long = c.as_mut_slice-room.ensures.len in
    let room = call.ensures.room in
    let back = written_back call.new.room s.items s.len (omega arith) in
    let named = length-named h.pass.names h.met.items h.pass.history in
    let whole = h.met.ok.0 in
    let count = c.len-count.ensures in
    let nodes = call.ensures.nodes in
    let fits = c.self.invariant.1 in
    let spots = c.self.invariant.2 in (
      (held h.ended h.low c.self.invariant.0).0,
      omega arith,
      omega arith,
      (made c.args.memory.now c.args.arch (met_on h.pass h.met.items) call.new.room _ c.len-count.result call.result back (omega arith) index).0,
    )

pub returns-clause-index : goal.returns-clause-index
returns-clause-index c =
    let h = c.self.inside in
    let s = c.lengthen.new.spots in
    let call = c.index_met-self-inside in
    let index = subst (λ (ns : List ℕ). IsIndexOf c.args.memory.now c.args.arch (met_on h.pass ns) call.new.room call.result) c.as_slice-met.ensures.value call.ensures.index in
    let long = c.as_mut_slice-room.ensures.len in
    let room = call.ensures.room in
    let back = written_back call.new.room s.items s.len (omega arith) in
    let named = length-named h.pass.names h.met.items h.pass.history in
    let whole = h.met.ok.0 in
    let count = c.len-count.ensures in
    (made c.args.memory.now c.args.arch (met_on h.pass h.met.items) call.new.room _ c.len-count.result call.result back (omega arith) index).1
    ∙ ap (λ (s : HoldState). index_of c.args.memory.now c.args.arch (images_of s)) c.self.view_is

pub returns-clause-same : goal.returns-clause-same
returns-clause-same c =
    let h = c.self.inside in
    let s = c.lengthen.new.spots in
    let call = c.index_met-self-inside in
    let held = subst (λ (ns : List ℕ). StaysHeld h.pass ns call.new.pass) c.as_slice-met.ensures.value call.ensures.held in
    let es : List Extent = extents_in h.count h.spots.items h.filled in
    let fs : List Extent = extents_in c.len-count.result (take s.len (call.new.room ++ drop (length call.new.room) s.items)) call.result in
    subst (λ (s : HoldState). IsSameWalk s (with (hold_of call.new.pass h.met.items h.ended) fs)) c.self.view_is
    (same_with (hold_of h.pass h.met.items h.ended) (hold_of call.new.pass h.met.items h.ended) es fs (held h.ended h.low c.self.invariant.0).1)
