use Rattle.std.proofs.Common.{◌≡◌, ◌∙◌, ◌++◌, ℕ, List, take, get_or, sym, refl, ap, arith}
use Rattle.std.proofs.lemmas.Grind.{get_or_default_zero}
use Rattle.plcr_macho.specs.Images.{Listed, listed_at}
use Rattle.plcr_macho.specs.Index.{Extent, extent_at}
use Rattle.plcr_macho.specs.Loading.{image_at}
use Rattle.plcr_macho.specs.Spots.{extents_of}
use Rattle.plcr_macho.proofs.Indexing.{front_more, front_end}
use Rattle.plcr_nodes.specs.Tokens.{PassState}
use Rattle.plcr_imagelist.specs.inner.Indexing.{met_on, hold_of}
use Rattle.plcr_imagelist.specs.inner.SameWalk.{walk_itself, walk_again}
use Rattle.plcr_imagelist.proofs.Meeting.{length-images_on}
use Rattle.plcr_imagelist.proofs.Reread.{readable, length-named, holding_read, same_read, header_read}
use Rattle.plcr_imagelist.proofs.index.index_met.Goals as goal

pub loop-at-init : goal.loop-at-init
loop-at-init c = record { front = refl; few = omega arith; held = λ ended low h. (h, walk_itself (hold_of c.args.pass.now c.args.met.now ended)); table = refl; nodes = refl }

pub payload-header-requires-clause-known : goal.payload-header-requires-clause-known
payload-header-requires-clause-known c =
    let met : List ℕ = c.args.met.now in
    let i : ℕ = c.loop-at.at in
    let a = c.requires.held in
    let h = (c.loop-at.invariant.held a.ended a.low a.holding).0 in
    let r = readable c.loop-at.pass met a.ended a.low i (get_or met i 0) h c.loop-at-test.true (sym (get_or_default_zero met i (get_or met i 0) c.loop-at-test.true)) in
    (r.some, r.given)

pub overflow_cast-at : goal.overflow_cast-at
overflow_cast-at c =
    let a = c.requires.held in
    let walking = a.holding.walking in
    let size = length-images_on c.args.met.now c.args.pass.now.history in
    let few = walking.few in
    let nodes = walking.known.few_nodes in
    let below = c.loop-at-test.true in
    omega arith

pub loop-at-preserved : goal.loop-at-preserved
loop-at-preserved c =
    let met : List ℕ = c.args.met.now in
    let i : ℕ = c.loop-at.at in
    let node : ℕ = get_or met i 0 in
    let found : ℕ = c.payload-header.result in
    let start : PassState = c.args.pass.now in
    let old : PassState = c.loop-at.pass in
    let new : PassState = c.payload-header.new.self in
    let read = c.payload-header.ensures.word in
    let below = c.loop-at-test.true in
    let a = c.requires.held in
    let before : List Extent = extents_of (take c.loop-at.filled c.loop-at.room) in
    let named = (c.loop-at.invariant.held a.ended a.low a.holding).1.named in
    let header : found ≡ (listed_at (met_on start met) i).header =
    header_read old node found new met i read below (sym (get_or_default_zero met i node below)) ∙ ap (λ (ls : List Listed). (listed_at ls i).header) named in
    let size = length-named start.names met start.history in
    let more = c.put_spot-filled.ensures.more in
    let few = c.loop-at.invariant.few in
    record {
      front = front_more c.args.memory.now c.args.arch (met_on start met) i before (extents_of (take c.put_spot-filled.result c.put_spot-filled.new.room)) c.loop-at.invariant.front (omega (arith, below, size))
          (c.put_spot-filled.ensures.spots ∙ ap (λ (h : ℕ). before ++ extent_at i (image_at c.args.memory.now c.args.arch h)) header);
      few = omega arith;
      held = λ ended low h.
          let k = c.loop-at.invariant.held ended low h in (
            holding_read old node 0 found new met ended low read k.0,
            walk_again (hold_of start met ended) (hold_of old met ended) (hold_of new met ended) k.1 (same_read old node 0 found new met ended low read k.0),
          );
      table = ap (λ (s : PassState). s.table) read.now ∙ c.loop-at.invariant.table;
      nodes = ap (λ (s : PassState). s.nodes) read.now ∙ c.loop-at.invariant.nodes;
    }

pub returns-clause-index : goal.returns-clause-index
returns-clause-index c =
    let met : List ℕ = c.args.met.now in
    let start : PassState = c.args.pass.now in
    let past = c.loop-at-test.false in
    let size = length-named start.names met start.history in
    c.settle.ensures.settles c.args.memory.now c.args.arch (met_on start met)
    (front_end c.args.memory.now c.args.arch (met_on start met) c.loop-at.at (extents_of (take c.loop-at.filled c.loop-at.room)) c.loop-at.invariant.front (omega (arith, past, size)))
