use Rattle.std.proofs.Common.{List, ◌≡◌, ◌+◌, ◌*◌, ◌<◌, length, ap, sym, subst, arith}
use Rattle.plcr_base.specs.Numbers.{u64_in}
use Rattle.plcr_macho.specs.Images.{listed_at}
use Rattle.plcr_nodes.specs.Tokens.{PassState}
use Rattle.plcr_imagelist.specs.Holds.{HoldState}
use Rattle.plcr_imagelist.specs.Walk.{images_of, IsSameWalk}
use Rattle.plcr_macho.specs.Index.{Extent}
use Rattle.plcr_imagelist.specs.inner.Indexing.{extents_in, hold_of}
use Rattle.plcr_imagelist.proofs.Indexed.{with, same_with}
use Rattle.plcr_imagelist.proofs.Reread.{readable, length-named, holding_read, same_read, word_read, word_within, word_small}
use Rattle.plcr_imagelist.proofs.hold.Hold.name_word_at.Goals as goal

pub index-node-requires : goal.index-node-requires
index-node-requires c =
    let h = c.self.inside in
    let met = subst (λ (s : HoldState). c.args.at < length (images_of s)) (sym c.self.view_is) c.requires.met in
    let size = length-named h.pass.names h.met.items h.pass.history in let whole = h.met.ok.0 in omega arith

pub overflow_cast-word : goal.overflow_cast-word
overflow_cast-word c =
    let h = c.self.inside in
    let met = subst (λ (s : HoldState). c.args.at < length (images_of s)) (sym c.self.view_is) c.requires.met in
    let word = subst (λ (s : HoldState). 8 * c.args.word < length (listed_at (images_of s) c.args.at).name) (sym c.self.view_is) c.requires.word in
    let small = word_small h.pass.names c.self.invariant.0.walking.short h.met.items h.pass.history c.args.at c.args.word met word in omega arith

pub overflow_add-word : goal.overflow_add-word
overflow_add-word c =
    let h = c.self.inside in
    let met = subst (λ (s : HoldState). c.args.at < length (images_of s)) (sym c.self.view_is) c.requires.met in
    let word = subst (λ (s : HoldState). 8 * c.args.word < length (listed_at (images_of s) c.args.at).name) (sym c.self.view_is) c.requires.word in
    let small = word_small h.pass.names c.self.invariant.0.walking.short h.met.items h.pass.history c.args.at c.args.word met word in omega arith

pub payload-requires-clause-word : goal.payload-requires-clause-word
payload-requires-clause-word c =
    let h = c.self.inside in
    let met = subst (λ (s : HoldState). c.args.at < length (images_of s)) (sym c.self.view_is) c.requires.met in
    let size = length-named h.pass.names h.met.items h.pass.history in
    let word = subst (λ (s : HoldState). 8 * c.args.word < length (listed_at (images_of s) c.args.at).name) (sym c.self.view_is) c.requires.word in
    word_within h.pass h.met.items c.args.at c.args.word c.index-node.result.now (omega arith) c.index-node.ensures word

pub payload-requires-clause-known : goal.payload-requires-clause-known
payload-requires-clause-known c =
    let h = c.self.inside in
    let met = subst (λ (s : HoldState). c.args.at < length (images_of s)) (sym c.self.view_is) c.requires.met in
    let size = length-named h.pass.names h.met.items h.pass.history in
    let r = readable h.pass h.met.items h.ended h.low c.args.at c.index-node.result.now c.self.invariant.0 (omega arith) c.index-node.ensures in
    (r.some, r.given)

pub invariant_of-self : goal.invariant_of-self
invariant_of-self c =
    let h = c.self.inside in
    let nodes = ap (λ (s : PassState). s.nodes) c.payload.ensures.word.now in
    let room = c.self.invariant.1 in
    let spots = c.self.invariant.2 in
    (holding_read h.pass c.index-node.result.now (2 + c.args.word) c.payload.result c.payload.new.self h.met.items h.ended h.low c.payload.ensures.word c.self.invariant.0, omega arith, omega arith, c.self.invariant.3)

pub returns-clause-same : goal.returns-clause-same
returns-clause-same c =
    let h = c.self.inside in
    let es : List Extent = extents_in h.count h.spots.items h.filled in
    subst (λ (s : HoldState). IsSameWalk s (with (hold_of c.payload.new.self h.met.items h.ended) es)) c.self.view_is
    (same_with (hold_of h.pass h.met.items h.ended) (hold_of c.payload.new.self h.met.items h.ended) es es (same_read h.pass c.index-node.result.now (2 + c.args.word) c.payload.result c.payload.new.self h.met.items h.ended h.low c.payload.ensures.word c.self.invariant.0))

pub returns-clause-word : goal.returns-clause-word
returns-clause-word c =
    let h = c.self.inside in
    let met = subst (λ (s : HoldState). c.args.at < length (images_of s)) (sym c.self.view_is) c.requires.met in
    let size = length-named h.pass.names h.met.items h.pass.history in
    subst (λ (s : HoldState). c.payload.result ≡ u64_in (listed_at (images_of s) c.args.at).name (8 * c.args.word)) c.self.view_is
    (word_read h.pass c.index-node.result.now c.args.word c.payload.result c.payload.new.self h.met.items c.args.at c.payload.ensures.word (omega arith) c.index-node.ensures)
