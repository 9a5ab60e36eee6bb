use Rattle.std.proofs.Common.{◌≡◌, ◌∙◌, ◌++◌, ℕ, List, [], take, sym, ap, arith}
use Rattle.std.proofs.lemmas.List.{length-map, get_or-map}
use Rattle.plcr_macho.specs.declared.list.PlainImage.{PlainImage}
use Rattle.plcr_macho.specs.Images.{Listed, listed_at, listed_of, all_listed}
use Rattle.plcr_macho.specs.Index.{Extent, extent_at}
use Rattle.plcr_macho.specs.Loading.{image_at}
use Rattle.plcr_macho.specs.Spots.{extents_of}
use Rattle.plcr_macho.proofs.Indexing.{front_more}
use Rattle.plcr_macho.proofs.list.index_plain.Goals as goal

pub loop-position-preserved : goal.loop-position-preserved
loop-position-preserved c =
    let images : List PlainImage = c.args.images.now in
    let i : ℕ = c.loop-position.position in
    let before : List Extent = extents_of (take c.loop-position.filled c.loop-position.room) in
    let inside = c.loop-position-test.true in
    let here : c.index-images-position.result.header ≡ (listed_at (all_listed images) i).header =
    ap (λ (x : PlainImage). x.header) c.index-images-position.is
    ∙ sym (ap (λ (l : Listed). l.header) (get_or-map listed_of images i c.index-images-position.result (record { header = 0; name = [] }) inside)) in
    let more = c.put_spot-filled.ensures.more in (
      front_more c.args.memory.now c.args.arch (all_listed images) i before (extents_of (take c.put_spot-filled.result c.put_spot-filled.new.room)) c.loop-position.invariant.0 (omega (arith, inside, length-map images listed_of))
          (c.put_spot-filled.ensures.spots ∙ ap (λ (h : ℕ). before ++ extent_at i (image_at c.args.memory.now c.args.arch h)) here),
      omega arith,
    )
