use Rattle.std.proofs.Common.{◌≡◌, ◌<◌, List, length, Some, None, sym, ap, subst, ◌∙◌}
use Rattle.plcr_macho.specs.declared.image.Image.{Image}
use Rattle.plcr_macho.specs.Images.{Listed, listed_at}
use Rattle.plcr_cursor.specs.declared.located.Located.{Located}
use Rattle.plcr_cursor.proofs.Locating.{image_there, is_located, not_located}
use Rattle.plcr_cursor.proofs.readers.locate_over.Goals as goal

pub returns-in_err-place-clause-located : goal.returns-in_err-place-clause-located
returns-in_err-place-clause-located g c =
    let none = not_located (g.A.Asked.memory c.args.asked.now) (g.I.Images.images c.args.images.now) c.args.frame.now c.in_ok-address.address (g.I.Images.extents c.args.images.now)
    (sym c.in_ok-address.was ∙ c.lookup.ensures) c.requires (sym c.in_err-place.was ∙ c.locate.ensures.place) in
    c.from_residual-in_err-place.ensures ∙ none

pub header-header-requires : goal.header-header-requires
header-header-requires g c =
    let found = is_located (g.A.Asked.memory c.args.asked.now) (g.I.Images.images c.args.images.now) c.args.frame.now c.in_ok-address.address (g.I.Images.extents c.args.images.now)
    (sym c.in_ok-address.was ∙ c.lookup.ensures) c.requires c.in_ok-place.place (sym c.in_ok-place.was ∙ c.locate.ensures.place) in
    subst (λ (ls : List Listed). c.in_ok-place.place < length ls) (sym c.locate.ensures.same) found.inside

pub returns-in_err-image-clause-located : goal.returns-in_err-image-clause-located
returns-in_err-image-clause-located g c =
    let found = is_located (g.A.Asked.memory c.args.asked.now) (g.I.Images.images c.args.images.now) c.args.frame.now c.in_ok-address.address (g.I.Images.extents c.args.images.now)
    (sym c.in_ok-address.was ∙ c.lookup.ensures) c.requires c.in_ok-place.place (sym c.in_ok-place.was ∙ c.locate.ensures.place) in
    let header = c.header-header.ensures.header ∙ ap (λ (ls : List Listed). (listed_at ls c.in_ok-place.place).header) c.locate.ensures.same in
    let there : c.image.result ≡ Some found.image = c.image.ensures.image ∙ image_there found header in
    let none : c.image.result ≡ None = c.in_err-image.was in
    cc

pub returns-clause-located : goal.returns-clause-located
returns-clause-located g c =
    let found = is_located (g.A.Asked.memory c.args.asked.now) (g.I.Images.images c.args.images.now) c.args.frame.now c.in_ok-address.address (g.I.Images.extents c.args.images.now)
    (sym c.in_ok-address.was ∙ c.lookup.ensures) c.requires c.in_ok-place.place (sym c.in_ok-place.was ∙ c.locate.ensures.place) in
    let header = c.header-header.ensures.header ∙ ap (λ (ls : List Listed). (listed_at ls c.in_ok-place.place).header) c.locate.ensures.same in
    let same : Some c.in_ok-image.image ≡ Some found.image = sym c.in_ok-image.was ∙ c.image.ensures.image ∙ image_there found header in
    let is : c.in_ok-image.image ≡ found.image = cc in
    ap (λ (image : Image). let l : Located = record { place = c.in_ok-place.place; image = image } in Some l) is ∙ sym found.over
