use Rattle.std.proofs.Common.{◌≡◌, ◌-◌, get_or, List, ap, ◌∙◌, subst}
use Rattle.plcr_machine.specs.declared.image.Image.{Image}
use Rattle.plcr_machine.specs.Lists.{live}
use Rattle.plcr_imagelist.specs.inner.Keeping.{BooksState}
use Rattle.plcr_imagelist.proofs.Placed.{place_at}
use Rattle.plcr_imagelist.proofs.books.Books.place_before.Goals as goal

pub returns-else-at-eq0 : goal.returns-else-at-eq0
returns-else-at-eq0 c =
    let lists : c.self.inside.images.items ≡ live c.args.self.now.owner.history = c.self.invariant.0.images ∙ ap (λ (s : BooksState). live s.owner.history) c.self.view_is in
    place_at (live c.args.self.now.owner.history) c.args.at c.index.result.now c.if-at-eq0.false c.requires
    (subst (λ (xs : List Image). c.index.result.now ≡ get_or xs (c.args.at - 1) c.index.result.now) lists c.index.ensures)
