use Rattle.std.proofs.Common.{◌≡◌, length, take_all, ap, ◌∙◌, arith}
use Rattle.plcr_machine.specs.Lists.{live}
use Rattle.plcr_machine.specs.Links.{last_place}
use Rattle.plcr_imagelist.specs.inner.Keeping.{BooksState}
use Rattle.plcr_imagelist.proofs.books.Books.tail.Goals as goal

pub place_before-requires : goal.place_before-requires
place_before-requires c =
    let lists : c.self.inside.images.items ≡ live c.args.self.now.owner.history = c.self.invariant.0.images ∙ ap (λ (s : BooksState). live s.owner.history) c.self.view_is in
    let size = ap length lists in let whole = c.self.inside.images.ok.0 in let is = c.len.ensures in omega arith

pub returns : goal.returns
returns c =
    let lists : c.self.inside.images.items ≡ live c.args.self.now.owner.history = c.self.invariant.0.images ∙ ap (λ (s : BooksState). live s.owner.history) c.self.view_is in
    let size = ap length lists in let whole = c.self.inside.images.ok.0 in let is = c.len.ensures in
    c.place_before.ensures ∙ ap (last_place 0) (take_all c.len.result (live c.args.self.now.owner.history) (omega arith))
