use Rattle.std.proofs.Common.{◌≡◌, ◌+◌, length, ap, ◌∙◌, subst, arith}
use Rattle.plcr_machine.specs.Lists.{live}
use Rattle.plcr_imagelist.specs.inner.Keeping.{BooksState, last_of}
use Rattle.plcr_imagelist.proofs.Kept.{held_count}
use Rattle.plcr_imagelist.proofs.books.Books.held.Goals as goal

pub returns : goal.returns
returns c =
    let b = c.self.inside in
    let none : last_of b.free.items ≡ 0 = ap (λ (s : BooksState). s.spare) c.self.view_is ∙ c.requires in
    let all = held_count b.owner b.bounds.items b.free.items b.removed.items b.images.items b.changes b.loads c.self.invariant.0 none in
    let size = c.len.ensures in let whole = b.removed.ok.0 in
    subst (λ (s : BooksState). c.len.result + length (live s.owner.history) ≡ s.owner.nodes) c.self.view_is (omega arith)
