use Rattle.std.proofs.Common.{◌≡◌, ◌≤◌, true, sym, ap, ◌∙◌, subst}
use Rattle.plcr_machine.specs.Nodes.{is_free}
use Rattle.plcr_imagelist.specs.inner.Keeping.{BooksState, last_of}
use Rattle.plcr_imagelist.specs.Finding.{NoneFree}
use Rattle.plcr_imagelist.proofs.Kept.{spare_none, spare_free}
use Rattle.plcr_imagelist.proofs.books.Books.spare.Goals as goal

pub returns-clause-none : goal.returns-clause-none
returns-clause-none c = λ z.
    let b = c.self.inside in
    let last : c.last_of.result ≡ last_of b.free.items = c.last_of.ensures ∙ ap last_of c.deref.ensures.value in
    subst (λ (s : BooksState). NoneFree s.owner.nodes s.owner.passes s.owner.history) c.self.view_is (spare_none b.owner b.bounds.items b.free.items b.removed.items b.images.items b.changes b.loads c.self.invariant.0 (sym last ∙ z))

pub returns-clause-free : goal.returns-clause-free
returns-clause-free c = λ z.
    let b = c.self.inside in
    let last : c.last_of.result ≡ last_of b.free.items = c.last_of.ensures ∙ ap last_of c.deref.ensures.value in
    let free = spare_free b.owner b.bounds.items b.free.items b.removed.items b.images.items b.changes b.loads c.self.invariant.0 (λ n. z (last ∙ n)) in
    subst (λ (s : BooksState). (c.last_of.result ≤ s.owner.nodes) × (is_free s.owner.passes c.last_of.result s.owner.history ≡ true)) c.self.view_is
    (subst (λ n. (n ≤ b.owner.nodes) × (is_free b.owner.passes n b.owner.history ≡ true)) (sym last) (free.1, free.2))
