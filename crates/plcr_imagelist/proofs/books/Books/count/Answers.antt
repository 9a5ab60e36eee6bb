use Rattle.std.proofs.Common.{◌≡◌, true, sym, ap, subst, arith}
use Rattle.plcr_machine.specs.Passes.{owes_count}
use Rattle.plcr_nodes.specs.Tokens.{OwnerState}
use Rattle.plcr_imagelist.specs.inner.Keeping.{BooksState}
use Rattle.plcr_imagelist.proofs.Kept.{agrees_counted}
use Rattle.plcr_imagelist.proofs.books.Books.count.Goals as goal

pub invariant_of-self : goal.invariant_of-self
invariant_of-self c =
    let b = c.self.inside in
    let owes = subst (λ (s : BooksState). owes_count s.owner.history ≡ true) (sym c.self.view_is) c.requires.owes in
    let counted = c.count.ensures.counted in
    let nodes = ap (λ (s : OwnerState). s.nodes) counted.entry.now in
    let room = c.self.invariant.1 in
    (agrees_counted b.owner c.count.result c.count.new.self b.bounds.items b.free.items b.removed.items b.images.items b.changes b.loads counted owes c.self.invariant.0, (omega arith, omega arith, omega arith))
