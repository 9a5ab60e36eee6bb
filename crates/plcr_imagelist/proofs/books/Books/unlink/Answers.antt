use Rattle.std.proofs.Common.{◌≡◌, ◌<◌, ◌+◌, List, false, sym, ap, subst, arith, length, get_or}
use Rattle.std.specs.Prelude.{Option, OnSome, remove}
use Rattle.plcr_machine.specs.declared.image.Image.{Image}
use Rattle.plcr_machine.specs.Lists.{live}
use Rattle.plcr_machine.specs.Histories.{IsLegal}
use Rattle.plcr_machine.specs.Passes.{owes_count}
use Rattle.plcr_nodes.specs.Tokens.{OwnerState}
use Rattle.plcr_nodes.specs.Owning.{Follows}
use Rattle.plcr_imagelist.specs.inner.Keeping.{BooksState}
use Rattle.plcr_imagelist.proofs.Placed.{follows_before}
use Rattle.plcr_imagelist.proofs.Kept.{books_unlinked}
use Rattle.plcr_imagelist.proofs.books.Books.unlink.Goals as goal

pub unlink-requires-clause-follows : goal.unlink-requires-clause-follows
unlink-requires-clause-follows c =
    let s = c.args.self.now in
    let legal = subst (λ (s : BooksState). IsLegal s.owner.nodes s.owner.passes s.owner.history) c.self.view_is c.self.invariant.0.known.legal in
    let follows = follows_before s.owner.nodes s.owner.passes s.owner.history c.args.at c.args.image legal c.requires.image.0 c.requires.image.1 in
    subst (λ (t : BooksState). Follows c.place_before-before.result c.args.image.node t.owner.history) (sym c.self.view_is)
    (subst (λ n. Follows n c.args.image.node s.owner.history) (sym c.place_before-before.ensures) follows)

pub invariant_of-self : goal.invariant_of-self
invariant_of-self c =
    let b = c.self.inside in
    let owes = subst (λ (s : BooksState). owes_count s.owner.history ≡ false) (sym c.self.view_is) c.requires.paced.0 in
    let below = subst (λ (s : BooksState). c.args.at < length (live s.owner.history)) (sym c.self.view_is) c.requires.image.0 in
    let is = subst (λ (s : BooksState). c.args.image ≡ get_or (live s.owner.history) c.args.at c.args.image) (sym c.self.view_is) c.requires.image.1 in
    let nodes = ap (λ (s : OwnerState). s.nodes) c.unlink.ensures.entry.now in
    let room = c.self.invariant.1 in let cut_room = c.remove.ensures.capacity in let pushed_room = c.push_reserved.ensures.capacity in
    let whole = b.images.ok.0 in let whole' = c.remove.new.self.ok.0 in
    let lists = ap (λ (xs : List Image). length xs) c.self.invariant.0.images in
    let found = c.remove.ensures.succeeds c.args.image (omega arith) in
    let cut = subst (λ (r : Option Image). OnSome r (c.remove.new.self.items ≡ remove b.images.items c.args.at)) found c.remove.ensures.items in
    let shorter = subst (λ (r : Option Image). OnSome r (c.remove.new.self.len + 1 ≡ b.images.len)) found c.remove.ensures.len in (
      books_unlinked b.owner c.args.image c.unlink.new.self b.bounds.items b.free.items b.removed.items c.push_reserved.new.self.items b.images.items c.remove.new.self.items b.changes b.loads c.args.at
          c.unlink.ensures.entry owes below is cut (omega arith) c.push_reserved.ensures.items c.self.invariant.0,
      (omega arith, omega arith, omega arith),
    )
