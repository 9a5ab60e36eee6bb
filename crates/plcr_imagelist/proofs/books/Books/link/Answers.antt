use Rattle.std.proofs.Common.{◌≡◌, ◌≢◌, ◌<◌, false, sym, ap, ◌∙◌, subst, arith, ◌++◌, ◌∷◌, []}
use Rattle.plcr_machine.specs.Lists.{changes}
use Rattle.plcr_machine.specs.Passes.{owes_count}
use Rattle.plcr_machine.specs.declared.limits.TheConstants.{MOST_CHANGES}
use Rattle.plcr_nodes.specs.Names.{header_in}
use Rattle.plcr_nodes.specs.Tokens.{OwnerState}
use Rattle.plcr_imagelist.specs.inner.Keeping.{BooksState, last_of}
use Rattle.plcr_imagelist.proofs.Counted.{popped}
use Rattle.plcr_imagelist.proofs.Placed.{loads_most}
use Rattle.plcr_imagelist.proofs.Kept.{books_linked}
use Rattle.plcr_imagelist.proofs.books.Books.link.Goals as goal

pub link-requires-clause-few : goal.link-requires-clause-few
link-requires-clause-few c =
    let few = subst (λ (s : BooksState). changes s.owner.history < MOST_CHANGES) (sym c.self.view_is) c.requires.paced.1 in
    let most = loads_most c.self.inside.owner.history in omega arith

pub overflow_add-self-2 : goal.overflow_add-self-2
overflow_add-self-2 c =
    let few = subst (λ (s : BooksState). changes s.owner.history < MOST_CHANGES) (sym c.self.view_is) c.requires.paced.1 in
    let most = loads_most c.self.inside.owner.history in
    let loads = c.self.invariant.0.loads_are in omega arith

pub invariant_of-self : goal.invariant_of-self
invariant_of-self c =
    let b = c.self.inside in
    let node = c.spare-node.result in
    let last : last_of b.free.items ≡ node = ap (λ (s : BooksState). s.spare) c.self.view_is ∙ sym c.spare-node.ensures.node in
    let some : last_of b.free.items ≢ 0 = subst (λ (s : BooksState). s.spare ≢ 0) (sym c.self.view_is) c.requires.some in
    let parts : b.free.items ≡ c.pop.new.self.items ++ node ∷ [] = popped b.free.items c.pop.new.self.items c.pop.result b.free.len b.free.ok.0 c.pop.ensures.items c.pop.ensures.value some ∙ ap (λ n. c.pop.new.self.items ++ n ∷ []) last in
    let owes = subst (λ (s : BooksState). owes_count s.owner.history ≡ false) (sym c.self.view_is) c.requires.paced.0 in
    let same : c.args.header ≡ header_in (last_of b.free.items) b.owner.filled = subst (λ (s : BooksState). c.args.header ≡ header_in s.spare s.owner.filled) (sym c.self.view_is) c.requires.header in
    let header : c.args.header ≡ header_in node b.owner.filled = same ∙ ap (λ n. header_in n b.owner.filled) last in
    let nodes = ap (λ (s : OwnerState). s.nodes) c.link.ensures.entry.now in
    let room = c.self.invariant.1 in let popped_room = c.pop.ensures.capacity in let pushed_room = c.push_back_reserved.ensures.capacity in (
      books_linked b.owner node c.link.new.self b.bounds.items b.free.items c.pop.new.self.items b.removed.items b.images.items c.push_back_reserved.new.self.items b.changes b.loads c.args.header
          c.link.ensures.entry owes parts header c.push_back_reserved.ensures.items c.self.invariant.0,
      (omega arith, omega arith, omega arith),
    )
