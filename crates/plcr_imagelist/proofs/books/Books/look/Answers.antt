use Rattle.std.proofs.Common.{◌≡◌, ◌∙◌, ◌++◌, filter, List, ℕ, ap, sym, subst, arith}
use Rattle.plcr_machine.proofs.Pace.{paced_rest}
use Rattle.plcr_nodes.specs.Tokens.{OwnerState}
use Rattle.plcr_imagelist.specs.declared.bounds.Removed.{Removed}
use Rattle.plcr_imagelist.specs.declared.bounds.TheConstants.{MOST_BOUND}
use Rattle.plcr_imagelist.specs.States.{IsAtRest}
use Rattle.plcr_imagelist.specs.inner.Keeping.{writer_state, BooksState, Agrees, least_from, let_go_below, is_above}
use Rattle.plcr_imagelist.proofs.Kept.{agrees_looked}
use Rattle.plcr_imagelist.proofs.books.Books.look.Goals as goal

pub look_at_all-announced-requires-clause-counted : goal.look_at_all-announced-requires-clause-counted
look_at_all-announced-requires-clause-counted c =
    let a = c.self.invariant.0 in
    let rest : IsAtRest (writer_state c.self.inside.owner) = subst (λ (s : BooksState). IsAtRest (writer_state s.owner)) (sym c.self.view_is) c.requires.rest in
    a.changes_are ∙ paced_rest c.self.inside.owner.history a.paced rest.counted

pub invariant_of-self : goal.invariant_of-self
invariant_of-self c =
    let b = c.self.inside in
    let l = c.look_at_all-announced.ensures in
    let new : OwnerState = c.look_at_all-announced.new.owner in
    let bounds : List ℕ = c.look_at_all-announced.new.bounds.items in
    let least : c.least_of-least.result ≡ least_from MOST_BOUND bounds = c.least_of-least.ensures ∙ ap (least_from MOST_BOUND) c.deref.ensures.value in
    let agrees = agrees_looked b.owner new c.look_at_all-announced.result b.bounds.items bounds b.free.items b.removed.items b.images.items b.changes b.loads l.looks l.same l.rest l.bounds c.self.invariant.0 in
    let free : c.let_go.new.free.items ≡ b.free.items ++ let_go_below (least_from MOST_BOUND bounds) b.removed.items =
    c.let_go.ensures.freed ∙ ap (λ n. b.free.items ++ let_go_below n b.removed.items) least in
    let kept : c.let_go.new.removed.items ≡ filter (is_above (least_from MOST_BOUND bounds)) b.removed.items =
    c.let_go.ensures.kept ∙ ap (λ n. filter (is_above n) b.removed.items) least in
    let nodes = ap (λ (s : OwnerState). s.nodes) l.same in
    let room = c.self.invariant.1 in let settled = c.let_go.ensures.room in (
      subst (λ (xs : List ℕ). Agrees new bounds xs c.let_go.new.removed.items b.images.items b.changes b.loads) (sym free)
          (subst (λ (xs : List Removed). Agrees new bounds (b.free.items ++ let_go_below (least_from MOST_BOUND bounds) b.removed.items) xs b.images.items b.changes b.loads) (sym kept) agrees),
      (omega arith, omega arith, omega arith),
    )
