use Rattle.std.proofs.Common.{◌≡◌, ◌≤◌, ◌∷◌, true, sym, ap, ◌∙◌, subst, arith}
use mathlib.Core.Option.{none}
use Rattle.atomic_table.specs.Table.{step}
use Rattle.plcr_machine.specs.Nodes.{is_free}
use Rattle.plcr_nodes.specs.Names.{store}
use Rattle.plcr_nodes.specs.Tokens.{OwnerState}
use Rattle.plcr_nodes.specs.inner.Seats.{owner_state, IsOwner}
use Rattle.plcr_machine.specs.Lists.{live}
use Rattle.plcr_nodes.proofs.Noting.{knows_same}
use Rattle.plcr_nodes.proofs.OwnerKnows.{owner_filled, fills_at}
use Rattle.plcr_nodes.proofs.owner.Owner.end_link.Goals as goal

pub store-requires : goal.store-requires
store-requires c =
    let table = ap (λ (s : OwnerState). s.table) c.self.view_is ∙ (c.requires.table ∙ sym c.nodes.view_is) in
    let wide = c.self.invariant.owner.seat.wide in
    let words = ap (λ t. t.words) table in
    let node = c.requires.node in
    let few = c.self.invariant.owner.seat.known.few_nodes in
    let in_table : c.args.node ≤ c.self.inside.seat.me.0.nodes = subst (λ (s : OwnerState). c.args.node ≤ s.nodes) (sym c.self.view_is) node.1 in
    let free = subst (λ (s : OwnerState). is_free s.passes c.args.node s.history ≡ true) (sym c.self.view_is) c.requires.free in
    let place = c.place_of.ensures in (
      table,
      omega arith,
      fills_at _ _ c.nodes.inside.table.shared.table_id.slots c.self.inside.seat.id c.self.inside.seat.me c.self.invariant.owner.seat.lives c.self.invariant.owner.owns c.place_of.result c.args.node 0 0 (c.place_of.ensures ∙ omega arith) node.0 in_table free (omega arith),
    )

pub invariant_of-self : goal.invariant_of-self
invariant_of-self c =
    let node = c.requires.node in
    let few = c.self.invariant.owner.seat.known.few_nodes in
    let in_table : c.args.node ≤ c.self.inside.seat.me.0.nodes = subst (λ (s : OwnerState). c.args.node ≤ s.nodes) (sym c.self.view_is) node.1 in
    let free = subst (λ (s : OwnerState). is_free s.passes c.args.node s.history ≡ true) (sym c.self.view_is) c.requires.free in
    let old = c.self.inside.seat in
    let new = c.store.new.seat in
    let told = (owner_filled old.table_id old.me c.self.invariant.owner (step c.nodes.inside.table.shared.table_id.slots c.place_of.result 0 0 none) 0 c.args.node 0 new.me (c.place_of.ensures ∙ omega arith) (omega arith) in_table free c.store.ensures.2) in
    record { owner = subst (λ z. IsOwner z new.me) (sym c.store.ensures.0) told.0; links = knows_same _ _ _ _ _ (ap (λ (s : OwnerState). s.nodes) told.1) (ap (λ (s : OwnerState). live s.history) told.1) c.self.invariant.links }

pub returns : goal.returns
returns c =
    let node = c.requires.node in
    let few = c.self.invariant.owner.seat.known.few_nodes in
    let in_table : c.args.node ≤ c.self.inside.seat.me.0.nodes = subst (λ (s : OwnerState). c.args.node ≤ s.nodes) (sym c.self.view_is) node.1 in
    let free = subst (λ (s : OwnerState). is_free s.passes c.args.node s.history ≡ true) (sym c.self.view_is) c.requires.free in
    let old = c.self.inside.seat in
    let new = c.store.new.seat in
    let told = (owner_filled old.table_id old.me c.self.invariant.owner (step c.nodes.inside.table.shared.table_id.slots c.place_of.result 0 0 none) 0 c.args.node 0 new.me (c.place_of.ensures ∙ omega arith) (omega arith) in_table free c.store.ensures.2).1 in
    record { stored = (λ i. owner_state (c.store.ensures.0 i) new.me.0) ∙ (told ∙ (λ i. record (c.self.view_is i) { filled = store c.args.node 0 0 ∷ (c.self.view_is i).filled })) }
