use Rattle.std.proofs.Common.{sym, ap, ◌∙◌, subst, arith, slice_set}
use mathlib.Core.Option.{none}
use Rattle.atomic_table.specs.Table.{step}
use Rattle.plcr_machine.proofs.Freedom.{live_bound}
use Rattle.plcr_nodes.specs.Tokens.{OwnerState}
use Rattle.plcr_nodes.specs.Owning.{Follows, IsUnlinked}
use Rattle.plcr_nodes.specs.inner.Seats.{owner_state, IsOwner}
use Rattle.plcr_nodes.proofs.Noting.{knows_unlinked, noted_next}
use Rattle.plcr_nodes.proofs.UnlinkStep.{follower_listed, unlinks_at, before_bound, owner_unlinked}
use Rattle.plcr_nodes.proofs.owner.Owner.unlink.Goals as goal

pub index-next-requires : goal.index-next-requires
index-next-requires c =
    let v = c.self.inside.seat.me.0 in
    let follows = subst (λ (s : OwnerState). Follows c.args.before c.args.node s.history) (sym c.self.view_is) c.requires.follows in
    let bound = live_bound v.nodes v.passes c.args.node v.history c.self.invariant.owner.seat.known.legal (follower_listed c.args.before c.args.node v.history follows) in
    let wide = c.self.invariant.links.wide in omega arith

pub swap-requires : goal.swap-requires
swap-requires c =
    let table = ap (λ (s : OwnerState). s.table) c.self.view_is ∙ (c.requires.table ∙ sym c.nodes.view_is) in
    let wide = c.self.invariant.owner.seat.wide in
    let words = ap (λ t. t.words) table in
    let v = c.self.inside.seat.me.0 in
    let follows = subst (λ (s : OwnerState). Follows c.args.before c.args.node s.history) (sym c.self.view_is) c.requires.follows in
    let bound = before_bound v.nodes v.passes c.args.before c.args.node v.history c.self.invariant.owner.seat.known.legal follows in
    let place = c.place_of.ensures in
    let next = noted_next v.nodes v.passes c.args.before c.args.node v.history c.self.inside.links.items c.index-next.result.now c.self.invariant.owner.seat.known.legal follows c.self.invariant.links c.index-next.ensures in (
      table,
      omega arith,
      unlinks_at _ _ c.nodes.inside.table.shared.table_id.slots c.self.inside.seat.id c.self.inside.seat.me c.self.invariant.owner.seat.lives c.self.invariant.owner.owns c.place_of.result c.args.before c.args.node c.index-next.result.now place next follows,
    )

pub invariant_of-self : goal.invariant_of-self
invariant_of-self c =
    let v = c.self.inside.seat.me.0 in
    let follows = subst (λ (s : OwnerState). Follows c.args.before c.args.node s.history) (sym c.self.view_is) c.requires.follows in
    let bound = before_bound v.nodes v.passes c.args.before c.args.node v.history c.self.invariant.owner.seat.known.legal follows in
    let old = c.self.inside.seat in
    let new = c.swap.new.seat in
    let told = owner_unlinked old.table_id old.me c.self.invariant.owner (step c.nodes.inside.table.shared.table_id.slots c.place_of.result c.index-next.result.now 0 none) c.swap.result c.args.before c.args.node new.me c.place_of.ensures follows c.swap.ensures.2 in
    let next = noted_next v.nodes v.passes c.args.before c.args.node v.history c.self.inside.links.items c.index-next.result.now c.self.invariant.owner.seat.known.legal follows c.self.invariant.links c.index-next.ensures in
    record {
      owner = subst (λ z. IsOwner z new.me) (sym c.swap.ensures.0) told.0;
      links = knows_unlinked (owner_state old.table_id old.me.0) c.args.before c.args.node (owner_state old.table_id new.me.0) c.self.inside.links.items c.relink.new.links.items told.1 told.0.seat.known.legal bound follows
          (c.relink.ensures ∙ ap (λ x. slice_set c.self.inside.links.items c.args.before x) next) c.self.invariant.links;
    }

pub returns : goal.returns
returns c =
    let v = c.self.inside.seat.me.0 in
    let follows = subst (λ (s : OwnerState). Follows c.args.before c.args.node s.history) (sym c.self.view_is) c.requires.follows in
    let old = c.self.inside.seat in
    let new = c.swap.new.seat in
    let told = owner_unlinked old.table_id old.me c.self.invariant.owner (step c.nodes.inside.table.shared.table_id.slots c.place_of.result c.index-next.result.now 0 none) c.swap.result c.args.before c.args.node new.me c.place_of.ensures follows c.swap.ensures.2 in
    record {
      entry = subst (λ (s : OwnerState). IsUnlinked s c.args.node (owner_state new.table_id new.me.0)) c.self.view_is
          (subst (λ z. IsUnlinked (owner_state old.table_id old.me.0) c.args.node (owner_state z new.me.0)) (sym c.swap.ensures.0) told.1);
    }
