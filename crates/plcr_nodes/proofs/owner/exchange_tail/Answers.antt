use Rattle.std.proofs.Common.{sym, ap, ◌∙◌, subst, refl, arith}
use mathlib.Core.Option.{none}
use Rattle.atomic_table.specs.Table.{step}
use Rattle.plcr_nodes.specs.Owning.{IsLinked}
use Rattle.plcr_nodes.specs.inner.Seats.{owner_state, IsOwner}
use Rattle.plcr_nodes.proofs.LastPlace.{last_bound}
use Rattle.plcr_nodes.proofs.OwnerKnows.{owner_linked, links_at}
use Rattle.plcr_nodes.proofs.owner.exchange_tail.Goals as goal

pub swap-requires : goal.swap-requires
swap-requires c =
    let owner = c.requires.owner in
    let table = c.requires.table ∙ sym c.nodes.view_is in
    let wide = owner.seat.wide in
    let words = ap (λ t. t.words) table in
    let v = c.args.seat.now.me.0 in
    let few = owner.seat.known.few_nodes in
    let last = c.requires.tail in
    let bound = last_bound v.nodes v.passes v.history owner.seat.known.legal in
    let place = c.place_of.ensures in (
      table,
      omega arith,
      links_at _ _ c.nodes.inside.table.shared.table_id.slots c.args.seat.now.id c.args.seat.now.me owner.seat.lives owner.owns c.place_of.result c.args.tail c.args.node place c.requires.filled.0 c.requires.filled.1 c.requires.ended last,
    )

pub returns : goal.returns
returns c =
    let old = c.args.seat.now in
    let new = c.swap.new.seat in
    let told = owner_linked old.table_id old.me c.requires.owner (step c.nodes.inside.table.shared.table_id.slots c.place_of.result c.args.node 0 none) c.swap.result c.args.node new.me refl c.requires.filled.0 c.requires.filled.1 c.swap.ensures.2 in
    record {
      table = c.swap.ensures.0;
      owner = subst (λ z. IsOwner z new.me) (sym c.swap.ensures.0) told.0;
      entry = subst (λ z. IsLinked (owner_state old.table_id old.me.0) c.args.node (owner_state z new.me.0)) (sym c.swap.ensures.0) told.1;
      end = c.swap.ensures.2.5;
    }
