use Rattle.std.proofs.Common.{◌<◌, refl, sym, ap, ◌∙◌, subst, arith}
use mathlib.Core.Option.{none}
use Rattle.atomic_table.specs.Table.{step}
use Rattle.plcr_machine.specs.Lists.{live}
use Rattle.plcr_machine.specs.Passes.{counts}
use Rattle.plcr_machine.specs.declared.limits.TheConstants.{MOST_CHANGES}
use Rattle.plcr_nodes.specs.declared.words.TheConstants.{GATE}
use Rattle.plcr_nodes.specs.Tokens.{OwnerState}
use Rattle.plcr_nodes.specs.Owning.{IsCounted}
use Rattle.plcr_nodes.specs.inner.Seats.{owner_state, IsOwner}
use Rattle.plcr_nodes.proofs.Known.{counts_small, live_same}
use Rattle.plcr_nodes.proofs.Noting.{knows_same}
use Rattle.plcr_nodes.proofs.OwnerSteps.{counting, owner_counted}
use Rattle.plcr_nodes.proofs.owner.Owner.count.Goals as goal

pub fetch_add-requires : goal.fetch_add-requires
fetch_add-requires c =
    let table = ap (λ (s : OwnerState). s.table) c.self.view_is ∙ (c.requires.table ∙ sym c.nodes.view_is) in
    let wide = c.self.invariant.owner.seat.wide in
    let words = ap (λ t. t.words) table in
    let fewer = subst (λ (s : OwnerState). counts s.history < MOST_CHANGES) (sym c.self.view_is) c.requires.fewer in
    (table, omega arith, counting _ _ c.nodes.inside.table.shared.table_id.slots c.self.inside.seat.id c.self.inside.seat.me c.self.invariant.owner.seat.lives c.self.invariant.owner.owns fewer)

pub overflow_cast-result : goal.overflow_cast-result
overflow_cast-result c =
    let told = c.fetch_add.ensures.2 in
    let small = counts_small _ _ _ told.0.past told.0.names told.0.takes.legal told.1 in omega arith

pub invariant_of-self : goal.invariant_of-self
invariant_of-self c =
    let old = c.self.inside.seat in
    let new = c.fetch_add.new.seat in
    let fewer = subst (λ (s : OwnerState). counts s.history < MOST_CHANGES) (sym c.self.view_is) c.requires.fewer in
    let told = owner_counted old.table_id old.me c.self.invariant.owner (step c.nodes.inside.table.shared.table_id.slots GATE 1 0 none) c.fetch_add.result new.me fewer c.fetch_add.ensures.2 in
    let entry = told.1.entry in
    record { owner = subst (λ z. IsOwner z new.me) (sym c.fetch_add.ensures.0) told.0; links = knows_same _ _ _ _ _ (ap (λ (s : OwnerState). s.nodes) entry.now) (ap (λ (s : OwnerState). live s.history) entry.now ∙ live_same entry.past old.me.0.history (entry.sees.added.owner refl)) c.self.invariant.links }

pub returns : goal.returns
returns c =
    let old = c.self.inside.seat in
    let new = c.fetch_add.new.seat in
    let fewer = subst (λ (s : OwnerState). counts s.history < MOST_CHANGES) (sym c.self.view_is) c.requires.fewer in
    let told = owner_counted old.table_id old.me c.self.invariant.owner (step c.nodes.inside.table.shared.table_id.slots GATE 1 0 none) c.fetch_add.result new.me fewer c.fetch_add.ensures.2 in
    record {
      counted = subst (λ (s : OwnerState). IsCounted s c.fetch_add.result (owner_state new.table_id new.me.0)) c.self.view_is
          (subst (λ z. IsCounted (owner_state old.table_id old.me.0) c.fetch_add.result (owner_state z new.me.0)) (sym c.fetch_add.ensures.0) told.1);
    }
