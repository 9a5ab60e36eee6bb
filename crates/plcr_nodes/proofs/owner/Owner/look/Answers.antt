use Rattle.std.proofs.Common.{◌<◌, refl, sym, ap, ◌∙◌, subst, arith}
use mathlib.Core.Option.{none}
use Rattle.atomic_table.specs.Table.{step}
use Rattle.plcr_machine.specs.Lists.{live}
use Rattle.plcr_nodes.specs.Tokens.{OwnerState}
use Rattle.plcr_nodes.specs.Owning.{IsLooked}
use Rattle.plcr_nodes.specs.inner.Seats.{owner_state, IsOwner}
use Rattle.plcr_nodes.proofs.Known.{live_same}
use Rattle.plcr_nodes.proofs.Noting.{knows_same}
use Rattle.plcr_nodes.proofs.OwnerSteps.{looking, owner_looked}
use Rattle.plcr_nodes.proofs.owner.Owner.look.Goals as goal

pub stamp_word-requires : goal.stamp_word-requires
stamp_word-requires c =
    let few = c.self.invariant.owner.seat.known.few_nodes in
    let wide = c.self.invariant.links.wide in
    let len = c.len.ensures in omega arith

pub load-requires : goal.load-requires
load-requires c =
    let table = ap (λ (s : OwnerState). s.table) c.self.view_is ∙ (c.requires.table ∙ sym c.nodes.view_is) in
    let wide = c.self.invariant.owner.seat.wide in
    let words = ap (λ t. t.words) table in
    let few = subst (λ (s : OwnerState). c.args.pass < s.passes) (sym c.self.view_is) c.requires.pass in
    let noted = c.self.invariant.links.wide in
    let len = c.len.ensures in
    let place = c.stamp_word.ensures c.self.inside.seat.me.0.nodes (omega arith) in
    (table, omega arith, looking _ _ c.nodes.inside.table.shared.table_id.slots c.self.inside.seat.id c.self.inside.seat.me c.self.invariant.owner.seat.lives c.self.invariant.owner.owns c.stamp_word.result c.args.pass place few)

pub invariant_of-self : goal.invariant_of-self
invariant_of-self c =
    let old = c.self.inside.seat in
    let new = c.load.new.seat in
    let few = subst (λ (s : OwnerState). c.args.pass < s.passes) (sym c.self.view_is) c.requires.pass in
    let noted = c.self.invariant.links.wide in
    let len = c.len.ensures in
    let place = c.stamp_word.ensures c.self.inside.seat.me.0.nodes (omega arith) in
    let told = owner_looked old.table_id old.me c.self.invariant.owner (step c.nodes.inside.table.shared.table_id.slots c.stamp_word.result 0 0 none) c.args.pass c.load.result new.me place few c.load.ensures.2 in
    let entry = told.1.entry in
    record { owner = subst (λ z. IsOwner z new.me) (sym c.load.ensures.0) told.0; links = knows_same _ _ _ _ _ (ap (λ (s : OwnerState). s.nodes) entry.now) (ap (λ (s : OwnerState). live s.history) entry.now ∙ live_same entry.past old.me.0.history (entry.sees.added.owner refl)) c.self.invariant.links }

pub returns : goal.returns
returns c =
    let old = c.self.inside.seat in
    let new = c.load.new.seat in
    let few = subst (λ (s : OwnerState). c.args.pass < s.passes) (sym c.self.view_is) c.requires.pass in
    let noted = c.self.invariant.links.wide in
    let len = c.len.ensures in
    let place = c.stamp_word.ensures c.self.inside.seat.me.0.nodes (omega arith) in
    let told = owner_looked old.table_id old.me c.self.invariant.owner (step c.nodes.inside.table.shared.table_id.slots c.stamp_word.result 0 0 none) c.args.pass c.load.result new.me place few c.load.ensures.2 in
    record {
      looked = subst (λ (s : OwnerState). IsLooked s c.args.pass c.load.result (owner_state new.table_id new.me.0)) c.self.view_is
          (subst (λ z. IsLooked (owner_state old.table_id old.me.0) c.args.pass c.load.result (owner_state z new.me.0)) (sym c.load.ensures.0) told.1);
    }
