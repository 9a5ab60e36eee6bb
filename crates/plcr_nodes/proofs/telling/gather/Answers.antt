use Rattle.std.proofs.Common.{sym, ap, ◌∙◌, subst, arith}
use mathlib.Core.Option.{none}
use Rattle.atomic_table.specs.Table.{Me, step}
use Rattle.plcr_nodes.specs.declared.view.View.{View}
use Rattle.plcr_nodes.specs.inner.Telling.{gathered}
use Rattle.plcr_nodes.proofs.TellSteps.{hears, gathers}
use Rattle.plcr_nodes.proofs.Told.{gathered_of}
use Rattle.plcr_nodes.proofs.telling.gather.Goals as goal

pub join_seat-requires : goal.join_seat-requires
join_seat-requires c =
    let t = c.requires.tables in
    let words = ap (λ z. z.words) c.nodes.view_is in
    (t.0 ∙ sym c.nodes.view_is, t.1 ∙ sym c.nodes.view_is, c.requires.light, omega arith, hears _ _ _ _ c.requires.lives.0 _ _ c.requires.lives.1)

pub load-requires : goal.load-requires
load-requires c =
    let t = c.requires.tables in
    let joined = c.join_seat.ensures in
    let words = ap (λ z. z.words) c.nodes.view_is in
    (joined.0 ∙ t.0 ∙ sym c.nodes.view_is, omega arith, gathers _ _ _ _ _ (ap (λ (m : Me Unit View). m.0.spent) joined.2 ∙ c.requires.lives.0))

pub returns : goal.returns
returns c =
    let joined = c.join_seat.ensures in
    let loaded = c.load.ensures in
    let st = step c.nodes.inside.table.shared.table_id.slots 0 0 0 none in
    record {
      table = loaded.0 ∙ joined.0;
      gathered = gathered_of c.args.seat.now.me c.args.other.me.0 st c.load.result c.load.new.seat.me
          (subst (λ (m : Me Unit View). gathered st m c.load.result c.load.new.seat.me) joined.2 loaded.2);
    }
