use Rattle.std.proofs.Common.{◌≡◌, true, sym, ap, ◌∙◌, subst, arith}
use mathlib.Core.Option.{none}
use Rattle.atomic_table.specs.Table.{Me, step}
use Rattle.plcr_nodes.specs.declared.view.View.{View}
use Rattle.plcr_nodes.specs.Entries.{among}
use Rattle.plcr_nodes.specs.inner.Rule.{number_of}
use Rattle.plcr_nodes.specs.Tokens.{PassState, NoteState}
use Rattle.plcr_nodes.specs.Telling.{IsPassTold}
use Rattle.plcr_nodes.specs.inner.Seats.{pass_state, note_state, IsPassing}
use Rattle.plcr_nodes.specs.inner.Telling.{learned}
use Rattle.plcr_nodes.proofs.Passing.{has_number}
use Rattle.plcr_nodes.proofs.TellSteps.{hears, learns}
use Rattle.plcr_nodes.proofs.Told.{pass_told}
use Rattle.plcr_nodes.proofs.pass.NodePass.told.Goals as goal

pub join_seat-requires : goal.join_seat-requires
join_seat-requires c =
    let table = ap (λ (s : PassState). s.table) c.self.view_is ∙ (c.requires.table.0 ∙ sym c.nodes.view_is) in
    let other = ap (λ (s : NoteState). s.table) c.note.view_is ∙ (c.requires.table.1 ∙ sym c.nodes.view_is) in
    let wide = c.self.invariant.pass.seat.wide in
    let words = ap (λ t. t.words) table in
    (table, other, c.note.invariant.light, omega arith, hears _ _ _ _ c.self.invariant.pass.seat.lives _ _ c.note.invariant.lives)

pub load-requires : goal.load-requires
load-requires c =
    let table = ap (λ (s : PassState). s.table) c.self.view_is ∙ (c.requires.table.0 ∙ sym c.nodes.view_is) in
    let wide = c.self.invariant.pass.seat.wide in
    let words = ap (λ t. t.words) table in
    let joined = c.join_seat.ensures in
    let mine = subst (λ (q : Me Unit View). among (number_of q.0) q.0.numbers ≡ true) (sym joined.2) (has_number _ _ _ c.self.invariant) in
    (joined.0 ∙ table, omega arith, learns _ _ _ _ _ (ap (λ (q : Me Unit View). q.0.spent) joined.2 ∙ c.self.invariant.pass.seat.lives) mine)

pub invariant_of-self : goal.invariant_of-self
invariant_of-self c =
    let old = c.self.inside.seat in
    let new = c.load.new.seat in
    let joined = c.join_seat.ensures in
    let loaded = c.load.ensures in
    let note = c.note.inside.seat in
    let st = step c.nodes.inside.table.shared.table_id.slots 0 0 0 none in
    let told = pass_told old.table_id note.table_id old.me c.self.inside.stamp c.self.invariant note.me.0 st c.load.result new.me (subst (λ (q : Me Unit View). learned st q c.load.result new.me) joined.2 loaded.2) in
    subst (λ z. IsPassing z new.me c.self.inside.stamp) (sym (loaded.0 ∙ joined.0)) told.0

pub returns : goal.returns
returns c =
    let old = c.self.inside.seat in
    let new = c.load.new.seat in
    let joined = c.join_seat.ensures in
    let loaded = c.load.ensures in
    let note = c.note.inside.seat in
    let st = step c.nodes.inside.table.shared.table_id.slots 0 0 0 none in
    let told = pass_told old.table_id note.table_id old.me c.self.inside.stamp c.self.invariant note.me.0 st c.load.result new.me (subst (λ (q : Me Unit View). learned st q c.load.result new.me) joined.2 loaded.2) in
    record {
      told = subst (λ (s : PassState × NoteState). IsPassTold s.0 s.1 (pass_state new.table_id new.me.0)) (λ i. (c.self.view_is i, c.note.view_is i))
          (subst (λ z. IsPassTold (pass_state old.table_id old.me.0) (note_state note.table_id note.me.0) (pass_state z new.me.0)) (sym (loaded.0 ∙ joined.0)) told.1);
    }
