use Rattle.std.proofs.Common.{sym, ap, ◌∙◌, subst, arith}
use Rattle.atomic_table.specs.Table.{Me}
use Rattle.atomic_table.specs.Seated.{TableId}
use Rattle.plcr_nodes.specs.declared.view.View.{View}
use Rattle.plcr_nodes.specs.Tokens.{PassState}
use Rattle.plcr_nodes.specs.Telling.{note_of_pass}
use Rattle.plcr_nodes.specs.inner.Seats.{pass_state, note_state, IsPassing}
use Rattle.plcr_nodes.proofs.TellSteps.{notes}
use Rattle.plcr_nodes.proofs.pass.NodePass.note.Goals as goal

pub split_seat-requires : goal.split_seat-requires
split_seat-requires c =
    let table = ap (λ (s : PassState). s.table) c.self.view_is ∙ (c.requires.table ∙ sym c.nodes.view_is) in
    let wide = c.self.invariant.pass.seat.wide in
    let words = ap (λ t. t.words) table in
    (table, omega arith, notes _ _ _ _ c.self.invariant.pass.seat.lives)

pub invariant_of-self : goal.invariant_of-self
invariant_of-self c =
    let split = c.split_seat.ensures in
    subst (λ (q : TableId × Me Unit View). IsPassing q.0 q.1 c.self.inside.stamp) (λ i. (sym split.0 i, sym split.2 i)) c.self.invariant

pub returns : goal.returns
returns c =
    let split = c.split_seat.ensures in
    record {
      same = (λ i. pass_state (split.0 i) (split.2 i).0) ∙ c.self.view_is;
      note = (λ i. note_state (split.3 i) (split.4 i).0) ∙ (λ i. note_of_pass (c.self.view_is i));
    }
