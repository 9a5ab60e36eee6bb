use Rattle.std.proofs.Common.{sym, ap, ◌∙◌, subst, arith}
use Rattle.atomic_table.specs.Table.{Me}
use Rattle.atomic_table.specs.Seated.{TableId}
use Rattle.plcr_nodes.specs.declared.view.View.{View}
use Rattle.plcr_nodes.specs.Tokens.{OwnerState}
use Rattle.plcr_nodes.specs.Telling.{note_of_owner}
use Rattle.plcr_nodes.specs.inner.Seats.{owner_state, note_state, IsOwning}
use Rattle.plcr_nodes.proofs.TellSteps.{notes}
use Rattle.plcr_nodes.proofs.owner.Owner.note.Goals as goal

pub split_seat-requires : goal.split_seat-requires
split_seat-requires c =
    let table = ap (λ (s : OwnerState). s.table) c.self.view_is ∙ (c.requires.table ∙ sym c.nodes.view_is) in
    let wide = c.self.invariant.owner.seat.wide in
    let words = ap (λ t. t.words) table in
    (table, omega arith, notes _ _ _ _ c.self.invariant.owner.seat.lives)

pub invariant_of-self : goal.invariant_of-self
invariant_of-self c =
    let split = c.split_seat.ensures in
    subst (λ (q : TableId × Me Unit View). IsOwning q.0 q.1 c.self.inside.links.items) (λ i. (sym split.0 i, sym split.2 i)) c.self.invariant

pub returns : goal.returns
returns c =
    let split = c.split_seat.ensures in
    record {
      same = (λ i. owner_state (split.0 i) (split.2 i).0) ∙ c.self.view_is;
      note = (λ i. note_state (split.3 i) (split.4 i).0) ∙ (λ i. note_of_owner (c.self.view_is i));
    }
