use Rattle.std.proofs.Common.{sym, subst}
use Rattle.plcr_nodes.specs.Tokens.{OwnerState, NoteState}
use Rattle.plcr_nodes.specs.Telling.{IsOwnerTold}
use Rattle.plcr_nodes.specs.inner.Seats.{owner_state, note_state, IsOwning}
use Rattle.plcr_nodes.proofs.Told.{owning_gathered, owner_told}
use Rattle.plcr_nodes.proofs.owner.Owner.told.Goals as goal

pub invariant_of-self : goal.invariant_of-self
invariant_of-self c =
    let old = c.self.inside.seat in
    let new = c.gather.new.seat in
    subst (λ z. IsOwning z new.me c.self.inside.links.items) (sym c.gather.ensures.table)
    (owning_gathered old.table_id old.me c.self.inside.links.items c.self.invariant c.note.inside.seat.me.0 new.me c.gather.ensures.gathered)

pub returns : goal.returns
returns c =
    let old = c.self.inside.seat in
    let new = c.gather.new.seat in
    let note = c.note.inside.seat in
    let told = owner_told old.table_id old.me c.self.inside.links.items c.self.invariant note.me.0 new.me c.gather.ensures.gathered note.table_id c.note.invariant.numbers in
    record {
      told = subst (λ (s : OwnerState × NoteState). IsOwnerTold s.0 s.1 (owner_state new.table_id new.me.0)) (λ i. (c.self.view_is i, c.note.view_is i))
          (subst (λ z. IsOwnerTold (owner_state old.table_id old.me.0) (note_state note.table_id note.me.0) (owner_state z new.me.0)) (sym c.gather.ensures.table) told);
    }
