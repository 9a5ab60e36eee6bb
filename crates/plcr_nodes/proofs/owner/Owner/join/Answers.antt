use Rattle.std.proofs.Common.{sym, subst}
use Rattle.plcr_nodes.specs.Tokens.{OwnerState, PassState}
use Rattle.plcr_nodes.specs.inner.Seats.{owner_state, pass_state, IsOwning}
use Rattle.plcr_nodes.specs.Telling.{IsJoined}
use Rattle.plcr_nodes.proofs.Told.{owning_gathered, owner_joined}
use Rattle.plcr_nodes.proofs.owner.Owner.join.Goals as goal

pub invariant_of-self : goal.invariant_of-self
invariant_of-self c =
    let old = c.self.inside.seat in
    let new = c.gather.new.seat in
    subst (λ z. IsOwning z new.me c.self.inside.links.items) (sym c.gather.ensures.table)
    (owning_gathered old.table_id old.me c.self.inside.links.items c.self.invariant c.pass.inside.seat.me.0 new.me c.gather.ensures.gathered)

pub returns : goal.returns
returns c =
    let old = c.self.inside.seat in
    let new = c.gather.new.seat in
    let pass = c.pass.inside.seat in
    let joined = owner_joined old.table_id old.me c.self.inside.links.items c.self.invariant pass.me.0 new.me c.gather.ensures.gathered pass.table_id c.pass.invariant.pass.one in
    record {
      joined = subst (λ (s : OwnerState × PassState). IsJoined s.0 s.1 (owner_state new.table_id new.me.0)) (λ i. (c.self.view_is i, c.pass.view_is i))
          (subst (λ z. IsJoined (owner_state old.table_id old.me.0) (pass_state pass.table_id pass.me.0) (owner_state z new.me.0)) (sym c.gather.ensures.table) joined);
    }
