use Rattle.std.proofs.Common.{◌≡◌, slice_set, sym, ap, ◌∙◌, subst, arith}
use Rattle.plcr_machine.specs.Lists.{live}
use Rattle.plcr_machine.specs.Links.{last_place}
use Rattle.plcr_nodes.specs.Names.{IsFilled, IsEnded}
use Rattle.plcr_nodes.specs.Tokens.{OwnerState}
use Rattle.plcr_nodes.specs.Owning.{IsLinked}
use Rattle.plcr_nodes.specs.inner.Seats.{owner_state}
use Rattle.plcr_nodes.proofs.LastPlace.{last_bound}
use Rattle.plcr_nodes.proofs.Noting.{knows_linked}
use Rattle.plcr_nodes.proofs.owner.Owner.link.Goals as goal

pub exchange_tail-requires : goal.exchange_tail-requires
exchange_tail-requires c = record {
  table = ap (λ (s : OwnerState). s.table) c.self.view_is ∙ c.requires.table;
  owner = c.self.invariant.owner;
  tail = subst (λ (s : OwnerState). c.args.tail ≡ last_place 0 (live s.history)) (sym c.self.view_is) c.requires.tail;
  filled = (c.requires.filled.0, subst (λ (s : OwnerState). IsFilled c.args.node s.filled) (sym c.self.view_is) c.requires.filled.1);
  ended = subst (λ (s : OwnerState). IsEnded c.args.node s.filled) (sym c.self.view_is) c.requires.ended;
}

pub relink-requires : goal.relink-requires
relink-requires c =
    let v = c.self.inside.seat.me.0 in
    let last = subst (λ (s : OwnerState). c.args.tail ≡ last_place 0 (live s.history)) (sym c.self.view_is) c.requires.tail in
    let bound = last_bound v.nodes v.passes v.history c.self.invariant.owner.seat.known.legal in
    let wide = c.self.invariant.links.wide in omega arith

pub invariant_of-self : goal.invariant_of-self
invariant_of-self c =
    let old = c.self.inside.seat in
    let new = c.exchange_tail.new.seat in
    let last = subst (λ (s : OwnerState). c.args.tail ≡ last_place 0 (live s.history)) (sym c.self.view_is) c.requires.tail in
    let told = c.exchange_tail.ensures in
    let noted = c.relink-2.ensures ∙ ap (λ xs. slice_set xs c.args.node 0) c.relink.ensures in
    record {
      owner = told.owner;
      links = knows_linked (owner_state old.table_id old.me.0) c.args.tail c.args.node (owner_state new.table_id new.me.0) c.self.inside.links.items c.relink-2.new.links.items told.entry told.owner.seat.known.legal last noted c.self.invariant.links;
    }

pub returns : goal.returns
returns c =
    let new = c.exchange_tail.new.seat in
    record { entry = subst (λ (s : OwnerState). IsLinked s c.args.node (owner_state new.table_id new.me.0)) c.self.view_is c.exchange_tail.ensures.entry }
