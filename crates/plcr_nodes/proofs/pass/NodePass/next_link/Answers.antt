use Rattle.std.proofs.Common.{◌≡◌, ◌⊎◌, true, sym, ap, ◌∙◌, subst, arith}
use mathlib.Core.Option.{none}
use Rattle.atomic_table.specs.Table.{step}
use Rattle.plcr_machine.specs.Passes.{is_inside}
use Rattle.plcr_nodes.specs.Entries.{among}
use Rattle.plcr_nodes.specs.Tokens.{PassState}
use Rattle.plcr_nodes.specs.inner.Seats.{IsPassing}
use Rattle.plcr_nodes.proofs.LoadSteps.{follows_at}
use Rattle.plcr_nodes.proofs.Passing.{has_number, place_bound, place_reached, pass_followed}
use Rattle.plcr_nodes.proofs.pass.NodePass.next_link.Goals as goal

pub load-found-requires : goal.load-found-requires
load-found-requires c =
    let table = ap (λ (s : PassState). s.table) c.self.view_is ∙ (c.requires.table ∙ sym c.nodes.view_is) in
    let wide = c.self.invariant.pass.seat.wide in
    let words = ap (λ t. t.words) table in
    let known = subst (λ (s : PassState). (c.args.node ≡ 0) ⊎ (among c.args.node s.given ≡ true)) (sym c.self.view_is) c.requires.known in
    let few = c.self.invariant.pass.seat.known.few_nodes in
    let b = place_bound c.self.inside.seat.table_id c.self.inside.seat.me c.self.inside.stamp c.self.invariant c.args.node known in
    let place = c.place_of.ensures in (
      table,
      omega arith,
      follows_at _ _ _ _ _ c.self.invariant.pass.seat.lives (has_number _ _ _ c.self.invariant) c.place_of.result c.args.node place
          (subst (λ (s : PassState). is_inside s.number s.history ≡ true) (sym c.self.view_is) c.requires.inside) (place_reached _ _ _ c.self.invariant c.args.node known),
    )

pub invariant_of-self : goal.invariant_of-self
invariant_of-self c =
    let old = c.self.inside.seat in
    let new = c.load-found.new.seat in
    subst (λ z. IsPassing z new.me c.self.inside.stamp) (sym c.load-found.ensures.0)
    (pass_followed old.table_id old.me c.self.inside.stamp c.self.invariant (step c.nodes.inside.table.shared.table_id.slots c.place_of.result 0 0 none) c.args.node c.load-found.result new.me c.place_of.ensures c.load-found.ensures.2).0
