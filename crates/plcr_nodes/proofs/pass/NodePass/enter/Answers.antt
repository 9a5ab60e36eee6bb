use Rattle.std.proofs.Common.{◌≡◌, false, true, sym, ap, ◌∙◌, subst, arith}
use mathlib.Core.Option.{none}
use Rattle.atomic_table.specs.Table.{step}
use Rattle.plcr_machine.specs.Passes.{is_announced, is_inside}
use Rattle.plcr_nodes.specs.declared.words.TheConstants.{GATE}
use Rattle.plcr_nodes.specs.Tokens.{PassState, IsEntered}
use Rattle.plcr_nodes.specs.inner.Seats.{pass_state, IsPassing}
use Rattle.plcr_nodes.proofs.PassSteps.{enters}
use Rattle.plcr_nodes.proofs.Known.{counts_small}
use Rattle.plcr_nodes.proofs.Passing.{has_number, pass_entered}
use Rattle.plcr_nodes.proofs.pass.NodePass.enter.Goals as goal

pub load-requires : goal.load-requires
load-requires c =
    let table = ap (λ (s : PassState). s.table) c.self.view_is ∙ (c.requires.table ∙ sym c.nodes.view_is) in
    let wide = c.self.invariant.pass.seat.wide in
    let words = ap (λ t. t.words) table in
    let stamped = subst (λ (s : PassState). is_announced s.number s.history ≡ true) (sym c.self.view_is) c.requires.announced in
    let out = subst (λ (s : PassState). is_inside s.number s.history ≡ false) (sym c.self.view_is) c.requires.out in
    (table, omega arith, enters _ _ _ _ _ c.self.invariant.pass.seat.lives (has_number _ _ _ c.self.invariant) stamped out)

pub overflow_cast-result : goal.overflow_cast-result
overflow_cast-result c =
    let told = c.load.ensures.2 in
    let small = counts_small _ _ _ told.0.past told.0.names told.0.takes.legal told.1 in omega arith

pub invariant_of-self : goal.invariant_of-self
invariant_of-self c =
    let old = c.self.inside.seat in
    let new = c.load.new.seat in
    let stamped = subst (λ (s : PassState). is_announced s.number s.history ≡ true) (sym c.self.view_is) c.requires.announced in
    let out = subst (λ (s : PassState). is_inside s.number s.history ≡ false) (sym c.self.view_is) c.requires.out in
    subst (λ z. IsPassing z new.me c.self.inside.stamp) (sym c.load.ensures.0)
    (pass_entered old.table_id old.me c.self.inside.stamp c.self.invariant (step c.nodes.inside.table.shared.table_id.slots GATE 0 0 none) c.load.result new.me stamped out c.load.ensures.2).0

pub returns : goal.returns
returns c =
    let old = c.self.inside.seat in
    let new = c.load.new.seat in
    let stamped = subst (λ (s : PassState). is_announced s.number s.history ≡ true) (sym c.self.view_is) c.requires.announced in
    let out = subst (λ (s : PassState). is_inside s.number s.history ≡ false) (sym c.self.view_is) c.requires.out in
    let told = pass_entered old.table_id old.me c.self.inside.stamp c.self.invariant (step c.nodes.inside.table.shared.table_id.slots GATE 0 0 none) c.load.result new.me stamped out c.load.ensures.2 in
    record {
      entered = subst (λ (s : PassState). IsEntered s c.load.result (pass_state new.table_id new.me.0)) c.self.view_is
          (subst (λ z. IsEntered (pass_state old.table_id old.me.0) c.load.result (pass_state z new.me.0)) (sym c.load.ensures.0) told.1);
    }
