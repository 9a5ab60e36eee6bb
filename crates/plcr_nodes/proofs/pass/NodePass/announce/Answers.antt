use Rattle.std.proofs.Common.{◌≡◌, ◌≤◌, ◌+◌, false, refl, sym, ap, ◌∙◌, subst, arith}
use mathlib.Core.Option.{none}
use Rattle.atomic_table.specs.Table.{step}
use Rattle.plcr_machine.specs.declared.entry.Entry.TheVariants.{Announce}
use Rattle.plcr_machine.specs.Passes.{counts, is_announced}
use Rattle.plcr_nodes.specs.Tokens.{PassState, IsEntry}
use Rattle.plcr_nodes.specs.inner.Seats.{pass_state, IsPassing}
use Rattle.plcr_nodes.proofs.PassSteps.{announces}
use Rattle.plcr_nodes.proofs.Passing.{has_number, stamp_within, pass_announced}
use Rattle.plcr_nodes.proofs.pass.NodePass.announce.Goals as goal

pub swap-requires : goal.swap-requires
swap-requires c =
    let table = ap (λ (s : PassState). s.table) c.self.view_is ∙ (c.requires.table ∙ sym c.nodes.view_is) in
    let words = ap (λ t. t.words) table in
    let within = stamp_within _ _ _ c.self.invariant in
    let quiet = subst (λ (s : PassState). is_announced s.number s.history ≡ false) (sym c.self.view_is) c.requires.retired in
    let known = subst (λ (s : PassState). c.args.seen ≤ counts s.history) (sym c.self.view_is) c.requires.seen in
    (table, omega arith, announces _ _ _ _ _ c.self.invariant.pass.seat.lives (has_number _ _ _ c.self.invariant) c.self.inside.stamp c.args.seen c.self.invariant.stamped quiet known)

pub invariant_of-self : goal.invariant_of-self
invariant_of-self c =
    let old = c.self.inside.seat in
    let new = c.swap.new.seat in
    let quiet = subst (λ (s : PassState). is_announced s.number s.history ≡ false) (sym c.self.view_is) c.requires.retired in
    let known = subst (λ (s : PassState). c.args.seen ≤ counts s.history) (sym c.self.view_is) c.requires.seen in
    subst (λ z. IsPassing z new.me c.self.inside.stamp) (sym c.swap.ensures.0)
    (pass_announced old.table_id old.me c.self.inside.stamp c.self.invariant (step c.nodes.inside.table.shared.table_id.slots c.self.inside.stamp (c.args.seen + 1) 0 none) c.args.seen c.swap.result new.me refl quiet known c.swap.ensures.2).0

pub returns : goal.returns
returns c =
    let old = c.self.inside.seat in
    let new = c.swap.new.seat in
    let quiet = subst (λ (s : PassState). is_announced s.number s.history ≡ false) (sym c.self.view_is) c.requires.retired in
    let known = subst (λ (s : PassState). c.args.seen ≤ counts s.history) (sym c.self.view_is) c.requires.seen in
    let told = pass_announced old.table_id old.me c.self.inside.stamp c.self.invariant (step c.nodes.inside.table.shared.table_id.slots c.self.inside.stamp (c.args.seen + 1) 0 none) c.args.seen c.swap.result new.me refl quiet known c.swap.ensures.2 in
    record {
      entry = subst (λ (s : PassState). IsEntry (Announce s.number c.args.seen) s (pass_state new.table_id new.me.0)) c.self.view_is
          (subst (λ z. IsEntry (Announce (pass_state old.table_id old.me.0).number c.args.seen) (pass_state old.table_id old.me.0) (pass_state z new.me.0)) (sym c.swap.ensures.0) told.1);
    }
