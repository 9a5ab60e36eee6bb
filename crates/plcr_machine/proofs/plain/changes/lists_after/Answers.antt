use Rattle.std.proofs.Common.{◌∙◌, ℕ, sym, ap, List, arith, rules, reverse, take}
use Rattle.plcr_machine.specs.declared.change.Change.{Change}
use Rattle.plcr_machine.specs.Changes.{list_of, lists_at}
use Rattle.plcr_machine.proofs.Judging.{first_changes-reverse, lists_at-pushed, reverse-more}
use Rattle.plcr_machine.proofs.plain.changes.lists_after.Goals as goal

pub loop-change-preserved : goal.loop-change-preserved
loop-change-preserved c =
    let i : ℕ = c.loop-change.change-index in
    let cs : List Change = c.args.changes.now in
    let pushed = c.in_ok-push.ensures {u = tt} in (
      search rules,
      c.in_ok-next.ensures {u = tt} (reverse (take i cs)) (c.deref.ensures.value ∙ c.loop-change.invariant.1) ∙ ap list_of (reverse-more cs i c.change-item.result c.loop-change-test.true c.change-item.is),
      λ j lt. ap (λ l. lists_at l j) pushed.items ∙ lists_at-pushed c.loop-change.lists.items c.loop-change.last cs i c.loop-change.invariant.0 c.loop-change.invariant.2 c.loop-change.invariant.1 j lt,
    )

pub returns-clause-lists : goal.returns-clause-lists
returns-clause-lists c = λ j le.
    let i : ℕ = c.loop-change.change-index in
    let cs : List Change = c.args.changes.now in
    let pushed = c.in_ok-push-2.ensures {u = tt} in
    let end = c.loop-change-test.false in
    ap (λ l. lists_at l j) pushed.items
    ∙ lists_at-pushed c.loop-change.lists.items c.loop-change.last cs i c.loop-change.invariant.0 c.loop-change.invariant.2 c.loop-change.invariant.1 j (omega (arith, le, end))
    ∙ ap list_of (sym (first_changes-reverse j cs le))
