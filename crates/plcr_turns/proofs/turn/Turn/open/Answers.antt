use Rattle.std.proofs.Common.{◌≡◌, sym, subst, ap, arith, take, length, ◌∙◌}
use Rattle.std.proofs.lemmas.List.{take_all}
use Rattle.plcr_imagelist.specs.States.{IsAtRest}
use Rattle.plcr_turns.specs.Turns.{IsTurn, room_wanted, untouched}
use Rattle.plcr_turns.proofs.Turned.{opened_is_turn, room_of_all}
use Rattle.plcr_turns.proofs.turn.Turn.open.Goals as goal

pub invariant_of-result : goal.invariant_of-result
invariant_of-result c =
    let rest : IsAtRest c.args.writer = subst IsAtRest c.writer.view_is c.writer.invariant.0 in
    let are : c.loop-total.parts.items ≡ untouched c.args.totals.now = c.loop-total.invariant.0 ∙ ap untouched (take_all c.loop-total.total-index c.args.totals.now c.loop-total-test.false) in (
      opened_is_turn c.args.writer c.args.totals.now c.loop-total.parts.items c.in_ok-journal.journal.items c.requires rest c.in_ok-journal.ensures.items are (λ k. let f = c.type_inv.totals k in omega arith),
      (let room = ap room_wanted are ∙ room_of_all c.args.totals.now in
          let len = c.in_ok-journal.ensures.len in
          let cap = c.in_ok-journal.ensures.capacity in
          let sum = c.in-Some.ensures in
          omega arith),
    )
