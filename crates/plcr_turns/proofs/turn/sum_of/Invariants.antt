use Rattle.std.proofs.Common.{◌≡◌, sum, take}
use Rattle.plcr_turns.proofs.turn.sum_of.Given as goal

abbrev pub invariant-loop-total : goal.invariant-loop-total
invariant-loop-total l = l.sum ≡ sum (take l.total-index l.totals)
