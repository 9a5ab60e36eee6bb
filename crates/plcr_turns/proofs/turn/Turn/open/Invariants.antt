use Rattle.std.proofs.Common.{◌≡◌, ◌≤◌, take, length, vec_len, vec_capacity}
use Rattle.plcr_turns.specs.Turns.{untouched}
use Rattle.plcr_turns.proofs.turn.Turn.open.Given as goal

abbrev pub invariant-loop-total : goal.invariant-loop-total
invariant-loop-total l = (l.parts.items ≡ untouched (take l.total-index l.totals)) × (length l.totals ≤ vec_capacity l.parts) × (vec_len l.parts ≡ l.total-index)
