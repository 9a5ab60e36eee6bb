use Rattle.std.proofs.Common.{◌≡◌, ◌++◌, take}
use Rattle.plcr_wire.proofs.held.push_each.Given as goal

-- the bytes so far are held
abbrev pub invariant-loop-b : goal.invariant-loop-b
invariant-loop-b g l = l.held.items ≡ l.initial.held.items ++ take l.b-index l.bytes
