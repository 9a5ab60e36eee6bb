use Rattle.std.proofs.Common.{◌≡◌, ◌++◌}
use Rattle.plcr_make.specs.Numbers.{joined}
use Rattle.plcr_make.specs.Stacks.{stack_bytes}
use Rattle.plcr_make.proofs.stack.add_stacks.Given as goal

abbrev pub invariant-loop-t : goal.invariant-loop-t
invariant-loop-t l = l.bytes.items ≡ l.initial.bytes.items ++ joined (stack_bytes l.fn.images) l.t
