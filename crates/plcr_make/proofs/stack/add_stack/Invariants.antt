use Rattle.std.proofs.Common.{◌≡◌, ◌++◌}
use Rattle.std.specs.Int.{w64, to_le_bytes}
use Rattle.plcr_make.specs.Numbers.{joined}
use Rattle.plcr_make.specs.Stacks.{stack_word}
use Rattle.plcr_make.proofs.stack.add_stack.Given as goal

abbrev pub invariant-loop-i : goal.invariant-loop-i
invariant-loop-i l = l.bytes.items ≡ l.initial.bytes.items ++ joined (λ i. to_le_bytes w64 (stack_word l.fn.images l.fn.t i)) l.i
