use Rattle.std.proofs.Common.{◌≡◌, ◌++◌}
use Rattle.plcr_make.specs.Numbers.{joined}
use Rattle.plcr_make.specs.Stacks.{thread_command}
use Rattle.plcr_make.proofs.cores.add_threads.Given as goal

abbrev pub invariant-loop-t : goal.invariant-loop-t
invariant-loop-t l = l.bytes.items ≡ l.initial.bytes.items ++ joined (thread_command l.fn.images) l.t
