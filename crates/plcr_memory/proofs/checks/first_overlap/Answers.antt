use Rattle.std.proofs.Common.{arith}
use Rattle.plcr_memory.proofs.Halves.{apart_more}
use Rattle.plcr_memory.proofs.checks.first_overlap.Goals as goal

pub unreachable-requires : goal.unreachable-requires
unreachable-requires c =
    let second = c.second_of_overlap-second.result in
    let found = c.second_of_overlap-second.ensures in
    found.clashes (apart_more c.args.regions.now second found.least (λ k lt. c.loop-first.invariant k (omega arith)))
