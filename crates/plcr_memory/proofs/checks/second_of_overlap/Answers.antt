use Rattle.std.proofs.Common.{arith}
use Rattle.plcr_memory.proofs.checks.second_of_overlap.Goals as goal

pub loop-high-preserved-then-are_apart : goal.loop-high-preserved-then-are_apart
loop-high-preserved-then-are_apart c = record {
  below = omega arith;
  inside = c.loop-high.invariant.inside;
  apart = c.are_apart.ensures.0 c.if-are_apart.true;
  clash = c.loop-high.invariant.clash;
}
