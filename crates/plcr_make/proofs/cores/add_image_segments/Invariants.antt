use Rattle.std.proofs.Common.{◌≡◌, ◌++◌}
use Rattle.plcr_make.specs.Numbers.{joined}
use Rattle.plcr_make.specs.Segments.{segment_command}
use Rattle.plcr_make.specs.Images.{image_segment}
use Rattle.plcr_make.proofs.cores.add_image_segments.Given as goal

abbrev pub invariant-loop-k : goal.invariant-loop-k
invariant-loop-k l = l.bytes.items ≡ l.initial.bytes.items ++ joined (λ k. segment_command (image_segment l.fn.start k)) l.k
