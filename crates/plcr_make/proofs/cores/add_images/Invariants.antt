use Rattle.std.proofs.Common.{◌≡◌, ◌++◌}
use Rattle.plcr_make.specs.Numbers.{joined}
use Rattle.plcr_make.specs.Images.{image_bytes}
use Rattle.plcr_make.proofs.cores.add_images.Given as goal

abbrev pub invariant-loop-k : goal.invariant-loop-k
invariant-loop-k l = l.bytes.items ≡ l.initial.bytes.items ++ joined image_bytes l.k
