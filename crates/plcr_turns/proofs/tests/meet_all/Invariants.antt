use Rattle.std.proofs.Common.{◌≡◌, All, vec_len}
use Rattle.plcr_imagelist.specs.Holds.{WalkerState}
use Rattle.plcr_turns.proofs.tests.meet_all.Given as goal

abbrev pub invariant-loop-image : goal.invariant-loop-image
invariant-loop-image l = (l.writer.table ≡ l.list) × All (λ (i : WalkerState). i.table ≡ l.list) l.images.items

abbrev pub decreases-loop-image : goal.decreases-loop-image
decreases-loop-image l = vec_len l.images
