use Rattle.std.proofs.Common.{◌≡◌, ◌++◌, List, vec_len}
use Rattle.plcr_imagelist.specs.States.{IsAtRest}
use Rattle.plcr_imagelist.specs.Holds.{WalkerState}
use Rattle.plcr_workers.specs.inner.Stages.{HasMetThese}
use Rattle.plcr_workers.proofs.opening.meet_all.Given as goal

-- the last passes have met the writer, and the others are left
abbrev pub invariant-loop-image : goal.invariant-loop-image
invariant-loop-image l = record {
  gone : List WalkerState;
  parts : l.fn.images.items ≡ l.images.items ++ gone;
  met : HasMetThese gone l.fn.writer l.writer;
  list : l.writer.table ≡ l.list;
  rest : IsAtRest l.writer;
}

abbrev pub decreases-loop-image : goal.decreases-loop-image
decreases-loop-image l = vec_len l.images
