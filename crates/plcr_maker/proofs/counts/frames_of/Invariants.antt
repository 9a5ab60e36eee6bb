use Rattle.std.proofs.Common.{◌≡◌, take}
use Rattle.plcr_maker.specs.Make.{frames_in}
use Rattle.plcr_maker.proofs.counts.frames_of.Given as goal

abbrev pub invariant-loop-thread : goal.invariant-loop-thread
invariant-loop-thread l = l.frames ≡ frames_in (take l.thread-index l.threads)
