use Rattle.plcr_maker.proofs.Counted.{frames_next}
use Rattle.plcr_maker.proofs.counts.frames_of.Goals as goal

pub loop-thread-preserved : goal.loop-thread-preserved
loop-thread-preserved c =
    let next = frames_next c.args.threads.now c.loop-thread.thread-index c.thread-item.result c.loop-thread-test.true c.thread-item.is in
    let sum = c.in_ok-frames.ensures in
    rw (next, ← c.loop-thread.invariant, ← c.len.ensures) sum.1
