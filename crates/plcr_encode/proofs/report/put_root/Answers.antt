use Rattle.std.proofs.Common.{refl}
use Rattle.plcr_wire.proofs.Writing.{wrote_twice}
use Rattle.plcr_encode.proofs.Roots.{spelling-report, length-seven}
use Rattle.plcr_encode.proofs.report.put_root.Goals as goal

pub returns-clause-wrote : goal.returns-clause-wrote
returns-clause-wrote g c =
    let images = rw c.put_threads-threads.ensures.same at c.put_images-images.ensures.wrote in
    rw (spelling-report c.args.context.now c.args.threads.now c.args.memory.now (g.I.Images.images c.args.images.now))
    (wrote_twice _ _ _ _ _ c.put_message-system.ensures.wrote
    (wrote_twice _ _ _ _ _ c.put_message-application.ensures.wrote
    (wrote_twice _ _ _ _ _ c.put_threads-threads.ensures.wrote
    (wrote_twice _ _ _ _ _ images
    (wrote_twice _ _ _ _ _ c.put_message-signal.ensures.wrote
    (wrote_twice _ _ _ _ _ c.put_message-process.ensures.wrote c.put_message-info.ensures.wrote))))))

pub returns-clause-size : goal.returns-clause-size
returns-clause-size g c =
    let images = rw c.put_threads-threads.ensures.same at c.put_images-images.ensures.size in
    rw (spelling-report c.args.context.now c.args.threads.now c.args.memory.now (g.I.Images.images c.args.images.now))
    (rw length-seven (rw (← c.put_message-system.ensures.size, ← c.put_message-application.ensures.size, ← c.put_threads-threads.ensures.size, ← images, ← c.put_message-signal.ensures.size, ← c.put_message-process.ensures.size, ← c.put_message-info.ensures.size) refl))
