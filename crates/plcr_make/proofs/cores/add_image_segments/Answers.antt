use Rattle.plcr_make.proofs.Joining.{joined_none, joined_on, joined_all}
use Rattle.plcr_make.specs.Segments.{segment_command}
use Rattle.plcr_make.specs.Images.{image_segment}
use Rattle.plcr_make.proofs.cores.add_image_segments.Goals as goal

pub loop-k-init : goal.loop-k-init
loop-k-init c = joined_none (λ k. segment_command (image_segment c.args.start k)) c.args.bytes.now.items

pub loop-k-preserved : goal.loop-k-preserved
loop-k-preserved c = joined_on (λ k. segment_command (image_segment c.args.start k)) c.loop-k.k c.args.bytes.now.items c.loop-k.bytes.items c.add_segment.new.bytes.items c.loop-k.invariant (rw c.image_segment.ensures at c.in_ok-add_segment.ensures)

pub returns : goal.returns
returns c = joined_all (λ k. segment_command (image_segment c.args.start k)) c.loop-k.k c.args.images c.args.bytes.now.items c.loop-k.bytes.items c.loop-k.auto.k-end c.loop-k-test.false c.loop-k.invariant
