use Rattle.std.proofs.Common.{◌+◌, ◌*◌}
use Rattle.plcr_loader.specs.declared.constants.TheConstants.{MH_CORE}
use Rattle.plcr_make.specs.declared.constants.TheConstants.{IMAGE_BYTES, THREADS}
use Rattle.plcr_make.specs.Numbers.{joined}
use Rattle.plcr_make.specs.Segments.{header, segment_command}
use Rattle.plcr_make.specs.Images.{image_bytes, image_segment}
use Rattle.plcr_make.specs.Stacks.{thread_command, stacks_bytes, stacks_segment}
use Rattle.plcr_make.specs.Cores.{commands_size, images_place, core_of}
use Rattle.plcr_make.proofs.Joining.{six_made}
use Rattle.plcr_make.proofs.cores.core_bytes.Goals as goal

pub returns : goal.returns
unfolding core_of
returns c =
    let n = c.args.images in
    six_made c.in_ok-bytes.bytes.items c.add_header.new.bytes.items c.add_image_segments.new.bytes.items c.add_segment.new.bytes.items c.add_threads.new.bytes.items c.add_images.new.bytes.items c.add_stacks.new.bytes.items
    (header MH_CORE (n + 1 + THREADS) (commands_size n)) (joined (λ k. segment_command (image_segment (images_place n) k)) n) (segment_command (stacks_segment (images_place n + IMAGE_BYTES * n))) (joined (thread_command n) THREADS) (joined image_bytes n) (stacks_bytes n)
    c.in_ok-bytes.ensures.items (rw c.commands_size.ensures at c.in_ok-add_header.ensures) (rw c.images_place-place.ensures at c.in_ok-add_image_segments.ensures) (rw (c.stacks_segment.ensures, c.images_place-place.ensures, c.from.ensures) at c.in_ok-add_segment.ensures) c.in_ok-add_threads.ensures c.in_ok-add_images.ensures c.in_ok-add_stacks.ensures
