-- The core that is made.
use Rattle.std.specs.Prelude.{ℕ, ◌+◌, ◌*◌, List, ◌++◌}
use Rattle.plcr_loader.specs.declared.constants.TheConstants.{MH_CORE}
use Rattle.plcr_loader.specs.declared.mach_header_64.TheConstants as mach_header_64
use Rattle.plcr_loader.specs.declared.segment_command_64.TheConstants as segment_command_64
use Rattle.plcr_make.specs.declared.constants.TheConstants.{IMAGE_BYTES, THREADS, THREAD_COMMAND_SIZE}
use Rattle.plcr_make.specs.Numbers.{joined}
use Rattle.plcr_make.specs.Segments.{header, segment_command}
use Rattle.plcr_make.specs.Images.{image_bytes, image_segment}
use Rattle.plcr_make.specs.Stacks.{thread_command, stacks_bytes, stacks_segment}

-- how many bytes its load commands have: a segment for each image and one for the stacks, and the
-- threads
abbrev pub commands_size : ℕ → ℕ
commands_size images = segment_command_64.LENGTH * (images + 1) + THREAD_COMMAND_SIZE * THREADS

-- where the bytes of the images begin
abbrev pub images_place : ℕ → ℕ
images_place images = mach_header_64.LENGTH + commands_size images

-- the core with so many images: its header, its segments and threads, and then the bytes of the
-- images and of the stacks
unfoldable pub core_of : ℕ → List ℕ
core_of images =
    header MH_CORE (images + 1 + THREADS) (commands_size images)
    ++ (joined (λ k. segment_command (image_segment (images_place images) k)) images
    ++ (segment_command (stacks_segment (images_place images + IMAGE_BYTES * images))
    ++ (joined (thread_command images) THREADS
    ++ (joined image_bytes images
    ++ stacks_bytes images))))
