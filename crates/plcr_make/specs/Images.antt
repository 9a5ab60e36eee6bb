-- The images that are made, numbered from 0.
use Rattle.std.specs.Prelude.{ℕ, ◌+◌, ◌*◌, List, [], ◌∷◌, ◌++◌, replicate}
use Rattle.std.specs.Int.{w32, to_be_bytes}
use Rattle.plcr_loader.specs.declared.constants.TheConstants.{LC_UUID, MH_DYLIB, SEG_TEXT}
use Rattle.plcr_loader.specs.declared.segment_command_64.TheConstants as segment_command_64
use Rattle.plcr_loader.specs.declared.uuid_command.TheConstants as uuid_command
use Rattle.plcr_make.specs.declared.constants.TheConstants.{FIRST_IMAGE, IMAGE_SIZE, IMAGE_BYTES, VM_PROT_READ_EXECUTE}
use Rattle.plcr_make.specs.declared.segments.Segment.{Segment}
use Rattle.plcr_make.specs.Numbers.{u32s}
use Rattle.plcr_make.specs.Segments.{header, segment_command}

-- the address of an image
abbrev pub image_address : ℕ → ℕ
image_address k = FIRST_IMAGE + IMAGE_SIZE * k

-- a name of zeros
abbrev pub no_name : List ℕ
no_name = replicate 16 0

-- the segment of an image's text, which has the whole image
abbrev pub text_segment : ℕ → Segment
text_segment k = record {
  name = SEG_TEXT;
  address = image_address k;
  memory_size = IMAGE_SIZE;
  file_offset = 0;
  file_size = IMAGE_SIZE;
  protection = VM_PROT_READ_EXECUTE;
}

-- the bytes of an image: its header, its text's segment, and an uuid that ends with its number
abbrev pub image_bytes : ℕ → List ℕ
image_bytes k =
    header MH_DYLIB 2 (segment_command_64.LENGTH + uuid_command.LENGTH)
    ++ (segment_command (text_segment k)
    ++ (u32s (LC_UUID ∷ uuid_command.LENGTH ∷ []) ++ (replicate 12 0 ++ to_be_bytes w32 k)))

-- the segment of the core with an image, whose bytes stand behind those of the images before it
-- from a place on
abbrev pub image_segment : ℕ → ℕ → Segment
image_segment start k =
    record {
      name = no_name;
      address = image_address k;
      memory_size = IMAGE_SIZE;
      file_offset = start + IMAGE_BYTES * k;
      file_size = IMAGE_BYTES;
      protection =
          VM_PROT_READ_EXECUTE;
    }
