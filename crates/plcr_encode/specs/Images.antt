-- The images of a report: those of the list of loaded images, in its order, each with what the
-- memory holds of it.
use Rattle.std.specs.Prelude.{ℕ, List, map, Some, None, Result, Ok, Err}
use Rattle.plcr_memory.specs.Regions.{Contents}
use Rattle.plcr_regs.specs.declared.arch.Arch.{Arch}
use Rattle.plcr_macho.specs.declared.image.ImageFault.{ImageFault}
use Rattle.plcr_macho.specs.declared.image.Image as macho
use Rattle.plcr_macho.specs.Images.{Listed}
use Rattle.plcr_macho.specs.Loading.{image_at}
use Rattle.plcr_report.specs.declared.messages.Image.{Image}
use Rattle.plcr_report.specs.declared.messages.Processor.{Processor}

-- the processor by its numbers in a Mach-O header, which is encoding 1
abbrev pub processor_of : ℕ → ℕ → Processor
processor_of cpu subtype = record { encoding = 1; cpu = cpu; subtype = subtype }

-- what is written of a listed image, by what stands at its header; of one that doesn't parse no
-- more is known than its place in the list tells
abbrev pub image_with : Listed → Result macho.Image ImageFault → Image
image_with listed (Ok image) = record {
  base_address = listed.header;
  size = image.text_size;
  name = listed.name;
  uuid = image.uuid;
  code_type = Some (processor_of image.cpu image.subtype);
}
image_with listed (Err fault) = record {
  base_address = listed.header;
  size = 0;
  name = listed.name;
  uuid = None;
  code_type = None;
}

-- the same, where the memory tells what stands there
abbrev pub image_of : Contents → Arch → Listed → Image
image_of memory arch listed = image_with listed (image_at memory arch listed.header)

abbrev pub images_of : Contents → Arch → List Listed → List Image
images_of memory arch listed = map (image_of memory arch) listed
