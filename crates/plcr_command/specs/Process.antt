-- What a core means to the run of a script.
use Rattle.std.specs.Prelude.{ℕ, List, Option, Some, None, Result, Ok, Err}
use Rattle.plcr_report.specs.Spelling.{spelling_of}
use Rattle.plcr_core.specs.declared.read.Core.{Core}
use Rattle.plcr_macho.specs.declared.image.Image.{Image}
use Rattle.plcr_macho.specs.declared.image.ImageFault.{ImageFault}
use Rattle.plcr_macho.specs.declared.image.ImageFault.TheVariants.{Unreadable, NotMachO, OtherCpu, BadCommand, NoText}
use Rattle.plcr_macho.specs.Images.{Listed}
use Rattle.plcr_macho.specs.Loading.{image_at}
use Rattle.plcr_encode.specs.Values.{process_report}
use Rattle.plcr_script.specs.Contexts.{context_of}
use Rattle.plcr_script.specs.Meanings.{Meanings, meanings}
use Rattle.plcr_script.specs.Scripts.{ScriptValue}

-- the number of an image's fault, as the log prints it
abbrev pub fault_number : ImageFault → ℕ
fault_number (Unreadable at) = 1
fault_number (NotMachO magic) = 2
fault_number (OtherCpu cpu) = 3
fault_number (BadCommand index) = 4
fault_number NoText = 5

-- the number of the fault, where there is no image
abbrev pub faulty : Result Image ImageFault → Option ℕ
faulty (Ok image) = None
faulty (Err fault) = Some (fault_number fault)

-- the number of the fault of the image at a header of a core's memory
abbrev pub fault_at : Core → ℕ → Option ℕ
fault_at core header = faulty (image_at core.memory core.arch header)

-- the bytes of a report with these images: that of the core's threads and memory, with the script's
-- values
unfoldable pub report_bytes : Core → ScriptValue → List Listed → List ℕ
report_bytes core script images =
    spelling_of (process_report (context_of script core.arch) core.threads core.memory images)

-- what the core means to the run of a script, where the values are those of this one
abbrev pub meanings_of : Core → ScriptValue → Meanings
meanings_of core script = meanings (fault_at core) (report_bytes core script)
