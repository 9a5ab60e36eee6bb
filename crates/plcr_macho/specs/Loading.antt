-- An image in memory, read off the list of all load commands at its header (loader.h). Of several
-- commands, segments or sections of one kind or name the first in the list counts.
use Rattle.std.specs.Prelude.{ℕ, zero, suc, ◌+◌, ◌*◌, Bool, ◌==◌, ◌&&◌, not, nat_lt, if◌then◌else◌, List, [], ◌∷◌, take, drop, Option, Some, None, option_map, ok_or, Result, Ok, Err}
use Rattle.std.specs.List.{find}
use Rattle.plcr_base.specs.Chains.{◌>>=◌}
use Rattle.plcr_memory.specs.Regions.{Contents, bytes_at}
use Rattle.plcr_loader.specs.declared.constants.TheConstants.{CPU_TYPE_ARM64, CPU_TYPE_X86_64, MH_MAGIC_64, SEG_TEXT, SEG_LINKEDIT}
use Rattle.plcr_loader.specs.declared.load_command.TheConstants as load_command
use Rattle.plcr_loader.specs.declared.mach_header_64.TheConstants as mach_header_64
use Rattle.plcr_loader.specs.declared.segment_command_64.TheConstants as segment_command_64
use Rattle.plcr_loader.specs.declared.section_64.TheConstants as section_64
use Rattle.plcr_loader.specs.declared.symtab_command.TheConstants as symtab_command
use Rattle.plcr_loader.specs.declared.uuid_command.TheConstants as uuid_command
use Rattle.plcr_loader.specs.declared.mach_header_64.TheConstants.{MAGIC, CPUTYPE, CPUSUBTYPE, NCMDS, SIZEOFCMDS}
use Rattle.plcr_loader.specs.declared.segment_command_64.TheConstants.{SEGNAME, VMADDR, VMSIZE, FILEOFF, NSECTS}
use Rattle.plcr_loader.specs.declared.section_64.TheConstants.{SECTNAME, ADDR, SIZE}
use Rattle.plcr_loader.specs.declared.symtab_command.TheConstants.{SYMOFF, NSYMS, STROFF, STRSIZE}
use Rattle.plcr_loader.specs.declared.uuid_command.TheConstants.{UUID}
use Rattle.plcr_loader.specs.declared.trouble.Trouble.{Trouble}
use Rattle.plcr_loader.specs.declared.trouble.Trouble.TheVariants.{Bad, Absent}
use Rattle.plcr_loader.specs.Commands.{Command, commands_at, faulted, is_segment, is_symtab, is_uuid}
use Rattle.plcr_loader.specs.Fields.{number, bytes_of, is_named}
use Rattle.plcr_regs.specs.declared.arch.Arch.{Arch}
use Rattle.plcr_regs.specs.declared.arch.Arch.TheVariants.{X86_64, Arm64}
use Rattle.plcr_macho.specs.declared.sections.TheConstants.{UNWIND_INFO, EH_FRAME}
use Rattle.plcr_macho.specs.declared.image.Part.{Part}
use Rattle.plcr_macho.specs.declared.image.Symtab.{Symtab}
use Rattle.plcr_macho.specs.declared.image.Image.{Image}
use Rattle.plcr_macho.specs.declared.image.ImageFault.{ImageFault}
use Rattle.plcr_macho.specs.declared.image.ImageFault.TheVariants.{Unreadable, NotMachO, OtherCpu, BadCommand, NoText}
use Rattle.plcr_macho.specs.Sources.{plus, minus, memory_bytes}

-- the cputype of an architecture
abbrev pub cpu_of : Arch → ℕ
cpu_of X86_64 = CPU_TYPE_X86_64
cpu_of Arm64 = CPU_TYPE_ARM64

-- the bytes of the header, a mach_header_64 of this architecture, or the first fault in it
unfoldable pub head_at : Contents → Arch → ℕ → Result (List ℕ) ImageFault
head_at memory arch header =
    ok_or (bytes_at memory header mach_header_64.LENGTH) (Unreadable header) >>= λ head.
    if not (number MAGIC head == MH_MAGIC_64) then Err (NotMachO (number MAGIC head)) else
    if not (number CPUTYPE head == cpu_of arch) then Err (OtherCpu (number CPUTYPE head)) else
    Ok head

-- the least size of a command of this kind; a segment has its sections behind it
abbrev pub least_size : Command → ℕ
least_size c =
    if is_segment c then segment_command_64.LENGTH + section_64.LENGTH * number NSECTS c.bytes else
    if is_symtab c then symtab_command.LENGTH else
    if is_uuid c then uuid_command.LENGTH else load_command.LENGTH

-- what is wrong with a command of an image beside its frame
abbrev pub image_trouble : ℕ → Command → Option Trouble
image_trouble index c = if nat_lt c.cmdsize (least_size c) then Some (Bad index) else None

-- what a trouble is in an image whose commands stand from an address on
abbrev pub fault_of : ℕ → Trouble → ImageFault
fault_of start (Bad index) = BadCommand index
fault_of start (Absent place) = Unreadable (plus start place)

-- all load commands behind a header, or the first fault among them
unfoldable pub commands_in : Contents → ℕ → List ℕ → Result (List Command) ImageFault
commands_in memory header head =
    let start = plus header mach_header_64.LENGTH in
    faulted (fault_of start)
    (commands_at (memory_bytes memory start) image_trouble (number SIZEOFCMDS head)
    (number NCMDS head) 0 0)

-- a segment of this name
abbrev pub is_segment_named : List ℕ → Command → Bool
is_segment_named name c = is_segment c && is_named SEGNAME name c.bytes

-- so many sections, one behind the other
abbrev pub sections_in : ℕ → List ℕ → List (List ℕ)
sections_in zero bytes = []
sections_in (suc n) bytes =
    take section_64.LENGTH bytes ∷ sections_in n (drop section_64.LENGTH bytes)

-- the sections within the command of a segment
abbrev pub sections_of : Command → List (List ℕ)
sections_of segment =
    sections_in (number NSECTS segment.bytes) (drop segment_command_64.LENGTH segment.bytes)

-- where a section lies in memory
abbrev pub part_of : ℕ → List ℕ → Part
part_of slide section = record { at = plus (number ADDR section) slide; size = number SIZE section }

-- where the first section of this name within the segment's command lies
abbrev pub part_named : List ℕ → ℕ → Command → Option Part
part_named name slide segment =
    option_map (part_of slide) (find (is_named SECTNAME name) (sections_of segment))

-- the address of what the file has at an offset, which lies in the segment `__LINKEDIT`
abbrev pub linked_at : ℕ → Command → ℕ → ℕ
linked_at slide linkedit offset =
    plus (plus (minus offset (number FILEOFF linkedit.bytes)) (number VMADDR linkedit.bytes)) slide

-- where the tables of the symbols lie; without a segment `__LINKEDIT` nowhere
abbrev pub symtab_of : ℕ → Option Command → Option Command → Option Symtab
symtab_of slide None symtab = None
symtab_of slide (Some linkedit) symtab = option_map (λ c. record {
  rows_at = linked_at slide linkedit (number SYMOFF c.bytes);
  rows = number NSYMS c.bytes;
  strings_at = linked_at slide linkedit (number STROFF c.bytes);
  strings = number STRSIZE c.bytes;
}) symtab

-- the image whose header, with these bytes, stands at an address, with its segment `__TEXT` and all
-- of its commands
abbrev pub image_with : ℕ → List ℕ → List Command → Command → Image
image_with header head cs text =
    let slide = minus header (number VMADDR text.bytes) in
    record {
      header = header;
      cpu = number CPUTYPE head;
      subtype = number CPUSUBTYPE head;
      slide = slide;
      text_size = number VMSIZE text.bytes;
      uuid = option_map (λ c. bytes_of UUID c.bytes) (find is_uuid cs);
      symtab = symtab_of slide (find (is_segment_named SEG_LINKEDIT) cs) (find is_symtab cs);
      unwind = part_named UNWIND_INFO slide text;
      eh_frame = part_named EH_FRAME slide text;
    }

-- the image of these commands
unfoldable pub image_of : ℕ → List ℕ → List Command → Result Image ImageFault
image_of header head cs =
    ok_or (find (is_segment_named SEG_TEXT) cs) NoText >>= λ text.
    Ok (image_with header head cs text)

-- the image whose header stands at an address, or the first fault: of the header, of the commands
-- in their order, then that no segment is `__TEXT`
unfoldable pub image_at : Contents → Arch → ℕ → Result Image ImageFault
image_at memory arch header =
    head_at memory arch header >>= λ head.
    commands_in memory header head >>= λ cs.
    image_of header head cs
