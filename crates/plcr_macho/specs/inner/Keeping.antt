-- What the private functions behind parse answer: what is kept of the load commands, whose bytes
-- stand in memory.
use Rattle.std.specs.Prelude.{ℕ, List, [], ◌∷◌, Option, Some, None, IsSome, option_map, unwrap_or, ok_or, Result, Ok}
use Rattle.std.specs.Option.{option_or}
use Rattle.std.specs.List.{find}
use Rattle.plcr_base.specs.Chains.{◌>>=◌, passed}
use Rattle.plcr_memory.specs.Regions.{Contents, bytes_at}
use Rattle.plcr_loader.specs.declared.constants.TheConstants.{SEG_TEXT, SEG_LINKEDIT}
use Rattle.plcr_loader.specs.declared.mach_header_64.TheConstants.{CPUTYPE, CPUSUBTYPE, NCMDS, SIZEOFCMDS}
use Rattle.plcr_loader.specs.declared.segment_command_64.TheConstants.{VMADDR, VMSIZE, FILEOFF, NSECTS}
use Rattle.plcr_loader.specs.declared.section_64.TheConstants.{SECTNAME, ADDR, SIZE}
use Rattle.plcr_loader.specs.declared.symtab_command.TheConstants.{SYMOFF, NSYMS, STROFF, STRSIZE}
use Rattle.plcr_loader.specs.declared.uuid_command.TheConstants.{UUID}
use Rattle.plcr_loader.specs.declared.trouble.Trouble.{Trouble}
use Rattle.plcr_loader.specs.Commands.{Command, is_symtab, is_uuid}
use Rattle.plcr_loader.specs.Fields.{number, bytes_of, is_named}
use Rattle.plcr_macho.specs.declared.sections.TheConstants.{UNWIND_INFO, EH_FRAME}
use Rattle.plcr_macho.specs.declared.image.Part.{Part}
use Rattle.plcr_macho.specs.declared.image.Symtab.{Symtab}
use Rattle.plcr_macho.specs.declared.image.Image.{Image}
use Rattle.plcr_macho.specs.declared.image.ImageFault.{ImageFault}
use Rattle.plcr_macho.specs.declared.image.ImageFault.TheVariants.{NoText}
use Rattle.plcr_macho.specs.declared.header.Header.{Header}
use Rattle.plcr_macho.specs.declared.kept.Segment.{Segment}
use Rattle.plcr_macho.specs.declared.kept.Parts.{Parts}
use Rattle.plcr_macho.specs.declared.kept.Text.{Text}
use Rattle.plcr_macho.specs.declared.kept.Tables.{Tables}
use Rattle.plcr_macho.specs.declared.kept.Kept.{Kept}
use Rattle.plcr_macho.specs.declared.standing.Standing.{Standing}
use Rattle.plcr_macho.specs.declared.gain.Gain.{Gain}
use Rattle.plcr_macho.specs.Sources.{plus, minus}
use Rattle.plcr_macho.specs.Loading.{is_segment_named, sections_of, image_trouble}

-- the bytes from an address on, which are mapped
abbrev pub bytes_there : Contents → ℕ → ℕ → List ℕ
bytes_there memory a n = unwrap_or (bytes_at memory a n) []

-- the load command that stands there
abbrev pub command_of : Standing → Command
command_of s = record {
  cmd = s.cmd;
  cmdsize = s.cmdsize;
  place = s.place;
  bytes = bytes_there s.memory.now s.address s.cmdsize;
}

-- all of its bytes are mapped
abbrev pub Stands : Standing → Type 0
Stands s = IsSome (bytes_at s.memory.now s.address s.cmdsize)

-- what a header says
unfoldable pub header_of : List ℕ → Header
header_of head = record {
  cpu = number CPUTYPE head;
  subtype = number CPUSUBTYPE head;
  commands = number NCMDS head;
  size = number SIZEOFCMDS head;
}

-- what a segment says
unfoldable pub segment_in : List ℕ → Segment
segment_in command = record {
  vmaddr = number VMADDR command;
  vmsize = number VMSIZE command;
  fileoff = number FILEOFF command;
  sections = number NSECTS command;
}

-- where a section says that it lies
unfoldable pub part_in : List ℕ → Part
part_in section = record { at = number ADDR section; size = number SIZE section }

-- where the first section of each name says that it lies
unfoldable pub parts_in : List (List ℕ) → Parts
parts_in sections = record {
  unwind = option_map part_in (find (is_named SECTNAME UNWIND_INFO) sections);
  eh_frame = option_map part_in (find (is_named SECTNAME EH_FRAME) sections);
}

-- the first of each, where there is one
unfoldable pub first_parts : Parts → Parts → Parts
first_parts p q = record {
  unwind = option_or p.unwind q.unwind;
  eh_frame = option_or p.eh_frame q.eh_frame;
}

-- what is kept of a segment `__TEXT`
abbrev pub text_of : Command → Text
text_of c = record { segment = segment_in c.bytes; parts = parts_in (sections_of c) }

-- what the tables of the symbols say
unfoldable pub tables_in : List ℕ → Tables
tables_in command = record {
  symoff = number SYMOFF command;
  nsyms = number NSYMS command;
  stroff = number STROFF command;
  strsize = number STRSIZE command;
}

-- what is kept of a list of commands: the first of each kind
unfoldable pub kept_of : List Command → Kept
kept_of cs = record {
  text = option_map text_of (find (is_segment_named SEG_TEXT) cs);
  linkedit = option_map (λ c. segment_in c.bytes) (find (is_segment_named SEG_LINKEDIT) cs);
  symtab = option_map (λ c. tables_in c.bytes) (find is_symtab cs);
  uuid = option_map (λ c. bytes_of UUID c.bytes) (find is_uuid cs);
}

-- what is kept where nothing was read
abbrev pub nothing : Kept
nothing = record { text = None; linkedit = None; symtab = None; uuid = None }

-- the first of each kind, where there is one
unfoldable pub first_kept : Kept → Kept → Kept
first_kept k l = record {
  text = option_or k.text l.text;
  linkedit = option_or k.linkedit l.linkedit;
  symtab = option_or k.symtab l.symtab;
  uuid = option_or k.uuid l.uuid;
}

-- what is kept of one command, which is to pass its test
abbrev pub kept_in : ℕ → Command → Result Kept Trouble
kept_in index c = passed (kept_of (c ∷ [])) (image_trouble index c)

-- what one command gives behind what was kept
abbrev pub gain_with : Kept → Command → Gain
gain_with before c = record { kept = first_kept before (kept_of (c ∷ [])); size = c.cmdsize }

-- a part in memory
abbrev pub moved : ℕ → Part → Part
moved slide p = record { at = plus p.at slide; size = p.size }

-- the address of what the file has at an offset
abbrev pub linked_by : ℕ → Segment → ℕ → ℕ
linked_by slide linkedit offset = plus (plus (minus offset linkedit.fileoff) linkedit.vmaddr) slide

-- where the tables of the symbols lie
unfoldable pub symtab_from : ℕ → Option Segment → Option Tables → Option Symtab
symtab_from slide None tables = None
symtab_from slide (Some linkedit) tables = option_map (λ t. record {
  rows_at = linked_by slide linkedit t.symoff;
  rows = t.nsyms;
  strings_at = linked_by slide linkedit t.stroff;
  strings = t.strsize;
}) tables

-- the image of what was kept, with its segment `__TEXT`
unfoldable pub image_by : ℕ → Header → Kept → Text → Image
image_by address header kept text =
    let slide = minus address text.segment.vmaddr in
    record {
      header = address;
      cpu = header.cpu;
      subtype = header.subtype;
      slide = slide;
      text_size = text.segment.vmsize;
      uuid = kept.uuid;
      symtab = symtab_from slide kept.linkedit kept.symtab;
      unwind = option_map (moved slide) text.parts.unwind;
      eh_frame = option_map (moved slide) text.parts.eh_frame;
    }

-- the image of what was kept
abbrev pub image_from : ℕ → Header → Kept → Result Image ImageFault
image_from address header kept = ok_or kept.text NoText >>= λ text.
    Ok (image_by address header kept text)
