-- The numbers of Apple's headers that the crate reads by, written out as the headers state them:
-- for each structure its size in bytes, and for each of its fields the byte at which it begins and
-- its size.
use Rattle.std.specs.Prelude.{◌≡◌, ℕ, ◌++◌, codes, replicate}
use Rattle.plcr_loader.specs.declared.field.Field.{Field}
use Rattle.plcr_loader.specs.declared.constants.TheConstants as constants
use Rattle.plcr_loader.specs.declared.load_command.TheConstants as load_command
use Rattle.plcr_loader.specs.declared.mach_header_64.TheConstants as mach_header_64
use Rattle.plcr_loader.specs.declared.nlist_64.TheConstants as nlist_64
use Rattle.plcr_loader.specs.declared.section_64.TheConstants as section_64
use Rattle.plcr_loader.specs.declared.segment_command_64.TheConstants as segment_command_64
use Rattle.plcr_loader.specs.declared.symtab_command.TheConstants as symtab_command
use Rattle.plcr_loader.specs.declared.thread_group.TheConstants as thread_group
use Rattle.plcr_loader.specs.declared.uuid_command.TheConstants as uuid_command

-- a field that begins at this byte of its structure and has so many bytes
abbrev pub Stands : Field → ℕ → ℕ → Type 0
Stands field at size = (field.at ≡ at) × (field.size ≡ size)

-- the magic and the filetypes of a header, the load commands and the names of segments
-- (<mach-o/loader.h>), each name with zeros up to 16 bytes
pub record OfLoader : Type 0 where
  pub mh_magic_64 : constants.MH_MAGIC_64 ≡ 0xfeedfacf
  pub mh_core : constants.MH_CORE ≡ 0x4
  pub mh_dylib : constants.MH_DYLIB ≡ 0x6
  pub lc_symtab : constants.LC_SYMTAB ≡ 0x2
  pub lc_thread : constants.LC_THREAD ≡ 0x4
  pub lc_unixthread : constants.LC_UNIXTHREAD ≡ 0x5
  pub lc_segment_64 : constants.LC_SEGMENT_64 ≡ 0x19
  pub lc_uuid : constants.LC_UUID ≡ 0x1b
  pub seg_text : constants.SEG_TEXT ≡ codes "__TEXT" ++ replicate 10 0
  pub seg_linkedit : constants.SEG_LINKEDIT ≡ codes "__LINKEDIT" ++ replicate 6 0

-- the processors (<mach/machine.h>): CPU_ARCH_ABI64 with CPU_TYPE_X86, and with CPU_TYPE_ARM; and
-- the subtype of all x86-64
pub record OfMachine : Type 0 where
  pub cpu_type_x86_64 : constants.CPU_TYPE_X86_64 ≡ 0x01000007
  pub cpu_type_arm64 : constants.CPU_TYPE_ARM64 ≡ 0x0100000c
  pub cpu_subtype_x86_64_all : constants.CPU_SUBTYPE_X86_64_ALL ≡ 3

-- the masks of a symbol's n_type, and the type of one that is defined in a section
-- (<mach-o/nlist.h>)
pub record OfNlist : Type 0 where
  pub n_stab : constants.N_STAB ≡ 0xe0
  pub n_type : constants.N_TYPE ≡ 0x0e
  pub n_sect : constants.N_SECT ≡ 0xe

-- struct load_command (<mach-o/loader.h>)
pub record OfLoadCommand : Type 0 where
  pub length : load_command.LENGTH ≡ 8
  pub cmd : Stands load_command.CMD 0 4
  pub cmdsize : Stands load_command.CMDSIZE 4 4

-- struct mach_header_64 (<mach-o/loader.h>)
pub record OfMachHeader64 : Type 0 where
  pub length : mach_header_64.LENGTH ≡ 32
  pub magic : Stands mach_header_64.MAGIC 0 4
  pub cputype : Stands mach_header_64.CPUTYPE 4 4
  pub cpusubtype : Stands mach_header_64.CPUSUBTYPE 8 4
  pub filetype : Stands mach_header_64.FILETYPE 12 4
  pub ncmds : Stands mach_header_64.NCMDS 16 4
  pub sizeofcmds : Stands mach_header_64.SIZEOFCMDS 20 4
  pub flags : Stands mach_header_64.FLAGS 24 4
  pub reserved : Stands mach_header_64.RESERVED 28 4

-- struct segment_command_64 (<mach-o/loader.h>)
pub record OfSegmentCommand64 : Type 0 where
  pub length : segment_command_64.LENGTH ≡ 72
  pub cmd : Stands segment_command_64.CMD 0 4
  pub cmdsize : Stands segment_command_64.CMDSIZE 4 4
  pub segname : Stands segment_command_64.SEGNAME 8 16
  pub vmaddr : Stands segment_command_64.VMADDR 24 8
  pub vmsize : Stands segment_command_64.VMSIZE 32 8
  pub fileoff : Stands segment_command_64.FILEOFF 40 8
  pub filesize : Stands segment_command_64.FILESIZE 48 8
  pub maxprot : Stands segment_command_64.MAXPROT 56 4
  pub initprot : Stands segment_command_64.INITPROT 60 4
  pub nsects : Stands segment_command_64.NSECTS 64 4
  pub flags : Stands segment_command_64.FLAGS 68 4

-- struct section_64 (<mach-o/loader.h>)
pub record OfSection64 : Type 0 where
  pub length : section_64.LENGTH ≡ 80
  pub sectname : Stands section_64.SECTNAME 0 16
  pub segname : Stands section_64.SEGNAME 16 16
  pub addr : Stands section_64.ADDR 32 8
  pub size : Stands section_64.SIZE 40 8
  pub offset : Stands section_64.OFFSET 48 4
  pub align : Stands section_64.ALIGN 52 4
  pub reloff : Stands section_64.RELOFF 56 4
  pub nreloc : Stands section_64.NRELOC 60 4
  pub flags : Stands section_64.FLAGS 64 4
  pub reserved1 : Stands section_64.RESERVED1 68 4
  pub reserved2 : Stands section_64.RESERVED2 72 4
  pub reserved3 : Stands section_64.RESERVED3 76 4

-- struct symtab_command (<mach-o/loader.h>)
pub record OfSymtabCommand : Type 0 where
  pub length : symtab_command.LENGTH ≡ 24
  pub cmd : Stands symtab_command.CMD 0 4
  pub cmdsize : Stands symtab_command.CMDSIZE 4 4
  pub symoff : Stands symtab_command.SYMOFF 8 4
  pub nsyms : Stands symtab_command.NSYMS 12 4
  pub stroff : Stands symtab_command.STROFF 16 4
  pub strsize : Stands symtab_command.STRSIZE 20 4

-- struct uuid_command (<mach-o/loader.h>)
pub record OfUuidCommand : Type 0 where
  pub length : uuid_command.LENGTH ≡ 24
  pub cmd : Stands uuid_command.CMD 0 4
  pub cmdsize : Stands uuid_command.CMDSIZE 4 4
  pub uuid : Stands uuid_command.UUID 8 16

-- the front of each group of a struct thread_command (<mach-o/loader.h>), whose count is of
-- uint32_t
pub record OfThreadGroup : Type 0 where
  pub length : thread_group.LENGTH ≡ 8
  pub word : thread_group.WORD ≡ 4
  pub flavor : Stands thread_group.FLAVOR 0 4
  pub count : Stands thread_group.COUNT 4 4

-- struct nlist_64 (<mach-o/nlist.h>)
pub record OfNlist64 : Type 0 where
  pub length : nlist_64.LENGTH ≡ 16
  pub n_strx : Stands nlist_64.N_STRX 0 4
  pub n_type : Stands nlist_64.N_TYPE 4 1
  pub n_sect : Stands nlist_64.N_SECT 5 1
  pub n_desc : Stands nlist_64.N_DESC 6 2
  pub n_value : Stands nlist_64.N_VALUE 8 8
