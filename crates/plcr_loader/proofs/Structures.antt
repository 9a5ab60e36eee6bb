-- The constants of the code are the numbers that the headers state.
use Rattle.std.proofs.Common.{refl}
use Rattle.plcr_loader.specs.Structures.{OfLoader, OfMachine, OfNlist, OfLoadCommand, OfMachHeader64, OfSegmentCommand64, OfSection64, OfSymtabCommand, OfUuidCommand, OfThreadGroup, OfNlist64}

pub of_loader : OfLoader
of_loader = record {
  mh_magic_64 = refl;
  mh_core = refl;
  mh_dylib = refl;
  lc_symtab = refl;
  lc_thread = refl;
  lc_unixthread = refl;
  lc_segment_64 = refl;
  lc_uuid = refl;
  seg_text = refl;
  seg_linkedit = refl;
}

pub of_machine : OfMachine
of_machine = record {
  cpu_type_x86_64 = refl;
  cpu_type_arm64 = refl;
  cpu_subtype_x86_64_all = refl;
}

pub of_nlist : OfNlist
of_nlist = record {
  n_stab = refl;
  n_type = refl;
  n_sect = refl;
}

pub of_load_command : OfLoadCommand
of_load_command = record {
  length = refl;
  cmd = (refl, refl);
  cmdsize = (refl, refl);
}

pub of_mach_header_64 : OfMachHeader64
of_mach_header_64 = record {
  length = refl;
  magic = (refl, refl);
  cputype = (refl, refl);
  cpusubtype = (refl, refl);
  filetype = (refl, refl);
  ncmds = (refl, refl);
  sizeofcmds = (refl, refl);
  flags = (refl, refl);
  reserved = (refl, refl);
}

pub of_segment_command_64 : OfSegmentCommand64
of_segment_command_64 = record {
  length = refl;
  cmd = (refl, refl);
  cmdsize = (refl, refl);
  segname = (refl, refl);
  vmaddr = (refl, refl);
  vmsize = (refl, refl);
  fileoff = (refl, refl);
  filesize = (refl, refl);
  maxprot = (refl, refl);
  initprot = (refl, refl);
  nsects = (refl, refl);
  flags = (refl, refl);
}

pub of_section_64 : OfSection64
of_section_64 = record {
  length = refl;
  sectname = (refl, refl);
  segname = (refl, refl);
  addr = (refl, refl);
  size = (refl, refl);
  offset = (refl, refl);
  align = (refl, refl);
  reloff = (refl, refl);
  nreloc = (refl, refl);
  flags = (refl, refl);
  reserved1 = (refl, refl);
  reserved2 = (refl, refl);
  reserved3 = (refl, refl);
}

pub of_symtab_command : OfSymtabCommand
of_symtab_command = record {
  length = refl;
  cmd = (refl, refl);
  cmdsize = (refl, refl);
  symoff = (refl, refl);
  nsyms = (refl, refl);
  stroff = (refl, refl);
  strsize = (refl, refl);
}

pub of_uuid_command : OfUuidCommand
of_uuid_command = record {
  length = refl;
  cmd = (refl, refl);
  cmdsize = (refl, refl);
  uuid = (refl, refl);
}

pub of_thread_group : OfThreadGroup
of_thread_group = record {
  length = refl;
  word = refl;
  flavor = (refl, refl);
  count = (refl, refl);
}

pub of_nlist_64 : OfNlist64
of_nlist_64 = record {
  length = refl;
  n_strx = (refl, refl);
  n_type = (refl, refl);
  n_sect = (refl, refl);
  n_desc = (refl, refl);
  n_value = (refl, refl);
}
