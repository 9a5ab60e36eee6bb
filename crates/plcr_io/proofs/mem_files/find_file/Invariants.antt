use Rattle.std.proofs.Common.{◌≡◌, drop}
use Rattle.plcr_io.specs.MemFiles.{first_named}
use Rattle.plcr_io.proofs.mem_files.find_file.Given as goal

abbrev pub invariant-loop-file : goal.invariant-loop-file
invariant-loop-file l = first_named l.name (drop l.file-index l.files) ≡ first_named l.name l.files
