-- A segment of a core file, an LC_SEGMENT_64 (loader.h): addresses of the process, and the bytes of
-- the file behind them.
use Rattle.std.specs.Prelude.{ℕ, ◌+◌, min, ◌==◌, nat_lt, ◌&&◌, if◌then◌else◌, List, length, Option, Some, None}
use Rattle.plcr_memory.specs.declared.region.Region.{Region}
use Rattle.plcr_loader.specs.declared.segment_command_64.TheConstants.{LENGTH, VMADDR, VMSIZE, FILEOFF, FILESIZE}
use Rattle.plcr_loader.specs.declared.trouble.Trouble.{Trouble}
use Rattle.plcr_loader.specs.declared.trouble.Trouble.TheVariants.{Bad, Absent}
use Rattle.plcr_loader.specs.Fields.{number}

-- what is wrong with a segment command in a file of this length: it is too short, or its bytes pass
-- the file's end
unfoldable pub segment_trouble : ℕ → ℕ → List ℕ → Option Trouble
segment_trouble file_length index command =
    if nat_lt (length command) LENGTH then Some (Bad index) else
    if nat_lt 0 (number FILESIZE command)
    && nat_lt file_length (number FILEOFF command + number FILESIZE command)
    then Some (Absent (number FILEOFF command)) else None

-- the region of a segment that isn't empty: the file's bytes at its front, as many as fit, and
-- zeros after them
unfoldable pub region_in : List ℕ → Option Region
region_in command =
    if number VMSIZE command == 0 then None else
    Some (record {
      start = number VMADDR command;
      size = number VMSIZE command;
      from = if number FILESIZE command == 0 then 0 else number FILEOFF command;
      len = min (number FILESIZE command) (number VMSIZE command);
    })
