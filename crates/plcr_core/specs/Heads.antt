-- The header of a core file, a mach_header_64 (loader.h).
use Rattle.std.specs.Prelude.{ℕ, ◌+◌, ◌==◌, nat_lt, Bool, ◌&&◌, if◌then◌else◌, List, length, Option, Some, None, ok_or, Result, Ok, Err}
use Rattle.plcr_base.specs.Chains.{◌>>=◌}
use Rattle.plcr_loader.specs.declared.constants.TheConstants.{CPU_TYPE_ARM64, CPU_TYPE_X86_64, MH_CORE, MH_MAGIC_64}
use Rattle.plcr_loader.specs.declared.mach_header_64.TheConstants.{LENGTH, MAGIC, CPUTYPE, FILETYPE, NCMDS, SIZEOFCMDS}
use Rattle.plcr_loader.specs.Fields.{number}
use Rattle.plcr_regs.specs.declared.arch.Arch.{Arch}
use Rattle.plcr_regs.specs.declared.arch.Arch.TheVariants.{X86_64, Arm64}
use Rattle.plcr_core.specs.declared.header.Header.{Header}
use Rattle.plcr_core.specs.declared.fault.CoreFault.{CoreFault}
use Rattle.plcr_core.specs.declared.fault.CoreFault.TheVariants.{Truncated, NotCore, OtherCpu}

-- the architecture of a cputype that is read
abbrev pub arch_of : ℕ → Option Arch
arch_of cpu = if cpu == CPU_TYPE_X86_64 then Some X86_64 else if cpu == CPU_TYPE_ARM64
    then Some Arm64 else None

-- the header of a 64-bit little-endian core
abbrev pub is_core : List ℕ → Bool
is_core file = (number MAGIC file == MH_MAGIC_64) && (number FILETYPE file == MH_CORE)

-- the header, or the first fault in it
unfoldable pub header_in : List ℕ → Result Header CoreFault
header_in file =
    if nat_lt (length file) LENGTH then Err (Truncated (length file)) else
    if is_core file then
    (ok_or (arch_of (number CPUTYPE file)) (OtherCpu (number CPUTYPE file)) >>= λ arch.
    Ok (record {
      arch = arch;
      commands = number NCMDS file;
      end = LENGTH + number SIZEOFCMDS file;
    }))
    else Err (NotCore (number MAGIC file) (number FILETYPE file))
