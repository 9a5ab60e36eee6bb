-- What can be written as a report.
use Rattle.std.specs.Prelude.{◌^◌, ◌<◌, ◌≤◌, List, length, All}
use Rattle.plcr_base.specs.Limits.{IsImageName}
use Rattle.plcr_regs.specs.declared.arch.Arch.{Arch}
use Rattle.plcr_regs.specs.declared.registers.Registers.{Registers}
use Rattle.plcr_regs.specs.States.{IsWhole}
use Rattle.plcr_macho.specs.Images.{Listed}
use Rattle.plcr_encode.specs.declared.context.Context.{Context}

-- whole states of one architecture, fewer than 2^32
pub record AreWhole (arch : Arch) (states : List Registers) : Type 0 where
  pub each : All (IsWhole arch) states
  pub few : length states < 2 ^ 32

-- a context whose system is known, whose time is no negative number, whose texts have fewer than
-- 2^32 bytes, and of whose addresses of code 32 to 64 bits count
pub record IsWritable (context : Context) : Type 0 where
  pub os : context.os ≤ 2
  pub timestamp : context.timestamp < 2 ^ 63
  pub os_version : length context.os_version.now < 2 ^ 32
  pub identifier : length context.identifier.now < 2 ^ 32
  pub version : length context.version.now < 2 ^ 32
  pub signal : length context.signal.now < 2 ^ 32
  pub code : length context.code.now < 2 ^ 32
  pub process : length context.process.now < 2 ^ 32
  pub bits : (32 ≤ context.bits) × (context.bits ≤ 64)

-- a loaded image whose name is within its limit
abbrev pub IsNamable : Listed → Type 0
IsNamable listed = IsImageName listed.name

-- loaded images with such names, fewer than 2^32
pub record AreNamable (listed : List Listed) : Type 0 where
  pub each : All IsNamable listed
  pub few : length listed < 2 ^ 32
