-- What load commands are read from.
use Rattle.std.specs.Prelude.{ℕ, ◌+◌, nat_le, if◌then◌else◌, List, length, take, drop, Option, Some, None, option_map}
use Rattle.plcr_loader.specs.declared.load_command.LoadCommand.{LoadCommand}
use Rattle.plcr_loader.specs.declared.load_command.TheConstants.{LENGTH, CMD, CMDSIZE}
use Rattle.plcr_loader.specs.Fields.{number}
use Rattle.plcr_loader.specs.Commands.{Bytes}

-- the bytes of a file
unfoldable pub file_bytes : List ℕ → Bytes
file_bytes file at n = if nat_le (at + n) (length file) then Some (take n (drop at file)) else None

-- what the front of a command says
abbrev pub load_command_in : List ℕ → LoadCommand
load_command_in front = record { cmd = number CMD front; cmdsize = number CMDSIZE front }

-- what the command at a place says of itself, where its front is there
abbrev pub load_command_at : Bytes → ℕ → Option LoadCommand
load_command_at source at = option_map load_command_in (source at LENGTH)
