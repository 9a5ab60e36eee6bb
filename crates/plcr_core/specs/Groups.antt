-- The states of a thread command, an LC_THREAD or LC_UNIXTHREAD (loader.h): groups of a flavor, a
-- count and so many words of 4 bytes.
use Rattle.std.specs.Prelude.{◌≡◌, ◌<◌, ◌≤◌, ℕ, zero, suc, ◌+◌, ◌*◌, nat_lt, if◌then◌else◌, List, [], ◌∷◌, length, take, drop, Option, Some, None, is_none, option_map}
use Rattle.std.specs.Option.{option_and_then, option_or}
use Rattle.plcr_loader.specs.declared.load_command.TheConstants as load_command
use Rattle.plcr_loader.specs.declared.thread_group.TheConstants.{LENGTH, FLAVOR, COUNT, WORD}
use Rattle.plcr_loader.specs.declared.trouble.Trouble.{Trouble}
use Rattle.plcr_loader.specs.declared.trouble.Trouble.TheVariants.{Bad}
use Rattle.plcr_loader.specs.Fields.{number}
use Rattle.plcr_regs.specs.declared.arch.Arch.{Arch}
use Rattle.plcr_regs.specs.declared.registers.Registers.{Registers}
use Rattle.plcr_regs.specs.States.{state_in}

-- one group
pub record Group : Type 0 where
  pub flavor : ℕ
  pub state : List ℕ

-- the length of the state in the group at the front
abbrev pub state_length : List ℕ → ℕ
state_length bytes = WORD * number COUNT bytes

-- the group at the front
abbrev pub group_at_front : List ℕ → Group
group_at_front bytes =
    record { flavor = number FLAVOR bytes; state = take (state_length bytes) (drop LENGTH bytes) }

-- the first groups, at most so many; None where one passes the end. A rest too short for a group's
-- fields is passed over.
abbrev pub first_groups : ℕ → List ℕ → Option (List Group)
first_groups zero bytes = Some []
first_groups (suc most) bytes =
    if nat_lt (length bytes) LENGTH then Some [] else
    if nat_lt (length bytes) (LENGTH + state_length bytes) then None else
    option_map (λ groups. group_at_front bytes ∷ groups)
    (first_groups most (drop (LENGTH + state_length bytes) bytes))

-- all groups: there can't be more than there are bytes
unfoldable pub groups_in : List ℕ → Option (List Group)
groups_in bytes = first_groups (length bytes) bytes

-- the groups stand one after the other, and what follows the last is too short for a group's fields
abbrev pub AreGroups : List ℕ → List Group → Type 0
AreGroups bytes [] = length bytes < LENGTH
AreGroups bytes (group ∷ groups) =
    (LENGTH + state_length bytes ≤ length bytes) × (group ≡ group_at_front bytes)
    × AreGroups (drop (LENGTH + state_length bytes) bytes) groups

-- the registers of the first group that is accepted
abbrev pub first_state : Arch → List Group → Option Registers
first_state arch [] = None
first_state arch (group ∷ groups) =
    option_or (state_in arch group.flavor group.state) (first_state arch groups)

-- what is wrong with a thread command: a group passes its end
unfoldable pub thread_trouble : ℕ → List ℕ → Option Trouble
thread_trouble index command = if is_none (groups_in (drop load_command.LENGTH command))
    then Some (Bad index) else None

-- the thread of a thread command, where a group is accepted
unfoldable pub thread_in : Arch → List ℕ → Option Registers
thread_in arch command =
    option_and_then (first_state arch) (groups_in (drop load_command.LENGTH command))
