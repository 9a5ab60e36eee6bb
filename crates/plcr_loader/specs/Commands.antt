-- The list of load commands of a Mach-O file (loader.h): each begins with which command it is and
-- with its own size, and the next one stands where it ends.
use Rattle.std.specs.Prelude.{◌≡◌, ◌≤◌, ◌<◌, ℕ, zero, suc, ◌+◌, ◌==◌, Bool, ◌||◌, nat_lt, if◌then◌else◌, List, [], ◌∷◌, Option, Some, None, ok_or, Result, Ok, Err, length, take, sum_by}
use Rattle.plcr_base.specs.Chains.{◌>>=◌, passed}
use Rattle.plcr_loader.specs.declared.constants.TheConstants.{LC_SEGMENT_64, LC_SYMTAB, LC_THREAD, LC_UNIXTHREAD, LC_UUID}
use Rattle.plcr_loader.specs.declared.load_command.LoadCommand.{LoadCommand}
use Rattle.plcr_loader.specs.declared.load_command.TheConstants.{LENGTH, CMD, CMDSIZE}
use Rattle.plcr_loader.specs.declared.trouble.Trouble.{Trouble}
use Rattle.plcr_loader.specs.declared.trouble.Trouble.TheVariants.{Bad, Absent}
use Rattle.plcr_loader.specs.Fields.{number}

-- where commands stand: so many bytes from a place on, where all of them are there
abbrev pub Bytes : Type 0
Bytes = ℕ → ℕ → Option (List ℕ)

-- one command: what it says of itself, its place, and all its bytes
pub record Command : Type 0 where
  pub cmd : ℕ
  pub cmdsize : ℕ
  pub place : ℕ
  pub bytes : List ℕ

-- which command it is
abbrev pub is_segment : Command → Bool
is_segment c = c.cmd == LC_SEGMENT_64

abbrev pub is_symtab : Command → Bool
is_symtab c = c.cmd == LC_SYMTAB

abbrev pub is_uuid : Command → Bool
is_uuid c = c.cmd == LC_UUID

abbrev pub is_thread : Command → Bool
is_thread c = (c.cmd == LC_THREAD) || (c.cmd == LC_UNIXTHREAD)

-- what a command says of itself
abbrev pub load_command_of : Command → LoadCommand
load_command_of c = record { cmd = c.cmd; cmdsize = c.cmdsize }

-- what a kind of file asks of the command at an index, beside its frame
abbrev pub Test : Type 0
Test = ℕ → Command → Option Trouble

-- the command that says this of itself, which is to lie before the end
abbrev pub whole_at : Bytes → ℕ → ℕ → ℕ → ℕ → ℕ → Result Command Trouble
whole_at source end index at cmd cmdsize =
    if nat_lt cmdsize LENGTH || nat_lt end (at + cmdsize) then Err (Bad index) else
    (ok_or (source at cmdsize) (Absent at) >>= λ bytes.
    Ok (record { cmd = cmd; cmdsize = cmdsize; place = at; bytes = bytes }))

-- the command at a place, or what is wrong with its frame: its front, then the whole, each first by
-- the end and then by what is there
unfoldable pub framed_at : Bytes → ℕ → ℕ → ℕ → Result Command Trouble
framed_at source end index at =
    if nat_lt end (at + LENGTH) then Err (Bad index) else
    (ok_or (source at LENGTH) (Absent at) >>= λ front.
    whole_at source end index at (number CMD front) (number CMDSIZE front))

-- the command at a place that also meets its test
abbrev pub command_at : Bytes → Test → ℕ → ℕ → ℕ → Result Command Trouble
command_at source test end index at = framed_at source end index at >>= λ c. passed c (test index c)

-- so many commands from a place on, counted from an index, or the first fault
abbrev pub commands_at : Bytes → Test → ℕ → ℕ → ℕ → ℕ → Result (List Command) Trouble
commands_at source test end zero index at = Ok []
commands_at source test end (suc left) index at =
    command_at source test end index at >>= λ c.
    commands_at source test end left (index + 1) (at + c.cmdsize) >>= λ cs.
    Ok (c ∷ cs)

-- a command lies at a place: it begins with which it is and with its own size, and stands before
-- the end with all its bytes
pub record IsLaid (source : Bytes) (test : Test) (end index at : ℕ) (c : Command) : Type 0 where
  pub stands : c.place ≡ at
  pub within : at + c.cmdsize ≤ end
  pub least : LENGTH ≤ c.cmdsize
  pub there : source at c.cmdsize ≡ Some c.bytes
  pub cmd : c.cmd ≡ number CMD c.bytes
  pub cmdsize : c.cmdsize ≡ number CMDSIZE c.bytes
  pub passes : test index c ≡ None

-- the commands lie one after the other from a place on
abbrev pub AreLaid : Bytes → Test → ℕ → ℕ → ℕ → List Command → Type 0
AreLaid source test end index at [] = Unit {0}
AreLaid source test end index at (c ∷ cs) = IsLaid source test end index at c
    × AreLaid source test end (index + 1) (at + c.cmdsize) cs

-- where so many bytes are there, fewer from the same place are there too, and are their front
pub record IsPlain (source : Bytes) : Type 0 where
  pub front : (at m n : ℕ) (xs : List ℕ) → m ≤ n → source at n ≡ Some xs →
      source at m ≡ Some (take m xs)

-- the trouble is that of the first command that doesn't lie: those before it do
pub record IsFirstTrouble (source : Bytes) (test : Test) (end count index at : ℕ)
    (trouble : Trouble) : Type 0 where
  pub before : List Command
  pub fewer : length before < count
  pub laid : AreLaid source test end index at before
  pub next : command_at source test end (index + length before)
      (at + sum_by (λ c. c.cmdsize) before) ≡ Err trouble

-- the same value, or what a trouble is as a fault
abbrev pub faulted : {A E : Type 0} → (Trouble → E) → Result A Trouble → Result A E
faulted fault (Ok x) = Ok x
faulted fault (Err trouble) = Err (fault trouble)
