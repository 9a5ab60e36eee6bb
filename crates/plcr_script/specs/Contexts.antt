-- The context of reports that a script's descriptive values make.
use Rattle.std.specs.Prelude.{◌≡◌, ℕ, List}
use denote.Ref.{Bor}
use Rattle.plcr_regs.specs.declared.arch.Arch.{Arch}
use Rattle.plcr_encode.specs.declared.context.Context.{Context}
use Rattle.plcr_script.specs.Scripts.{ScriptValue}

-- a text that is lent, wherever it lies in memory
abbrev pub lent : List ℕ → Bor (List ℕ)
lent text = record { ref_ptr = (0, 0); now = text }

-- the context of an architecture with the values of a script
abbrev pub context_of : ScriptValue → Arch → Context
context_of script arch =
    let values = script.values in
    record {
      arch = arch;
      os = values.os;
      os_version = lent values.os_version;
      timestamp = values.timestamp;
      identifier = lent values.identifier;
      version = lent values.version;
      signal = lent values.signal;
      code = lent values.code;
      address = values.address;
      process = lent values.process;
      pid = values.pid;
      ppid = values.ppid;
      crashed = values.crashed;
      user = values.user;
      bits = values.bits;
    }

-- two contexts say the same: at most the places of their texts in memory differ
pub record SaysSame (a b : Context) : Type 0 where
  pub arch : a.arch ≡ b.arch
  pub os : a.os ≡ b.os
  pub os_version : a.os_version.now ≡ b.os_version.now
  pub timestamp : a.timestamp ≡ b.timestamp
  pub identifier : a.identifier.now ≡ b.identifier.now
  pub version : a.version.now ≡ b.version.now
  pub signal : a.signal.now ≡ b.signal.now
  pub code : a.code.now ≡ b.code.now
  pub address : a.address ≡ b.address
  pub process : a.process.now ≡ b.process.now
  pub pid : a.pid ≡ b.pid
  pub ppid : a.ppid ≡ b.ppid
  pub crashed : a.crashed ≡ b.crashed
  pub user : a.user ≡ b.user
  pub bits : a.bits ≡ b.bits
