-- Contexts that say the same make the same report.
use Rattle.std.proofs.Common.{◌≡◌, List, refl}
use Rattle.plcr_memory.specs.Regions.{Contents}
use Rattle.plcr_regs.specs.declared.registers.Registers.{Registers}
use Rattle.plcr_macho.specs.Images.{Listed}
use Rattle.plcr_encode.specs.declared.context.Context.{Context}
use Rattle.plcr_encode.specs.Values.{report_of, process_report}
use Rattle.plcr_encode.specs.Conditions.{IsWritable}
use Rattle.plcr_script.specs.Contexts.{SaysSame}

-- they make the same report
pub same_report : (a b : Context) (states : List Registers) (memory : Contents) (listed : List Listed) → SaysSame a b → process_report a states memory listed ≡ process_report b states memory listed
unfolding report_of
same_report a b states memory listed h = rw (h.arch, h.os, h.os_version, h.timestamp, h.identifier, h.version, h.signal, h.code, h.address, h.process, h.pid, h.ppid, h.crashed, h.user, h.bits) refl

-- the one can be written where the other can
pub same_writable : (a b : Context) → SaysSame a b → IsWritable b → IsWritable a
same_writable a b h w = record {
  os = rw h.os w.os;
  timestamp = rw h.timestamp w.timestamp;
  os_version = rw h.os_version w.os_version;
  identifier = rw h.identifier w.identifier;
  version = rw h.version w.version;
  signal = rw h.signal w.signal;
  code = rw h.code w.code;
  process = rw h.process w.process;
  bits = rw h.bits w.bits;
}
