-- The reports of the process that a core holds, in the contexts of a script.
use Rattle.std.proofs.Common.{◌≡◌, List, ap, arith}
use Rattle.plcr_regs.specs.declared.arch.Arch.{Arch}
use Rattle.plcr_regs.specs.declared.registers.Registers.{Registers}
use Rattle.plcr_core.specs.declared.read.Core.{Core}
use Rattle.plcr_core.specs.Cores.{AreThreads}
use Rattle.plcr_macho.specs.Images.{Listed}
use Rattle.plcr_report.specs.Spelling.{spelling_of}
use Rattle.plcr_encode.specs.declared.context.Context.{Context}
use Rattle.plcr_encode.specs.Conditions.{AreWhole}
use Rattle.plcr_encode.specs.Values.{process_report}
use Rattle.plcr_script.specs.Contexts.{context_of, SaysSame}
use Rattle.plcr_script.specs.Scripts.{ScriptValue}
use Rattle.plcr_script.proofs.SameContexts.{same_report}
use Rattle.plcr_command.specs.Process.{report_bytes}

-- the threads of a core can be written
pub threads_writable : (arch : Arch) (threads : List Registers) → AreThreads arch threads → AreWhole arch threads
threads_writable arch threads are = record {
  each = are.each;
  few = let most = are.few in omega arith;
}

-- a report by any context that says what the script does
pub report_is : (core : Core) (script : ScriptValue) (context : Context) → SaysSame context (context_of script core.arch) → (images : List Listed) → spelling_of (process_report context core.threads core.memory images) ≡ report_bytes core script images
unfolding report_bytes
report_is core script context same images =
    ap spelling_of (same_report context (context_of script core.arch) core.threads core.memory images same)
