-- How a fault of a report is written: its name in lower case, then its message and its numbers in
-- decimal, separated by spaces.
use Rattle.std.specs.Prelude.{ℕ, List, ◌++◌, codes, decimal}
use Rattle.plcr_report.specs.declared.kinds.Kind.{Kind}
use Rattle.plcr_report.specs.declared.kinds.Kind.TheVariants as kinds
use Rattle.plcr_decode.specs.declared.faults.DecodeFault.{DecodeFault}
use Rattle.plcr_decode.specs.declared.faults.DecodeFault.TheVariants.{Magic, Version, Truncated, BadVarint, BadTag, WrongWire, Missing, Memory}

-- a message's name in lower case
abbrev pub kind_text : Kind → List ℕ
kind_text kinds.Root = codes "root"
kind_text kinds.System = codes "system"
kind_text kinds.Application = codes "application"
kind_text kinds.Thread = codes "thread"
kind_text kinds.Frame = codes "frame"
kind_text kinds.Symbol = codes "symbol"
kind_text kinds.Register = codes "register"
kind_text kinds.Image = codes "image"
kind_text kinds.Processor = codes "processor"
kind_text kinds.Signal = codes "signal"
kind_text kinds.Process = codes "process"
kind_text kinds.Info = codes "info"

abbrev pub fault_text : DecodeFault → List ℕ
fault_text Magic = codes "magic"
fault_text (Version found) = codes "version " ++ decimal found
fault_text (Truncated at) = codes "truncated " ++ decimal at
fault_text (BadVarint at) = codes "badvarint " ++ decimal at
fault_text (BadTag at) = codes "badtag " ++ decimal at
fault_text (WrongWire field at) = codes "wrongwire " ++ decimal field ++ codes " " ++ decimal at
fault_text (Missing message field) =
    codes "missing " ++ kind_text message ++ codes " " ++ decimal field
fault_text Memory = codes "memory"
