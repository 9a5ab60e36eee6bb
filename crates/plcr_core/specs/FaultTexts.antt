-- How a fault of a core is written: its name in lower case, then its numbers in decimal, separated
-- by spaces.
use Rattle.std.specs.Prelude.{ℕ, List, ◌++◌, codes, decimal}
use Rattle.plcr_core.specs.declared.fault.CoreFault.{CoreFault}
use Rattle.plcr_core.specs.declared.fault.CoreFault.TheVariants.{Truncated, NotCore, OtherCpu, BadCommand, NoThread, TooManyThreads, Overlap, Wraps, Memory}

abbrev pub fault_text : CoreFault → List ℕ
fault_text (Truncated at) = codes "truncated " ++ decimal at
fault_text (NotCore magic filetype) =
    codes "notcore " ++ decimal magic ++ codes " " ++ decimal filetype
fault_text (OtherCpu cpu) = codes "othercpu " ++ decimal cpu
fault_text (BadCommand index) = codes "badcommand " ++ decimal index
fault_text NoThread = codes "nothread"
fault_text (TooManyThreads count) = codes "toomanythreads " ++ decimal count
fault_text (Overlap first second) = codes "overlap " ++ decimal first ++ codes " " ++ decimal second
fault_text (Wraps index) = codes "wraps " ++ decimal index
fault_text Memory = codes "memory"
