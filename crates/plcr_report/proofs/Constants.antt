-- The constants of the code are the numbers of the format.
use Rattle.std.proofs.Common.{refl}
use Rattle.plcr_report.specs.declared.kinds.Kind.TheVariants.{Root, System, Application, Thread, Frame, Symbol, Register, Image, Processor, Signal, Process, Info}
use Rattle.plcr_report.specs.Constants.{OfHead, OfMessages}

pub of_head : OfHead
of_head = record { magic = refl; version = refl }

pub of_messages : OfMessages
of_messages Root = refl
of_messages System = refl
of_messages Application = refl
of_messages Thread = refl
of_messages Frame = refl
of_messages Symbol = refl
of_messages Register = refl
of_messages Image = refl
of_messages Processor = refl
of_messages Signal = refl
of_messages Process = refl
of_messages Info = refl
