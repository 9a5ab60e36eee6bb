-- What the constants of the code are: the head of a file, and the numbers of the messages' fields.
use Rattle.std.specs.Prelude.{◌≡◌, ℕ, List, [], ◌∷◌, map}
use Rattle.plcr_report.specs.declared.kinds.Kind.{Kind}
use Rattle.plcr_report.specs.declared.kinds.Kind.TheVariants.{Root, System, Application, Thread, Frame, Symbol, Register, Image, Processor, Signal, Process, Info}
use Rattle.plcr_report.specs.declared.head.TheConstants as head
use Rattle.plcr_report.specs.declared.messages.TheConstants.Report as report
use Rattle.plcr_report.specs.declared.messages.TheConstants.System as system
use Rattle.plcr_report.specs.declared.messages.TheConstants.Application as application
use Rattle.plcr_report.specs.declared.messages.TheConstants.Thread as thread
use Rattle.plcr_report.specs.declared.messages.TheConstants.Frame as frame
use Rattle.plcr_report.specs.declared.messages.TheConstants.Symbol as symbol
use Rattle.plcr_report.specs.declared.messages.TheConstants.Register as register
use Rattle.plcr_report.specs.declared.messages.TheConstants.Image as image
use Rattle.plcr_report.specs.declared.messages.TheConstants.Processor as processor
use Rattle.plcr_report.specs.declared.messages.TheConstants.Signal as signal
use Rattle.plcr_report.specs.declared.messages.TheConstants.Process as process
use Rattle.plcr_report.specs.declared.messages.TheConstants.Info as info
use Rattle.plcr_report.specs.Schema.{rows}
use Rattle.plcr_report.specs.Spelling as spelling

-- the magic text and the version
pub record OfHead : Type 0 where
  pub magic : head.MAGIC ≡ spelling.magic
  pub version : head.VERSION ≡ spelling.version

-- the numbers of a message's fields, by their names
abbrev pub numbers_of : Kind → List ℕ
numbers_of Root =
    report.SYSTEM_INFO ∷ report.APPLICATION_INFO ∷ report.THREADS ∷ report.BINARY_IMAGES
    ∷ report.SIGNAL ∷ report.PROCESS_INFO ∷ report.REPORT_INFO ∷ []
numbers_of System =
    system.OPERATING_SYSTEM ∷ system.OS_VERSION ∷ system.ARCHITECTURE ∷ system.TIMESTAMP
    ∷ system.OS_BUILD ∷ []
numbers_of Application = application.IDENTIFIER ∷ application.VERSION ∷ []
numbers_of Thread = thread.THREAD_NUMBER ∷ thread.FRAMES ∷ thread.CRASHED ∷ thread.REGISTERS ∷ []
numbers_of Frame = frame.PC ∷ frame.SYMBOL ∷ []
numbers_of Symbol = symbol.NAME ∷ symbol.START_ADDRESS ∷ symbol.END_ADDRESS ∷ []
numbers_of Register = register.NAME ∷ register.VALUE ∷ []
numbers_of Image = image.BASE_ADDRESS ∷ image.SIZE ∷ image.NAME ∷ image.UUID ∷ image.CODE_TYPE ∷ []
numbers_of Processor = processor.ENCODING ∷ processor.CPU ∷ processor.SUBTYPE ∷ []
numbers_of Signal = signal.NAME ∷ signal.CODE ∷ signal.ADDRESS ∷ []
numbers_of Process =
    process.NAME ∷ process.ID ∷ process.PATH ∷ process.PARENT_NAME ∷ process.PARENT_ID
    ∷ process.NATIVE ∷ []
numbers_of Info = info.USER_REQUESTED ∷ info.UUID ∷ []

-- they are those of the message's rows in the table
abbrev pub OfMessages : Type 0
OfMessages = (kind : Kind) → numbers_of kind ≡ map (λ row. row.number) (rows kind)
