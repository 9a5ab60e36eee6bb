-- The reports that have a file.
use Rattle.std.specs.Prelude.{◌<◌, ◌^◌, length, IfSome}
use Rattle.std.specs.Int.{w64}
use Rattle.std.specs.Int.RustNames.{FitsSigned}
use Rattle.std.specs.List.{AllByRecursion}
use Rattle.plcr_report.specs.Spelling.{spelling_of}
use Rattle.plcr_report.specs.declared.messages.Report.{Report}
use Rattle.plcr_report.specs.declared.messages.System.{System}
use Rattle.plcr_report.specs.declared.messages.Thread.{Thread}
use Rattle.plcr_report.specs.declared.messages.Frame.{Frame}
use Rattle.plcr_report.specs.declared.messages.Symbol.{Symbol}
use Rattle.plcr_report.specs.declared.messages.Register.{Register}
use Rattle.plcr_report.specs.declared.messages.Image.{Image}
use Rattle.plcr_report.specs.declared.messages.Processor.{Processor}
use Rattle.plcr_report.specs.declared.messages.Signal.{Signal}
use Rattle.plcr_report.specs.declared.messages.Process.{Process}

-- Each number of a message has the width of its type.
pub record TypedSymbol (s : Symbol) : Type 0 where
  pub start_address : s.start_address < 2 ^ 64
  pub end_address : IfSome s.end_address (λ n. n < 2 ^ 64)

pub record TypedFrame (f : Frame) : Type 0 where
  pub pc : f.pc < 2 ^ 64
  pub symbol : IfSome f.symbol TypedSymbol

pub record TypedRegister (r : Register) : Type 0 where
  pub value : r.value < 2 ^ 64

pub record TypedThread (t : Thread) : Type 0 where
  pub thread_number : t.thread_number < 2 ^ 32
  pub frames : AllByRecursion TypedFrame t.frames
  pub registers : AllByRecursion TypedRegister t.registers

pub record TypedSystem (s : System) : Type 0 where
  pub operating_system : s.operating_system < 2 ^ 32
  pub architecture : s.architecture < 2 ^ 32
  pub timestamp : FitsSigned w64 s.timestamp

pub record TypedProcessor (p : Processor) : Type 0 where
  pub encoding : p.encoding < 2 ^ 32
  pub cpu : p.cpu < 2 ^ 64
  pub subtype : p.subtype < 2 ^ 64

pub record TypedImage (i : Image) : Type 0 where
  pub base_address : i.base_address < 2 ^ 64
  pub size : i.size < 2 ^ 64
  pub code_type : IfSome i.code_type TypedProcessor

pub record TypedSignal (s : Signal) : Type 0 where
  pub address : s.address < 2 ^ 64

pub record TypedProcess (p : Process) : Type 0 where
  pub id : p.id < 2 ^ 32
  pub parent_id : p.parent_id < 2 ^ 32

pub record TypedReport (r : Report) : Type 0 where
  pub system_info : TypedSystem r.system_info
  pub threads : AllByRecursion TypedThread r.threads
  pub binary_images : AllByRecursion TypedImage r.binary_images
  pub signal : TypedSignal r.signal
  pub process_info : IfSome r.process_info TypedProcess

-- a report that has a file of fewer than 2^64 bytes
pub record HasFile (r : Report) : Type 0 where
  pub typed : TypedReport r
  pub short : length (spelling_of r) < 2 ^ 64
