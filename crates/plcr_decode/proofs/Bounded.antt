-- Messages whose numbers have the width of their types, and whose texts and messages are shorter than 2^64 bytes.
use Rattle.std.specs.Prelude.{ℕ, ◌<◌, ◌^◌, List, length, IfSome}
use Rattle.std.specs.Int.{w64}
use Rattle.std.specs.Int.RustNames.{FitsSigned}
use Rattle.std.specs.List.{AllByRecursion}
use Rattle.plcr_wire.specs.Message.{spelling}
use Rattle.plcr_report.specs.Messages.{symbol_message, frame_message, register_message, thread_message, system_message, application_message, processor_message, image_message, signal_message, process_message, info_message}
use Rattle.plcr_report.specs.declared.messages.Report.{Report}
use Rattle.plcr_report.specs.declared.messages.System.{System}
use Rattle.plcr_report.specs.declared.messages.Application.{Application}
use Rattle.plcr_report.specs.declared.messages.Thread.{Thread}
use Rattle.plcr_report.specs.declared.messages.Frame.{Frame}
use Rattle.plcr_report.specs.declared.messages.Symbol.{Symbol}
use Rattle.plcr_report.specs.declared.messages.Register.{Register}
use Rattle.plcr_report.specs.declared.messages.Image.{Image}
use Rattle.plcr_report.specs.declared.messages.Processor.{Processor}
use Rattle.plcr_report.specs.declared.messages.Signal.{Signal}
use Rattle.plcr_report.specs.declared.messages.Process.{Process}
use Rattle.plcr_report.specs.declared.messages.Info.{Info}

-- a text that has a length
abbrev pub IsText : List ℕ → Type 0
IsText bytes = length bytes < 2 ^ 64

pub record FitsSymbol (s : Symbol) : Type 0 where
  pub name : IsText s.name
  pub start_address : s.start_address < 2 ^ 64
  pub end_address : IfSome s.end_address (λ n. n < 2 ^ 64)
  pub short : length (spelling (symbol_message s)) < 2 ^ 64

pub record FitsFrame (f : Frame) : Type 0 where
  pub pc : f.pc < 2 ^ 64
  pub symbol : IfSome f.symbol FitsSymbol
  pub short : length (spelling (frame_message f)) < 2 ^ 64

pub record FitsRegister (r : Register) : Type 0 where
  pub name : IsText r.name
  pub value : r.value < 2 ^ 64
  pub short : length (spelling (register_message r)) < 2 ^ 64

pub record FitsThread (t : Thread) : Type 0 where
  pub thread_number : t.thread_number < 2 ^ 32
  pub frames : AllByRecursion FitsFrame t.frames
  pub registers : AllByRecursion FitsRegister t.registers
  pub short : length (spelling (thread_message t)) < 2 ^ 64

pub record FitsSystem (s : System) : Type 0 where
  pub operating_system : s.operating_system < 2 ^ 32
  pub os_version : IsText s.os_version
  pub architecture : s.architecture < 2 ^ 32
  pub timestamp : FitsSigned w64 s.timestamp
  pub os_build : IfSome s.os_build IsText
  pub short : length (spelling (system_message s)) < 2 ^ 64

pub record FitsApplication (a : Application) : Type 0 where
  pub identifier : IsText a.identifier
  pub version : IsText a.version
  pub short : length (spelling (application_message a)) < 2 ^ 64

pub record FitsProcessor (p : Processor) : Type 0 where
  pub encoding : p.encoding < 2 ^ 32
  pub cpu : p.cpu < 2 ^ 64
  pub subtype : p.subtype < 2 ^ 64
  pub short : length (spelling (processor_message p)) < 2 ^ 64

pub record FitsImage (i : Image) : Type 0 where
  pub base_address : i.base_address < 2 ^ 64
  pub size : i.size < 2 ^ 64
  pub name : IsText i.name
  pub uuid : IfSome i.uuid IsText
  pub code_type : IfSome i.code_type FitsProcessor
  pub short : length (spelling (image_message i)) < 2 ^ 64

pub record FitsSignal (s : Signal) : Type 0 where
  pub name : IsText s.name
  pub code : IsText s.code
  pub address : s.address < 2 ^ 64
  pub short : length (spelling (signal_message s)) < 2 ^ 64

pub record FitsProcess (p : Process) : Type 0 where
  pub name : IfSome p.name IsText
  pub id : p.id < 2 ^ 32
  pub path : IfSome p.path IsText
  pub parent_name : IfSome p.parent_name IsText
  pub parent_id : p.parent_id < 2 ^ 32
  pub short : length (spelling (process_message p)) < 2 ^ 64

pub record FitsInfo (i : Info) : Type 0 where
  pub uuid : IfSome i.uuid IsText
  pub short : length (spelling (info_message i)) < 2 ^ 64

pub record FitsReport (r : Report) : Type 0 where
  pub system_info : FitsSystem r.system_info
  pub application_info : FitsApplication r.application_info
  pub threads : AllByRecursion FitsThread r.threads
  pub binary_images : AllByRecursion FitsImage r.binary_images
  pub signal : FitsSignal r.signal
  pub process_info : IfSome r.process_info FitsProcess
  pub report_info : IfSome r.report_info FitsInfo
