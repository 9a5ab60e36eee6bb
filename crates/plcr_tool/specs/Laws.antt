-- What is handed in for a report: each number has the width of its type, and names and uuids have
-- lawful lengths.
use Rattle.std.specs.Prelude.{◌≡◌, ◌^◌, ◌<◌, ◌≤◌, List, length, All, IfSome}
use Rattle.std.specs.List.{AllByRecursion}
use Rattle.plcr_base.specs.Limits.{IsImageName}
use Rattle.plcr_regs.specs.declared.registers.Registers.{Registers}
use Rattle.plcr_regs.specs.declared.limits.TheConstants.{MOST_REGISTERS}
use Rattle.plcr_cursor.specs.declared.limits.TheConstants.{MOST_FRAMES}
use Rattle.plcr_report.specs.declared.messages.Frame.{Frame}
use Rattle.plcr_report.specs.declared.messages.Image.{Image}
use Rattle.plcr_report.specs.declared.messages.Register.{Register}
use Rattle.plcr_report.specs.declared.messages.Symbol.{Symbol}
use Rattle.plcr_report.specs.declared.messages.Thread.{Thread}
use Rattle.plcr_symbols.specs.declared.limits.TheConstants.{SYMBOL_NAME_BYTES}
use Rattle.plcr_decode.specs.Fits.{TypedProcessor, TypedSymbol}
use Rattle.plcr_encode.specs.declared.context.Context.{Context}
use Rattle.plcr_macho.specs.Images.{Listed}
use Rattle.plcr_encode.specs.Conditions.{AreWhole, AreNamable, IsWritable}

-- a context that can be written
pub record IsHandedContext (context : Context) : Type 0 where
  pub writable : IsWritable context
  pub address : context.address < 2 ^ 64
  pub pid : context.pid < 2 ^ 32
  pub ppid : context.ppid < 2 ^ 32

-- a state whose known registers have 64 bits
abbrev pub IsHandedState : Registers → Type 0
IsHandedState state = AllByRecursion (λ value. IfSome value (λ n. n < 2 ^ 64)) state.value

-- whole states of the context's architecture, fewer than 2^32
pub record AreHandedStates (context : Context) (states : List Registers) : Type 0 where
  pub whole : AreWhole context.arch states
  pub each : AllByRecursion IsHandedState states

-- a symbol: its name is within its limit
pub record IsHandedSymbol (symbol : Symbol) : Type 0 where
  pub name : length symbol.name ≤ SYMBOL_NAME_BYTES
  pub typed : TypedSymbol symbol

-- a frame, with such a symbol or none
pub record IsHandedFrame (frame : Frame) : Type 0 where
  pub pc : frame.pc < 2 ^ 64
  pub symbol : IfSome frame.symbol IsHandedSymbol

-- a register whose name has at most 8 bytes
pub record IsHandedRegister (register : Register) : Type 0 where
  pub name : length register.name ≤ 8
  pub value : register.value < 2 ^ 64

-- a thread with no more frames and registers than one has
pub record IsHandedThread (thread : Thread) : Type 0 where
  pub thread_number : thread.thread_number < 2 ^ 32
  pub frames : AllByRecursion IsHandedFrame thread.frames
  pub few_frames : length thread.frames ≤ MOST_FRAMES
  pub registers : AllByRecursion IsHandedRegister thread.registers
  pub few_registers : length thread.registers ≤ MOST_REGISTERS

-- threads, fewer than 2^32
pub record AreHandedThreads (threads : List Thread) : Type 0 where
  pub each : AllByRecursion IsHandedThread threads
  pub few : length threads < 2 ^ 32

-- an image: its name is within its limit, and its uuid has 16 bytes
pub record IsHandedImage (image : Image) : Type 0 where
  pub base_address : image.base_address < 2 ^ 64
  pub size : image.size < 2 ^ 64
  pub name : IsImageName image.name
  pub uuid : IfSome image.uuid (λ bytes. length bytes ≡ 16)
  pub code_type : IfSome image.code_type TypedProcessor

-- images, fewer than 2^32
pub record AreHandedImages (images : List Image) : Type 0 where
  pub each : AllByRecursion IsHandedImage images
  pub few : length images < 2 ^ 32

-- loaded images that can be written, each at an address of 64 bits
pub record AreHandedListed (listed : List Listed) : Type 0 where
  pub namable : AreNamable listed
  pub headers : All (λ (l : Listed). l.header < 2 ^ 64) listed
