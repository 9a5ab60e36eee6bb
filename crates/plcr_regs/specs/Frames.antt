-- The registers at a frame of a thread, and where the code of it stands.
use Rattle.std.specs.Prelude.{◌≡◌, ℕ, ◌+◌, ◌-◌, ◌%◌, ◌^◌, ◌==◌, Bool, true, false, if◌then◌else◌, List, [], ◌∷◌, map, codes, slice_index_or, Option, None, option_map}
use Rattle.std.specs.List.{list_any, range_with_len}
use Rattle.std.specs.Option.{option_and_then}
use Rattle.plcr_regs.specs.declared.arch.Arch.{Arch}
use Rattle.plcr_regs.specs.declared.arch.Arch.TheVariants.{X86_64, Arm64}
use Rattle.plcr_regs.specs.declared.frame.Frame.{Frame}
use Rattle.plcr_regs.specs.declared.frame.Step.{Step}
use Rattle.plcr_regs.specs.declared.frame.Step.TheVariants as steps
use Rattle.plcr_regs.specs.declared.limits.TheConstants.{MOST_REGISTERS}
use Rattle.plcr_regs.specs.declared.registers.Registers.{Registers}
use Rattle.plcr_regs.specs.Places.{dwarf_place, pc_place, place_of}

-- what is known of the register at a place
abbrev pub register_at : Registers → ℕ → Option ℕ
register_at state place = slice_index_or state.value place None

-- what is known of the register with a DWARF number
unfoldable pub dwarf_register : Registers → ℕ → Option ℕ
dwarf_register state number = option_and_then (register_at state) (dwarf_place state.arch number)

-- the general registers that a function keeps for its caller, and the frame pointer
-- x86-64: System V Application Binary Interface, AMD64 supplement, "Registers and the Stack Frame".
-- arm64: Procedure Call Standard for the Arm 64-bit Architecture, "General-purpose Registers".
abbrev pub kept_names : Arch → List (List ℕ)
kept_names X86_64 = codes "rbx" ∷ codes "rbp" ∷ codes "r12" ∷ codes "r13" ∷ codes "r14"
    ∷ codes "r15" ∷ []
kept_names Arm64 =
    codes "x19" ∷ codes "x20" ∷ codes "x21" ∷ codes "x22" ∷ codes "x23" ∷ codes "x24" ∷ codes "x25"
    ∷
    codes "x26" ∷ codes "x27" ∷ codes "x28" ∷ codes "fp" ∷ []

-- whether the register at a place is one of them
unfoldable pub is_kept : Arch → ℕ → Bool
is_kept arch place = list_any (λ name. place_of arch name == place) (kept_names arch)

-- what is known of the register at a place where it is one of them
abbrev pub kept_value : Registers → ℕ → Option ℕ
kept_value state place = if is_kept state.arch place then register_at state place else None

-- the same registers with all others unknown
unfoldable pub kept_of : Registers → Registers
kept_of state = record {
  arch = state.arch;
  value = map (kept_value state) (range_with_len 0 MOST_REGISTERS);
}

-- an address of code of which so many low bits count: on arm64 the others may hold a signature (Arm
-- Architecture Reference Manual, pointer authentication)
unfoldable pub code_address : Arch → ℕ → ℕ → ℕ
code_address X86_64 bits address = address
code_address Arm64 bits address = address % 2 ^ bits

-- the same in a frame
abbrev pub cut : Frame → ℕ → ℕ
cut frame address = code_address frame.registers.arch frame.bits address

-- the address of the frame's code, where it is known
abbrev pub frame_pc : Frame → Option ℕ
frame_pc frame = option_map (cut frame)
    (register_at frame.registers (pc_place frame.registers.arch))

-- the address that is looked up for a pc: of a return address that of the byte before, which
-- belongs to the call
unfoldable pub looked_up : Bool → ℕ → ℕ
looked_up true pc = pc
looked_up false pc = (pc + (2 ^ 64 - 1)) % 2 ^ 64

-- the address by which the frame's function is looked up
abbrev pub frame_lookup : Frame → Option ℕ
frame_lookup frame = option_map (looked_up frame.exact) (frame_pc frame)

-- a frame of the same thread: of its architecture, and with as many bits
pub record IsOfThread (frame other : Frame) : Type 0 where
  pub arch : other.registers.arch ≡ frame.registers.arch
  pub bits : other.bits ≡ frame.bits

-- what holds of the frame that a reader gives
abbrev pub IfFrame : Step → (Frame → Type 0) → Type 0
IfFrame (steps.Frame frame) P = P frame
IfFrame steps.End P = Unit {0}
IfFrame (steps.Bad number) P = Unit {0}
