-- Thread states as LC_THREAD and LC_UNIXTHREAD hold them (mach/i386/thread_status.h,
-- mach/arm/thread_status.h).
use Rattle.std.specs.Prelude.{◌≡◌, ℕ, ◌*◌, ◌==◌, nat_lt, Bool, ◌&&◌, if◌then◌else◌, List, length, take, drop, map, codes, IsTrue, Option, Some, None, is_some}
use Rattle.std.specs.List.{range_with_len, list_all}
use Rattle.plcr_base.specs.Numbers.{u32_in, u64_in}
use Rattle.plcr_regs.specs.declared.arch.Arch.{Arch}
use Rattle.plcr_regs.specs.declared.arch.Arch.TheVariants.{X86_64, Arm64}
use Rattle.plcr_regs.specs.declared.flavors.TheConstants.{x86_THREAD_STATE, x86_THREAD_STATE_COUNT, x86_THREAD_STATE64, x86_THREAD_STATE64_COUNT, ARM_THREAD_STATE64, ARM_THREAD_STATE64_COUNT, ARM_UNIFIED_THREAD_STATE, ARM_UNIFIED_THREAD_STATE_COUNT}
use Rattle.plcr_regs.specs.declared.form.Form.{Form}
use Rattle.plcr_regs.specs.declared.form.TheConstants.{HEADER}
use Rattle.plcr_regs.specs.declared.limits.TheConstants.{MOST_REGISTERS}
use Rattle.plcr_regs.specs.declared.registers.Registers.{Registers}
use Rattle.plcr_regs.specs.Names.{register_count}
use Rattle.plcr_regs.specs.Places.{place_of}

-- the place of arm64's cpsr
abbrev pub cpsr_place : ℕ
cpsr_place = place_of Arm64 (codes "cpsr")

-- the number of register i: each is 8 bytes but arm64's cpsr, 4 bytes and a pad word
abbrev pub register_in : Arch → List ℕ → ℕ → ℕ
register_in X86_64 bytes i = u64_in bytes (8 * i)
register_in Arm64 bytes i = if i == cpsr_place then u32_in bytes (8 * i) else u64_in bytes (8 * i)

-- the same where the architecture has such a register
abbrev pub value_in : Arch → List ℕ → ℕ → Option ℕ
value_in arch bytes i = if nat_lt i (register_count arch) then Some (register_in arch bytes i)
    else None

-- all registers, the first at the head of the bytes
unfoldable pub registers_in : Arch → List ℕ → Registers
registers_in arch bytes =
    record { arch = arch; value = map (value_in arch bytes) (range_with_len 0 MOST_REGISTERS) }

-- the registers alone: x86_THREAD_STATE64, ARM_THREAD_STATE64
abbrev pub plain_form : Arch → Form
plain_form X86_64 = record { flavor = x86_THREAD_STATE64; count = x86_THREAD_STATE64_COUNT }
plain_form Arm64 = record { flavor = ARM_THREAD_STATE64; count = ARM_THREAD_STATE64_COUNT }

-- a flavor and a count before the registers: x86_THREAD_STATE, ARM_UNIFIED_THREAD_STATE
abbrev pub wrapping_form : Arch → Form
wrapping_form X86_64 = record { flavor = x86_THREAD_STATE; count = x86_THREAD_STATE_COUNT }
wrapping_form Arm64 =
    record { flavor = ARM_UNIFIED_THREAD_STATE; count = ARM_UNIFIED_THREAD_STATE_COUNT }

-- a state of this flavor with these bytes has the form
abbrev pub has_form : ℕ → List ℕ → Form → Bool
has_form flavor bytes form = (flavor == form.flavor) && (length bytes == 4 * form.count)

-- the bytes begin with the form's flavor and count
abbrev pub begins : List ℕ → Form → Bool
begins bytes form = (u32_in bytes 0 == form.flavor) && (u32_in bytes 4 == form.count)

-- the registers of a state: one of the plain form, or one of the wrapping form that begins with the
-- plain form's flavor and count
unfoldable pub state_in : Arch → ℕ → List ℕ → Option Registers
state_in arch flavor bytes =
    if has_form flavor bytes (plain_form arch) then Some (registers_in arch bytes) else
    if has_form flavor bytes (wrapping_form arch) && begins bytes (plain_form arch)
    then Some (registers_in arch (drop HEADER bytes)) else None

-- a state of this architecture in which all of its registers are known
pub record IsWhole (arch : Arch) (state : Registers) : Type 0 where
  pub same : state.arch ≡ arch
  pub known : IsTrue (list_all is_some (take (register_count arch) state.value))
