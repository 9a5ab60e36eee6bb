-- All registers of a state that was read are known, and its bytes are as many as they take.
use Rattle.std.proofs.Common.{◌≡◌, ℕ, ◌+◌, ◌*◌, Bool, true, false, cond, List, drop, Option, Some, None, IfSome, ◌&&◌, refl}
use Rattle.plcr_regs.specs.declared.arch.Arch.{Arch}
use Rattle.plcr_regs.specs.declared.arch.Arch.TheVariants.{X86_64, Arm64}
use Rattle.plcr_regs.specs.declared.form.TheConstants.{HEADER}
use Rattle.plcr_regs.specs.declared.registers.Registers.{Registers}
use Rattle.plcr_regs.specs.Names.{register_count}
use Rattle.plcr_regs.specs.States.{IsWhole, begins, has_form, plain_form, registers_in, state_in, wrapping_form}

pub whole_registers : (arch : Arch) (bytes : List ℕ) → IsWhole arch (registers_in arch bytes)
unfolding registers_in
whole_registers X86_64 bytes = record { same = refl; known = refl }
whole_registers Arm64 bytes = record { same = refl; known = refl }

whole_if : (P : Registers → Type 0) (b : Bool) (state : Registers) (other : Option Registers) → P state → IfSome other P → IfSome (cond b (Some state) other) P
whole_if P true state other h k = h
whole_if P false state other h k = k

pub whole_state : (arch : Arch) (flavor : ℕ) (bytes : List ℕ) → IfSome (state_in arch flavor bytes) (IsWhole arch)
unfolding state_in
whole_state arch flavor bytes =
    whole_if (IsWhole arch) (has_form flavor bytes (plain_form arch)) (registers_in arch bytes) _ (whole_registers arch bytes)
    (whole_if (IsWhole arch) (has_form flavor bytes (wrapping_form arch) && begins bytes (plain_form arch)) (registers_in arch (drop HEADER bytes)) None
    (whole_registers arch (drop HEADER bytes)) tt)

-- a plain state has the registers of its architecture
pub plain_long : (arch : Arch) → 4 * (plain_form arch).count ≡ 8 * register_count arch
plain_long X86_64 = refl
plain_long Arm64 = refl

-- a wrapping one has a flavor and a count besides
pub wrapping_long : (arch : Arch) → 4 * (wrapping_form arch).count ≡ HEADER + 8 * register_count arch
wrapping_long X86_64 = refl
wrapping_long Arm64 = refl
