-- In a whole state each register of the architecture is known.
use Rattle.std.proofs.Common.{◌≡◌, ◌<◌, ◌≤◌, ℕ, false, List, length, take, Option, Some, None, get_or, is_some, IsTrue, IsSome, refl, ap, subst, arith}
use Rattle.std.specs.List.{list_all}
use Rattle.std.proofs.lemmas.List.{get_or-take, length-take}
use Rattle.std.proofs.lemmas.List.Folds.{list_all_at}
use Rattle.plcr_regs.specs.declared.arch.Arch.{Arch}
use Rattle.plcr_regs.specs.declared.arch.Arch.TheVariants.{X86_64, Arm64}
use Rattle.plcr_regs.specs.declared.limits.TheConstants.{MOST_REGISTERS}
use Rattle.plcr_regs.specs.declared.registers.Registers.{Registers}
use Rattle.plcr_regs.specs.Frames.{register_at}
use Rattle.plcr_regs.specs.Names.{register_count}
use Rattle.plcr_regs.specs.Places.{pc_place}
use Rattle.plcr_regs.specs.States.{IsWhole}

known_by : (values : List (Option ℕ)) (i : ℕ) (found : Option ℕ) → i < length values → IsTrue (list_all is_some values) → get_or values i None ≡ found → IsSome found
known_by values i None within all is =
    let e : list_all is_some values ≡ false = list_all_at is_some values i None within (ap is_some is) in
    cc
known_by values i (Some x) within all is = refl

-- the register at a place below the count
known_at : (values : List (Option ℕ)) (count i : ℕ) → i < count → count ≤ length values → IsTrue (list_all is_some (take count values)) → IsSome (get_or values i None)
known_at values count i within long all =
    subst (λ (found : Option ℕ). IsSome found) (get_or-take count values i None within)
    (known_by (take count values) i (get_or (take count values) i None) (omega (arith, length-take count values)) all refl)

known_pc : (arch : Arch) (values : List (Option ℕ)) → IsTrue (list_all is_some (take (register_count arch) values)) → MOST_REGISTERS ≤ length values → IsSome (get_or values (pc_place arch) None)
unfolding pc_place
known_pc X86_64 values all long = known_at values (register_count X86_64) 16 (omega arith) (omega arith) all
known_pc Arm64 values all long = known_at values (register_count Arm64) 32 (omega arith) (omega arith) all

-- the program counter of a whole state is known
pub pc_known : (arch : Arch) (state : Registers) → IsWhole arch state → MOST_REGISTERS ≤ length state.value → IsSome (register_at state (pc_place state.arch))
pc_known arch state whole long = rw whole.same (known_pc arch state.value whole.known long)
