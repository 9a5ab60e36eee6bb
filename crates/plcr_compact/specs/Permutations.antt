-- The registers that a function without a frame saved, by a number for their order
-- (compact_unwind_encoding.h, UNWIND_X86_64_FRAMELESS_STACK_REG_PERMUTATION).
use Rattle.std.specs.Prelude.{ℕ, ◌/◌, ◌%◌, ◌==◌, if◌then◌else◌, List, [], ◌∷◌, slice_get, remove, Option, Some, None, option_map}
use Rattle.std.specs.Option.{option_and_then}
use Rattle.plcr_compact.specs.declared.encoding.SavedRegister.{SavedRegister}
use Rattle.plcr_compact.specs.declared.encoding.SavedRegister.TheVariants.{Rbx, R12, R13, R14, R15, Rbp}
use Rattle.plcr_compact.specs.declared.encoding.Permutation.{Permutation}

-- the six registers, by their numbers from 1 on
abbrev pub all_registers : List SavedRegister
all_registers = Rbx ∷ R12 ∷ R13 ∷ R14 ∷ R15 ∷ Rbp ∷ []

-- in how many orders those can stand that follow each register, where so many were saved
abbrev pub followers : ℕ → Option (List ℕ)
followers count =
    if count == 0 then Some [] else
    if count == 1 then Some (1 ∷ []) else
    if count == 2 then Some (5 ∷ 1 ∷ []) else
    if count == 3 then Some (20 ∷ 4 ∷ 1 ∷ []) else
    if count == 4 then Some (60 ∷ 12 ∷ 3 ∷ 1 ∷ []) else
    if count == 5 then Some (120 ∷ 24 ∷ 6 ∷ 2 ∷ 1 ∷ []) else
    if count == 6 then Some (120 ∷ 24 ∷ 6 ∷ 2 ∷ 1 ∷ 1 ∷ []) else None

-- the digits of a number, one for each register
abbrev pub digits : List ℕ → ℕ → List ℕ
digits [] number = []
digits (orders ∷ behind) number = number / orders ∷ digits behind (number % orders)

-- the registers that digits name: each the one at its place among those that aren't named yet, in
-- rising order
abbrev pub named : List SavedRegister → List ℕ → Option (List SavedRegister)
named left [] = Some []
named left (digit ∷ digits) =
    option_and_then (λ register.
    option_map (λ registers. register ∷ registers) (named (remove left digit) digits))
    (slice_get left digit)

-- the registers of a permutation, in the order in which they stand on the stack from the lowest
-- address up
unfoldable pub saved_registers : Permutation → Option (List SavedRegister)
saved_registers saved = option_and_then (λ orders. named all_registers (digits orders saved.number))
    (followers saved.count)
