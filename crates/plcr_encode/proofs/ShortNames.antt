-- How long the names of registers are.
use Rattle.std.proofs.Common.{◌≡◌, ℕ, zero, suc, ◌≤◌, List, [], ◌∷◌, length, get_or, Bool, true, false, refl, arith}
use Rattle.std.specs.Prelude.{nat_le, ◌&&◌}
use Rattle.std.proofs.lemmas.Bool.{leb-true}
use Rattle.plcr_regs.specs.declared.arch.Arch.{Arch}
use Rattle.plcr_regs.specs.declared.arch.Arch.TheVariants.{X86_64, Arm64}
use Rattle.plcr_regs.specs.Names.{register_names}

abbrev are_short : List (List ℕ) → Bool
are_short [] = true
are_short (x ∷ xs) = nat_le (length x) 6 && are_short xs

first : (a b : Bool) → (a && b) ≡ true → a ≡ true
first true b h = refl
first false b h = absurd (cc)

second : (a b : Bool) → (a && b) ≡ true → b ≡ true
second true b h = h
second false b h = absurd (cc)

short_at : (xs : List (List ℕ)) (i : ℕ) → are_short xs ≡ true → length (get_or xs i []) ≤ 6
short_at [] i h = omega arith
short_at (x ∷ xs) zero h = leb-true (length x) 6 (first (nat_le (length x) 6) (are_short xs) h)
short_at (x ∷ xs) (suc i) h = short_at xs i (second (nat_le (length x) 6) (are_short xs) h)

pub name_short : (arch : Arch) (i : ℕ) → length (get_or (register_names arch) i []) ≤ 6
name_short X86_64 i = short_at (register_names X86_64) i refl
name_short Arm64 i = short_at (register_names Arm64) i refl
