-- Facts of numbers, truth values and options that many proofs take.
use Rattle.std.proofs.Common.{◌≡◌, ◌≢◌, ℕ, ◌==◌, ◌&&◌, Bool, true, false, Option, Some, None, refl, arith}
use Rattle.std.specs.Prelude.{IfSome}
use Rattle.std.proofs.lemmas.Bool.Decides.{nat_tests}

-- numbers that differ, and the same number, under the test
pub not_equal : (a b : ℕ) → a ≢ b → (a == b) ≡ false
not_equal a b h = grind (arith, nat_tests)

pub is_equal : (a b : ℕ) → a ≡ b → (a == b) ≡ true
is_equal a b h = grind (arith, nat_tests)

-- nothing holds beside what is false
pub and_false : (b : Bool) → (b && false) ≡ false
and_false true = refl
and_false false = refl

-- what holds of the value, if there is one, holds in weaker words
pub some_weaker : {A : Type 0} (P Q : A → Type 0) → ((x : A) → P x → Q x)
    → (o : Option A) → IfSome o P → IfSome o Q
some_weaker P Q f None p = tt
some_weaker P Q f (Some x) p = f x p
