-- Cases of a test.
use Rattle.std.proofs.Common.{◌≡◌, ℕ, Bool, true, false, cond, ◌||◌, ⊎_elim, refl, eqb, eq-eqb, eqb-true}
use Rattle.std.proofs.lemmas.Bool.{cases_Bool}

pub by_cases : {P : Type 0} (b : Bool) → (b ≡ true → P) → (b ≡ false → P) → P
by_cases b met missed = ⊎_elim met missed (cases_Bool b)

-- the same, at one number and at others
pub at_or_else : {P : Type 0} (m n : ℕ) → (m ≡ n → P) → (eqb m n ≡ false → P) → P
at_or_else m n here away = by_cases (eqb m n) (λ e. here (eqb-true m n e)) away

pub eqb_same : (n : ℕ) → eqb n n ≡ true
eqb_same n = eq-eqb n n refl

pub or-false : (b : Bool) → (b || false) ≡ b
or-false true = refl
or-false false = refl

pub or-true : (b : Bool) → (b || true) ≡ true
or-true true = refl
or-true false = refl

pub or_assoc : (a b c : Bool) → ((a || b) || c) ≡ (a || (b || c))
or_assoc true b c = refl
or_assoc false b c = refl

pub cond-same : {A : Type 0} (b : Bool) (x : A) → cond b x x ≡ x
cond-same true x = refl
cond-same false x = refl

pub not_both : {P : Type 0} (b : Bool) → b ≡ true → b ≡ false → P
not_both b t f = cc
