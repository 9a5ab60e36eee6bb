-- Tests of all numbers below one.
use Rattle.std.proofs.Common.{◌≡◌, ℕ, zero, suc, ◌<◌, Bool, true, refl, sym, subst, arith}
use Rattle.std.proofs.lemmas.Bool.{and_parts}
use Rattle.plcr_machine.specs.Passes.{all_under}
use Rattle.plcr_machine.proofs.Cases.{at_or_else}
use Rattle.std.proofs.lemmas.Bool.{eqb-false}

pub all_under-each : (f : ℕ → Bool) (n k : ℕ) → all_under f n ≡ true → k < n → f k ≡ true
all_under-each f zero k all lt = absurd (omega arith)
all_under-each f (suc n) k all lt =
    let parts = and_parts (f n) (all_under f n) all in
    at_or_else k n (λ e. subst (λ m. f m ≡ true) (sym e) parts.0)
    (λ e. all_under-each f n k parts.1 (omega (arith, eqb-false k n e)))

pub all_under-from : (f : ℕ → Bool) (n : ℕ) → ((k : ℕ) → k < n → f k ≡ true) → all_under f n ≡ true
all_under-from f zero all = refl
all_under-from f (suc n) all = rw (all n (omega arith)) (all_under-from f n (λ k lt. all k (omega arith)))

-- a test that more numbers pass
pub all_under-more : (f g : ℕ → Bool) (n : ℕ) → ((k : ℕ) → k < n → f k ≡ true → g k ≡ true) → all_under f n ≡ true → all_under g n ≡ true
all_under-more f g n more all = all_under-from g n (λ k lt. more k lt (all_under-each f n k all lt))

pub all_under-same : (f g : ℕ → Bool) (n : ℕ) → ((k : ℕ) → k < n → f k ≡ g k) → all_under f n ≡ all_under g n
all_under-same f g zero same = refl
all_under-same f g (suc n) same =
    let below = all_under-same f g n (λ k lt. same k (omega arith)) in
    rw (same n (omega arith), below) refl
