-- Lists that went on and have their length still.
use Rattle.std.proofs.Common.{◌≡◌, List, [], ◌∷◌, ◌++◌, length, length-append, ap, arith}

-- a list that went on and is as long is the same
pub went_same : {A : Type 0} (old all : List A) → (added : List A) → all ≡ added ++ old → length all ≡ length old → all ≡ old
went_same {A = A} old all [] is same = is
went_same {A = A} old all (x ∷ added) is same = absurd (omega (arith, ap (λ (l : List A). length l) is, length-append added old, same))
