-- Lists that are joined piece by piece.
use Rattle.std.proofs.Common.{◌≡◌, ℕ, ◌+◌, ◌≤◌, List, [], ◌++◌, refl, sym, ap, ◌∙◌, append_assoc, add-one, subst, arith}
use Rattle.std.proofs.lemmas.List.{append-nil}
use Rattle.plcr_make.specs.Numbers.{joined}

-- no piece
pub joined_none : (list : ℕ → List ℕ) (start : List ℕ) → start ≡ start ++ joined list 0
unfolding joined
joined_none list start = sym (append-nil start)

-- one piece more
pub joined_on : (list : ℕ → List ℕ) (k : ℕ) (start old new : List ℕ) → old ≡ start ++ joined list k → new ≡ old ++ list k → new ≡ start ++ joined list (k + 1)
unfolding joined
joined_on list k start old new so_far more = rw (more, so_far, add-one k) (append_assoc start (joined list k) (list k))

-- all pieces
pub joined_all : (list : ℕ → List ℕ) (k n : ℕ) (start now : List ℕ) → k ≤ n → n ≤ k → now ≡ start ++ joined list k → now ≡ start ++ joined list n
joined_all list k n start now most least so_far = let same : k ≡ n = omega (arith, most, least) in subst (λ (m : ℕ). now ≡ start ++ joined list m) same so_far

-- five pieces behind a start
five_on : (start a b c d e : List ℕ) → ((((start ++ a) ++ b) ++ c) ++ d) ++ e ≡ start ++ (a ++ (b ++ (c ++ (d ++ e))))
five_on start a b c d e = rw (append_assoc (((start ++ a) ++ b) ++ c) d e, append_assoc ((start ++ a) ++ b) c (d ++ e), append_assoc (start ++ a) b (c ++ (d ++ e)), append_assoc start a (b ++ (c ++ (d ++ e)))) refl

-- six pieces one behind the other
pub six_made : (v0 v1 v2 v3 v4 v5 v6 a b c d e f : List ℕ) → v0 ≡ [] → v1 ≡ v0 ++ a → v2 ≡ v1 ++ b → v3 ≡ v2 ++ c → v4 ≡ v3 ++ d → v5 ≡ v4 ++ e → v6 ≡ v5 ++ f → v6 ≡ a ++ (b ++ (c ++ (d ++ (e ++ f))))
six_made v0 v1 v2 v3 v4 v5 v6 a b c d e f e0 e1 e2 e3 e4 e5 e6 =
    let first : v1 ≡ a = e1 ∙ ap (λ (v : List ℕ). v ++ a) e0 in
    rw (e6, e5, e4, e3, e2, first) (five_on a b c d e f)
