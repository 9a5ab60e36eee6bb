-- Outputs are kept and given up only once they were made.
use Rattle.std.proofs.Common.{◌≡◌, ℕ, ◌+◌, ◌<◌, ◌≤◌, List, [], ◌∷◌, Option, Some, None, length, sym, subst, length-append, arith}
use Rattle.plcr_base.specs.Told.{IfTold, add, add_told}
use Rattle.plcr_io.specs.Desk.{Told, Balances, HasOpen}
use Rattle.plcr_workers.specs.inner.Outputs.{HasOpenFor}

-- the same by its three lists
abbrev OpenIn : ℕ → Option (List (List ℕ)) → Option (List (List ℕ × List ℕ)) → Option (List (List ℕ)) → Type 0
OpenIn count made kept dropped = IfTold made (λ m. IfTold kept (λ k. IfTold dropped (λ d. length k + length d + count ≤ length m)))

one_open : (count : ℕ) (made : Option (List (List ℕ))) (kept : Option (List (List ℕ × List ℕ))) (dropped : Option (List (List ℕ))) → 0 < count → OpenIn count made kept dropped
    → IfTold made (λ m. IfTold kept (λ k. IfTold dropped (λ d. length k + length d < length m)))
one_open count None kept dropped some h = tt
one_open count (Some m) None dropped some h = tt
one_open count (Some m) (Some k) None some h = tt
one_open count (Some m) (Some k) (Some d) some h = omega (arith, some, h)

pub has_open : (count : ℕ) (told : Told) → 0 < count → HasOpenFor count told → HasOpen told
has_open count told some h = one_open count told.made told.kept told.dropped some h

none_open : (made : Option (List (List ℕ))) (kept : Option (List (List ℕ × List ℕ))) (dropped : Option (List (List ℕ))) → IfTold made (λ m. IfTold kept (λ k. IfTold dropped (λ d. length k + length d ≤ length m))) → OpenIn 0 made kept dropped
none_open None kept dropped h = tt
none_open (Some m) None dropped h = tt
none_open (Some m) (Some k) None h = tt
none_open (Some m) (Some k) (Some d) h = omega (arith, h)

-- no more were kept and given up than were made
pub opens_none : (told : Told) → Balances told → HasOpenFor 0 told
opens_none told h = none_open told.made told.kept told.dropped h

made_in : (count : ℕ) (name : List ℕ) (made : Option (List (List ℕ))) (kept : Option (List (List ℕ × List ℕ))) (dropped : Option (List (List ℕ))) → OpenIn count made kept dropped → OpenIn (count + 1) (add made name) kept dropped
made_in count name None kept dropped h = tt
made_in count name (Some m) None dropped h = tt
made_in count name (Some m) (Some k) None h = tt
made_in count name (Some m) (Some k) (Some d) h = let l = length-append m (name ∷ []) in omega (arith, h, l)

kept_in : (count : ℕ) (entry : Option (List ℕ × List ℕ)) (made : Option (List (List ℕ))) (kept : Option (List (List ℕ × List ℕ))) (dropped : Option (List (List ℕ))) → OpenIn (count + 1) made kept dropped → OpenIn count made (add_told kept entry) dropped
kept_in count entry None kept dropped h = tt
kept_in count None (Some m) kept dropped h = tt
kept_in count (Some e) (Some m) None dropped h = tt
kept_in count (Some e) (Some m) (Some k) None h = tt
kept_in count (Some e) (Some m) (Some k) (Some d) h = let l = length-append k (e ∷ []) in omega (arith, h, l)

dropped_in : (count : ℕ) (entry : Option (List ℕ)) (made : Option (List (List ℕ))) (kept : Option (List (List ℕ × List ℕ))) (dropped : Option (List (List ℕ))) → OpenIn (count + 1) made kept dropped → OpenIn count made kept (add_told dropped entry)
dropped_in count entry None kept dropped h = tt
dropped_in count entry (Some m) None dropped h = tt
dropped_in count None (Some m) (Some k) dropped h = tt
dropped_in count (Some e) (Some m) (Some k) None h = tt
dropped_in count (Some e) (Some m) (Some k) (Some d) h = let l = length-append d (e ∷ []) in omega (arith, h, l)

fewer_in : (count less : ℕ) (made : Option (List (List ℕ))) (kept : Option (List (List ℕ × List ℕ))) (dropped : Option (List (List ℕ))) → less ≤ count → OpenIn count made kept dropped → OpenIn less made kept dropped
fewer_in count less None kept dropped few h = tt
fewer_in count less (Some m) None dropped few h = tt
fewer_in count less (Some m) (Some k) None few h = tt
fewer_in count less (Some m) (Some k) (Some d) few h = omega (arith, h, few)

pub after_make : (count : ℕ) (name : List ℕ) (old new : Told) → HasOpenFor count old → new.made ≡ add old.made name → new.kept ≡ old.kept → new.dropped ≡ old.dropped → HasOpenFor (count + 1) new
after_make count name old new h made kept dropped =
    subst (λ (y : Option (List (List ℕ)) × Option (List (List ℕ × List ℕ)) × Option (List (List ℕ))). OpenIn (count + 1) y.0 y.1 y.2) (λ i. (sym made i, sym kept i, sym dropped i))
    (made_in count name old.made old.kept old.dropped h)

pub after_keep : (count : ℕ) (entry : Option (List ℕ × List ℕ)) (old new : Told) → HasOpenFor (count + 1) old → new.made ≡ old.made → new.kept ≡ add_told old.kept entry → new.dropped ≡ old.dropped → HasOpenFor count new
after_keep count entry old new h made kept dropped =
    subst (λ (y : Option (List (List ℕ)) × Option (List (List ℕ × List ℕ)) × Option (List (List ℕ))). OpenIn count y.0 y.1 y.2) (λ i. (sym made i, sym kept i, sym dropped i))
    (kept_in count entry old.made old.kept old.dropped h)

pub after_drop : (count : ℕ) (entry : Option (List ℕ)) (old new : Told) → HasOpenFor (count + 1) old → new.made ≡ old.made → new.kept ≡ old.kept → new.dropped ≡ add_told old.dropped entry → HasOpenFor count new
after_drop count entry old new h made kept dropped =
    subst (λ (y : Option (List (List ℕ)) × Option (List (List ℕ × List ℕ)) × Option (List (List ℕ))). OpenIn count y.0 y.1 y.2) (λ i. (sym made i, sym kept i, sym dropped i))
    (dropped_in count entry old.made old.kept old.dropped h)

pub still_open : (count less : ℕ) (old new : Told) → less ≤ count → HasOpenFor count old → new.made ≡ old.made → new.kept ≡ old.kept → new.dropped ≡ old.dropped → HasOpenFor less new
still_open count less old new few h made kept dropped =
    subst (λ (y : Option (List (List ℕ)) × Option (List (List ℕ × List ℕ)) × Option (List (List ℕ))). OpenIn less y.0 y.1 y.2) (λ i. (sym made i, sym kept i, sym dropped i))
    (fewer_in count less old.made old.kept old.dropped few h)
