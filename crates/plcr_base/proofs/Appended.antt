-- How appending bytes piece by piece goes on, ends and is cut short.
use Rattle.std.proofs.Common.{◌≡◌, ℕ, ◌<◌, List, [], ◌∷◌, ◌++◌, length, take, drop, Option, None, Some, refl, sym, ap, ◌∙◌, append_assoc, append-nil, take-append-drop, length-append, arith}
use Rattle.std.specs.Io.KnownBytes.{append_known}
use Rattle.plcr_base.specs.Told.{AppendsUpTo, AppendsProperFront}

-- nothing appended
pub append_nothing : (old : Option (List ℕ)) → append_known old [] ≡ old
append_nothing None = refl
append_nothing (Some xs) = ap (λ l. Some l) (append-nil xs)

-- two pieces, one after the other, are one
pub append_twice : (old : Option (List ℕ)) (xs ys : List ℕ) → append_known (append_known old xs) ys ≡ append_known old (xs ++ ys)
append_twice None xs ys = refl
append_twice (Some zs) xs ys = ap (λ l. Some l) (append_assoc zs xs ys)

-- at the start all of the bytes are left
pub up_to_start : (old : Option (List ℕ)) (bytes : List ℕ) → AppendsUpTo old old bytes bytes
up_to_start old bytes = record { front = []; parts = refl; appended = sym (append_nothing old) }

-- one more piece of what is left
pub up_to_put : (old mid new : Option (List ℕ)) (bytes rest : List ℕ) (n : ℕ) → AppendsUpTo old mid bytes rest → new ≡ append_known mid (take n rest) → AppendsUpTo old new bytes (drop n rest)
up_to_put old mid new bytes rest n before piece = record {
  front = before.front ++ take n rest;
  parts = before.parts ∙ ap (λ l. before.front ++ l) (sym (take-append-drop n rest)) ∙ sym (append_assoc before.front (take n rest) (drop n rest));
  appended = piece ∙ ap (λ o. append_known o (take n rest)) before.appended ∙ append_twice old before.front (take n rest);
}

-- where nothing is left, all was appended
pub up_to_end : (old new : Option (List ℕ)) (bytes rest : List ℕ) → AppendsUpTo old new bytes rest → length rest ≡ 0 → new ≡ append_known old bytes
up_to_end old new bytes [] all none = all.appended ∙ ap (append_known old) (sym (append-nil all.front) ∙ sym all.parts)
up_to_end old new bytes (x ∷ rest) all none = absurd (omega arith)

-- where something is left, not all was appended
pub up_to_err : (old new : Option (List ℕ)) (bytes rest : List ℕ) → AppendsUpTo old new bytes rest → 0 < length rest → AppendsProperFront old new bytes
up_to_err old new bytes rest some left = record { front = some.front; rest = rest; parts = some.parts; left = left; appended = some.appended }

-- a cut in the first of two pieces
pub proper_first : (old new : Option (List ℕ)) (xs ys : List ℕ) → AppendsProperFront old new xs → AppendsProperFront old new (xs ++ ys)
proper_first old new xs ys cut = record {
  front = cut.front;
  rest = cut.rest ++ ys;
  parts = ap (λ l. l ++ ys) cut.parts ∙ append_assoc cut.front cut.rest ys;
  left = let some = cut.left in rw length-append (omega arith);
  appended = cut.appended;
}

-- a cut in the second of two pieces
pub proper_second : (old mid new : Option (List ℕ)) (xs ys : List ℕ) → mid ≡ append_known old xs → AppendsProperFront mid new ys → AppendsProperFront old new (xs ++ ys)
proper_second old mid new xs ys first cut = record {
  front = xs ++ cut.front;
  rest = cut.rest;
  parts = ap (λ l. xs ++ l) cut.parts ∙ sym (append_assoc xs cut.front cut.rest);
  left = cut.left;
  appended = cut.appended ∙ ap (λ o. append_known o cut.front) first ∙ append_twice old xs cut.front;
}
