-- What a list gained over several calls.
use Rattle.std.proofs.Common.{List, [], ◌∷◌, ◌++◌, Option, None, Some, sym, ap, ◌∙◌, append_assoc, append-nil}
use Rattle.plcr_base.specs.Told.{add, Gains}

-- a list that didn't change gained nothing
pub gains_none : {A : Type 0} (told : Option (List A)) → Gains told told []
gains_none None = tt
gains_none (Some xs) = sym (append-nil xs)

-- and then one more entry
pub gains_more : {A : Type 0} (old mid : Option (List A)) (more : List A) (entry : A) → Gains old mid more → Gains old (add mid entry) (more ++ entry ∷ [])
gains_more old None more entry before = tt
gains_more None (Some now) more entry before = absurd before
gains_more (Some xs) (Some now) more entry before = ap (λ l. l ++ entry ∷ []) before ∙ append_assoc xs more (entry ∷ [])

-- what two runs of calls gained, one after the other
pub gains_twice : {A : Type 0} (old mid new : Option (List A)) (first second : List A) → Gains old mid first → Gains mid new second → Gains old new (first ++ second)
gains_twice old mid None first second before after = tt
gains_twice old None (Some now) first second before after = absurd after
gains_twice None (Some ys) (Some now) first second before after = absurd before
gains_twice (Some xs) (Some ys) (Some now) first second before after = after ∙ ap (λ l. l ++ second) before ∙ append_assoc xs first second
