-- Which passes are in, behind one statement more.
use Rattle.std.proofs.Common.{◌≡◌, ℕ, ◌<◌, Bool, true, false, cond, eqb, List, [], ◌∷◌, ◌++◌, refl, sym, ◌∙◌, ap}
use Rattle.std.specs.Prelude.{slice_set}
use Rattle.std.proofs.lemmas.List.{get_or-set_same, get_or-set_other, length-set}
use Rattle.std.proofs.lemmas.List.Sums.{fold-append}
use Rattle.plcr_machine.specs.declared.limits.TheConstants.{MOST_PASSES}
use Rattle.plcr_machine.proofs.Cases.{at_or_else, eqb_same}
use Rattle.plcr_script.specs.declared.statements.NumberedStatement.{NumberedStatement}
use Rattle.plcr_script.specs.Places.{in_behind, is_in_behind}
use Rattle.plcr_script.specs.inner.Names.{AreInside}

-- behind one statement more
pub in_behind_more : (pass : ℕ) (xs : List NumberedStatement) (x : NumberedStatement) → is_in_behind pass (xs ++ x ∷ []) ≡ in_behind pass (is_in_behind pass xs) x.statement
unfolding is_in_behind
in_behind_more pass xs x = fold-append (λ was s. in_behind pass was s.statement) false xs (x ∷ [])

-- a statement that moves no pass
pub inside_same : (inside : List Bool) (xs : List NumberedStatement) (x : NumberedStatement) → ((pass : ℕ) (was : Bool) → in_behind pass was x.statement ≡ was) → AreInside inside xs → AreInside inside (xs ++ x ∷ [])
inside_same inside xs x stays h = record {
  wide = h.wide;
  are = λ pass few. h.are pass few ∙ sym (in_behind_more pass xs x ∙ stays pass (is_in_behind pass xs));
}

-- a statement that puts a pass in, or out
pub inside_moved : (inside : List Bool) (xs : List NumberedStatement) (x : NumberedStatement) (p : ℕ) (now : Bool) → p < MOST_PASSES
    → ((pass : ℕ) (was : Bool) → in_behind pass was x.statement ≡ cond (eqb p pass) now was)
    → AreInside inside xs → AreInside (slice_set inside p now) (xs ++ x ∷ [])
inside_moved inside xs x p now few moves h = record {
  wide = length-set inside p now ∙ h.wide;
  are = λ pass within. at_or_else p pass
      (λ same. rw (← same) (get_or-set_same inside p now false (rw h.wide few) ∙ sym (in_behind_more p xs x ∙ moves p (is_in_behind p xs) ∙ rw (eqb_same p) refl)))
      (λ other. get_or-set_other inside p pass now false (λ e. absurd (not_same p pass e other)) ∙ h.are pass within ∙ sym (in_behind_more pass xs x ∙ moves pass (is_in_behind pass xs) ∙ rw other refl));
}
  where
    not_same : (a b : ℕ) → b ≡ a → eqb a b ≡ false → ⊥
    not_same a b e h = let t : true ≡ false = sym (eqb_same a) ∙ ap (eqb a) (sym e) ∙ h in absurd cc
