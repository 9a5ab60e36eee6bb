-- The passes that are in, in a run, are those that the statements put in.
use Rattle.std.proofs.Common.{◌≡◌, ℕ, Bool, true, false, eqb, List, [], ◌∷◌, refl, sym, ap, ◌∙◌, cond}
use Rattle.std.specs.Prelude.{fold, if◌then◌else◌}
use Rattle.plcr_machine.specs.Events.{changes_in}
use Rattle.plcr_machine.proofs.Cases.{at_or_else, eqb_same}
use Rattle.plcr_script.specs.declared.statements.Statement.{Statement}
use Rattle.plcr_script.specs.declared.statements.Statement.TheVariants as statements
use Rattle.plcr_script.specs.declared.statements.NumberedStatement.{NumberedStatement}
use Rattle.plcr_script.specs.Places.{in_behind, is_in_behind}
use Rattle.plcr_script.specs.Meanings.{Meanings}
use Rattle.plcr_script.specs.RunStates.{Place, Out, In, is_in, placed, walk, State, first_state, entered, entered_if_out}
use Rattle.plcr_script.specs.RunTurns.{turn_of}
use Rattle.plcr_script.specs.Run.{state_after}
use Rattle.plcr_script.specs.RunLaws.{PassesAreWhereTheyWerePut}
use Rattle.plcr_script.proofs.WalkEnds.{walk_is_in}
use Rattle.plcr_script.proofs.Turning.{changing_keeps}

-- the pass is in, or out
abbrev Is : ℕ → Bool → State → Type 0
Is p was s = is_in (s.places p) ≡ was

-- another place for one pass
is_placed : (p q : ℕ) (place : Place) (places : ℕ → Place) → is_in (placed q place places p) ≡ cond (eqb q p) (is_in place) (is_in (places p))
is_placed p q place places = at_or_else p q
    (λ same. rw (same, eqb_same q) refl)
    (λ other. rw (other, other_way q p other) refl)
  where
    other_way : (a b : ℕ) → eqb b a ≡ false → eqb a b ≡ false
    other_way a b ne = at_or_else a b (λ same. absurd (let clash : true ≡ false = sym (eqb_same b) ∙ ap (eqb b) (sym same) ∙ ne in cc)) (λ e. e)

turn_placed : (process : Meanings) (nodes passes p : ℕ) (s : State) (statement : Statement) → is_in ((turn_of process nodes passes s statement).state.places p) ≡ in_behind p (is_in (s.places p)) statement
unfolding turn_of
turn_placed process nodes passes p s (statements.Enter q) = is_placed p q (In [] false) s.places
turn_placed process nodes passes p s (statements.Leave q) = is_placed p q Out s.places
turn_placed process nodes passes p s (statements.Walk q most) = is_placed p q (walk most (changes_in s.events) (s.places q)) s.places ∙ at_or_else q p
    (λ same. rw (same, eqb_same p) (walk_is_in most (changes_in s.events) (s.places p)))
    (λ other. rw other refl)
turn_placed process nodes passes p s (statements.Report q file) = is_placed p q Out (entered_if_out q s).places ∙ of (eqb q p) refl
  where
    went : (b : Bool) → eqb q p ≡ false → is_in ((if b then s else entered q s).places p) ≡ is_in (s.places p)
    went true other = refl
    went false other = is_placed p q (In [] false) s.places ∙ rw other refl

    of : (b : Bool) → eqb q p ≡ b → cond b false (is_in ((entered_if_out q s).places p)) ≡ cond b false (is_in (s.places p))
    of true same = refl
    of false other = went (is_in (s.places q)) other
turn_placed process nodes passes p s statement = changing_keeps process nodes passes (Is p (is_in (s.places p))) (λ t h. h) (λ t plan h none may. h) (λ t o more h is few. h) (λ t o h is. h) s statement refl refl

-- behind statements that go on from a state
states_placed : (process : Meanings) (nodes passes p : ℕ) (s : State) (xs : List NumberedStatement)
    → is_in ((state_after process nodes passes s xs).places p) ≡ fold (λ was x. in_behind p was x.statement) (is_in (s.places p)) xs
states_placed process nodes passes p s [] = refl
states_placed process nodes passes p s (x ∷ xs) =
    states_placed process nodes passes p (turn_of process nodes passes s x.statement).state xs
    ∙ ap (λ (was : Bool). fold (λ w y. in_behind p w y.statement) was xs) (turn_placed process nodes passes p s x.statement)

pub run_placed : PassesAreWhereTheyWerePut
unfolding is_in_behind
run_placed process script xs p = states_placed process script.nodes script.passes p first_state xs
