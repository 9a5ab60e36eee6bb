-- A text of pieces that is cut in one of them.
use Rattle.std.proofs.Common.{◌≡◌, ℕ, zero, suc, ◌+◌, ◌<◌, List, [], ◌∷◌, ◌++◌, length, take, drop, flat_map, get_or, Bool, true, false, Option, Some, None, option_map, unwrap_or, codes, refl, sym, ap, ◌∙◌, subst, append_assoc, append-nil, arith}
use Rattle.std.specs.Io.KnownBytes.{append_known}
use Rattle.plcr_base.specs.Told.{AppendsProperFront}
use Rattle.plcr_base.proofs.Appended.{proper_first, proper_second, append_twice}
use Rattle.plcr_machine.proofs.Cases.{not_both}
use Rattle.plcr_script.specs.declared.statements.Statement.{Statement}
use Rattle.plcr_script.specs.declared.statements.NumberedStatement.{NumberedStatement}
use Rattle.plcr_script.specs.declared.outcomes.Outcome.{Outcome}
use Rattle.plcr_script.specs.Log.{log_line, place_text, outcome_text}
use Rattle.plcr_workers.specs.declared.lines.PassSaid.{PassSaid}
use Rattle.plcr_workers.specs.Log.{file_in, line_of, file_of, pass_outcome}

cut_at : {X : Type 0} (f : X → List ℕ) (xs : List X) (k : ℕ) (d : X) → k < length xs → flat_map f xs ≡ (flat_map f (take k xs) ++ f (get_or xs k d)) ++ flat_map f (drop (suc k) xs)
cut_at f [] k d less = absurd (omega arith)
cut_at f (x ∷ xs) zero d less = refl
cut_at f (x ∷ xs) (suc k) d less =
    ap (λ l. f x ++ l) (cut_at f xs k d (omega arith)) ∙ sym (append_assoc (f x) (flat_map f (take k xs) ++ f (get_or xs k d)) (flat_map f (drop (suc k) xs)))
    ∙ ap (λ l. l ++ flat_map f (drop (suc k) xs)) (sym (append_assoc (f x) (flat_map f (take k xs)) (f (get_or xs k d))))

-- the piece at a place was cut, after those before it had been appended
pub printed_cut : {X : Type 0} (f : X → List ℕ) (xs : List X) (k : ℕ) (d : X) (old mid new : Option (List ℕ)) → k < length xs → mid ≡ append_known old (flat_map f (take k xs)) → AppendsProperFront mid new (f (get_or xs k d))
    → AppendsProperFront old new (flat_map f xs)
printed_cut f xs k d old mid new less first cut =
    subst (AppendsProperFront old new) (sym (cut_at f xs k d less))
    (proper_first old new (flat_map f (take k xs) ++ f (get_or xs k d)) (flat_map f (drop (suc k) xs)) (proper_second old mid new (flat_map f (take k xs)) (f (get_or xs k d)) first cut))

suc_add : (k : ℕ) → suc k + 1 ≡ suc (k + 1)
suc_add k = omega arith

abbrev is_some_number : Option ℕ → Bool
is_some_number None = false
is_some_number (Some n) = true

some_none : {n : ℕ} → Some n ≡ None → ⊥
some_none e = not_both true refl (ap is_some_number e)

take_more : {X : Type 0} (f : X → List ℕ) (xs : List X) (k : ℕ) (d : X) → k < length xs → flat_map f (take (k + 1) xs) ≡ flat_map f (take k xs) ++ f (get_or xs k d)
take_more f [] k d less = absurd (omega arith)
take_more f (x ∷ xs) zero d less = append-nil (f x)
take_more f (x ∷ xs) (suc k) d less =
    ap (λ n. flat_map f (take n (x ∷ xs))) (suc_add k) ∙ ap (λ l. f x ++ l) (take_more f xs k d (omega arith)) ∙ sym (append_assoc (f x) (flat_map f (take k xs)) (f (get_or xs k d)))

-- one piece more
pub printed_more : {X : Type 0} (f : X → List ℕ) (xs : List X) (k : ℕ) (d : X) (old mid new : Option (List ℕ)) → k < length xs → mid ≡ append_known old (flat_map f (take k xs)) → new ≡ append_known mid (f (get_or xs k d))
    → new ≡ append_known old (flat_map f (take (k + 1) xs))
printed_more f xs k d old mid new less first more =
    more ∙ ap (λ o. append_known o (f (get_or xs k d))) first ∙ append_twice old (flat_map f (take k xs)) (f (get_or xs k d)) ∙ ap (append_known old) (sym (take_more f xs k d less))

-- the line of a statement of a script
abbrev same_line : Option NumberedStatement → ℕ → Statement → List ℕ → Outcome → PassSaid → ℕ → Type 0
same_line there line statement file outcome said number =
    Some line ≡ option_map (λ (s : NumberedStatement). s.line) there → Some statement ≡ option_map (λ (s : NumberedStatement). s.statement) there → file ≡ file_in statement → outcome_text outcome ≡ outcome_text (pass_outcome file said)
    → log_line (Some number) line outcome ≡ log_line (Some number) (line_of there) (pass_outcome (file_of there) said)

pub line_printed : (there : Option NumberedStatement) (line : ℕ) (statement : Statement) (file : List ℕ) (outcome : Outcome) (said : PassSaid) (number : ℕ) → same_line there line statement file outcome said number
unfolding log_line
line_printed None line statement file outcome said number at here names text = absurd (some_none at)
line_printed (Some s) line statement file outcome said number at here names text =
    let line_is : line ≡ s.line = ap (λ (o : Option ℕ). unwrap_or o line) at in
    let same_statement : statement ≡ s.statement = ap (λ (o : Option Statement). unwrap_or o statement) here in
    (λ i. place_text (Some number) (line_is i) ++ (text ∙ ap (λ (f : List ℕ). outcome_text (pass_outcome f said)) (names ∙ ap file_in same_statement)) i ++ codes "\n")
