-- How far a worker's script has come, as its statements are taken.
use Rattle.std.proofs.Common.{◌≡◌, ℕ, zero, suc, ◌+◌, ◌≤◌, List, [], ◌∷◌, ◌++◌, length, take, drop, slice_get, Option, Some, None, refl, sym, ap, ◌∙◌, subst, length-append, append-nil, arith}
use Rattle.std.specs.Prelude.{filter_map, option_map, IfSome}
use Rattle.std.proofs.lemmas.List.{take_more, length-map, take-append-drop}
use Rattle.std.proofs.lemmas.List.Elements.{filter_map-append}
use Rattle.std.proofs.lemmas.Option.{slice_get_within, get_or_from_slice_get}
use Rattle.atomic_table.specs.Seated.{TableId}
use Rattle.plcr_script.specs.declared.statements.Statement.{Statement}
use Rattle.plcr_script.specs.declared.statements.NumberedStatement.{NumberedStatement}
use Rattle.plcr_machine.specs.declared.entry.Entry.{Entry}
use Rattle.plcr_turns.specs.declared.lines.Request.{Request}
use Rattle.plcr_turns.specs.declared.lines.Asked.{Asked}
use Rattle.plcr_turns.specs.declared.lines.Wanted.{Wanted}
use Rattle.plcr_turns.specs.declared.lines.ChangeLine.{ChangeLine}
use Rattle.plcr_turns.specs.declared.view.View.{View}
use Rattle.plcr_turns.specs.Lines.{asked_by, lines_of, wanted_by}
use Rattle.plcr_turns.specs.Working.{IsWorking, HasNext, AppliesLine}
use Rattle.plcr_workers.specs.Asking.{asked_in, change_lines}
use Rattle.plcr_workers.specs.inner.Places.{total_of, Advances}
use Rattle.plcr_workers.specs.inner.Hired.{SoFar, asks_one}

-- the line of a statement, if it has one
abbrev own_lines : ℕ → Option Asked → List Wanted
own_lines line None = []
own_lines line (Some asked) = record { line = line; asked = asked } ∷ []

one_statement : (line : ℕ) (statement : Statement) (asked : Option Asked) → asked_in statement ≡ asked → change_lines (record { line = line; statement = statement } ∷ []) ≡ own_lines line asked
one_statement line statement None e = ap (λ (a : Option Asked). filter_map (λ (x : Option Asked). option_map (λ b. record { line = line; asked = b }) x) (a ∷ [])) e
one_statement line statement (Some asked) e = ap (λ (a : Option Asked). filter_map (λ (x : Option Asked). option_map (λ b. record { line = line; asked = b }) x) (a ∷ [])) e

-- the lines of one statement more
lines_next : (statements : List NumberedStatement) (at line : ℕ) (statement : Statement) → slice_get statements at ≡ Some (record { line = line; statement = statement })
    → change_lines (take (at + 1) statements) ≡ change_lines (take at statements) ++ own_lines line (asked_in statement)
lines_next statements at line statement e =
    let s : NumberedStatement = record { line = line; statement = statement } in
    let within = slice_get_within statements at s e in
    ap change_lines (take_more statements at s within ∙ ap (λ (x : NumberedStatement). take at statements ++ x ∷ []) (get_or_from_slice_get statements at s s e))
    ∙ filter_map-append (λ (x : NumberedStatement). option_map (λ a. record { line = x.line; asked = a }) (asked_in x.statement)) (take at statements) (s ∷ [])
    ∙ ap (λ (l : List Wanted). change_lines (take at statements) ++ l) (one_statement line statement (asked_in statement) refl)

-- no more lines are asked for by the first statements than by all
few_lines : (n : ℕ) (statements : List NumberedStatement) → length (change_lines (take n statements)) ≤ length (change_lines statements)
few_lines n statements =
    let parts = ap change_lines (sym (take-append-drop n statements)) ∙ filter_map-append (λ (x : NumberedStatement). option_map (λ a. record { line = x.line; asked = a }) (asked_in x.statement)) (take n statements) (drop n statements) in
    let long = ap length parts ∙ length-append (change_lines (take n statements)) (change_lines (drop n statements)) in
    omega arith

pub so_far_next : (script : ℕ) (list : TableId) (statements : List NumberedStatement) (at line : ℕ) (statement : Statement) (v w : View) → SoFar script list statements at v
    → slice_get statements at ≡ Some (record { line = line; statement = statement }) → Advances script line (asked_in statement) v w → IsWorking script list w → SoFar script list statements (at + 1) w
so_far_next script list statements at line statement v w s e advances working = of (asked_in statement) refl advances
  where
    of : (asked : Option Asked) → asked_in statement ≡ asked → Advances script line asked v w → SoFar script list statements (at + 1) w
    of None is go = record {
      working = working;
      lines = ap (λ (u : View). wanted_by (lines_of script u.journal)) go ∙ s.lines ∙ sym (lines_next statements at line statement e ∙ ap (λ (a : Option Asked). change_lines (take at statements) ++ own_lines line a) is ∙ append-nil (change_lines (take at statements)));
      total = ap (λ (u : View). total_of u.shares) go ∙ s.total;
    }
    of (Some asked) is go = record {
      working = working;
      lines = go.0 ∙ ap (λ (l : List Wanted). l ++ record { line = line; asked = asked } ∷ []) s.lines ∙ sym (lines_next statements at line statement e ∙ ap (λ (a : Option Asked). change_lines (take at statements) ++ own_lines line a) is);
      total = go.1 ∙ s.total;
    }

-- a statement that asks for a change has its line left
pub has_next : (script : ℕ) (list : TableId) (statements : List NumberedStatement) (at line : ℕ) (statement : Statement) (asked : Asked) (v : View) → SoFar script list statements at v
    → slice_get statements at ≡ Some (record { line = line; statement = statement }) → asked_in statement ≡ Some asked → HasNext v
has_next script list statements at line statement asked v s e is =
    let applied = s.working.lines in
    let total : s.working.part.total ≡ length (change_lines statements) = sym (ap total_of s.working.shares) ∙ s.total in
    let so_many = ap length s.lines in
    let mapped = length-map (lines_of script v.journal) (λ (l : ChangeLine). l.wanted) in
    let more = ap length (lines_next statements at line statement e ∙ ap (λ (a : Option Asked). change_lines (take at statements) ++ own_lines line a) is) ∙ length-append (change_lines (take at statements)) (record { line = line; asked = asked } ∷ []) in
    let most = few_lines (at + 1) statements in
    (record { script = script; part = s.working.part }, s.working.shares, omega arith)

-- a line that was applied brings the script one further
pub advanced : (script line : ℕ) (request : Request) (statement : Statement) (v w : View) (seen known : List Entry) (names : List (List ℕ)) → AppliesLine (record { script = script; line = line; request = request }) v seen w known names
    → asked_in statement ≡ Some (asked_by request) → Advances script line (asked_in statement) v w
advanced script line request statement v w seen known names a e =
    subst (λ (asked : Option Asked). Advances script line asked v w) (sym e) (a.wanted, ap total_of a.is ∙ sym (ap total_of a.was))

-- a statement that asks for no change leaves it where it was
pub stayed : (script line : ℕ) (statement : Statement) (v : View) → asked_in statement ≡ None → Advances script line (asked_in statement) v v
stayed script line statement v e = subst (λ (asked : Option Asked). Advances script line asked v v) (sym e) refl

-- where a statement asks for a change, the script has a line left
pub left_if_asked : (script : ℕ) (list : TableId) (statements : List NumberedStatement) (at line : ℕ) (statement : Statement) (v : View) → SoFar script list statements at v
    → slice_get statements at ≡ Some (record { line = line; statement = statement }) → IfSome (asked_in statement) (λ asked. HasNext v)
left_if_asked script list statements at line statement v s e = of (asked_in statement) refl
  where
    of : (asked : Option Asked) → asked_in statement ≡ asked → IfSome asked (λ a. HasNext v)
    of None is = tt
    of (Some asked) is = has_next script list statements at line statement asked v s e is

-- what was known of a statement that asks
pub next_of : (asked : Option Asked) (a : Asked) (v : View) → asked ≡ Some a → IfSome asked (λ x. HasNext v) → HasNext v
next_of None a v e h = absurd cc
next_of (Some b) a v e h = h

-- a statement by its place alone
pub stands_at : (statements : List NumberedStatement) (at : ℕ) (statement : Statement) → Some statement ≡ option_map (λ (s : NumberedStatement). s.statement) (slice_get statements at)
    → (line : ℕ) × (slice_get statements at ≡ Some (record { line = line; statement = statement }))
stands_at statements at statement e = of (slice_get statements at) refl e
  where
    of : (o : Option NumberedStatement) → slice_get statements at ≡ o → Some statement ≡ option_map (λ (s : NumberedStatement). s.statement) o → (line : ℕ) × (slice_get statements at ≡ Some (record { line = line; statement = statement }))
    of None is h = absurd cc
    of (Some s) is h = let same : s.statement ≡ statement = cc in (s.line, is ∙ ap (λ (x : Statement). Some (record { line = s.line; statement = x })) same)

own_count : (line : ℕ) (asked : Option Asked) → length (own_lines line asked) ≡ asks_one asked
own_count line None = refl
own_count line (Some asked) = refl

-- the lines of the first statements are counted one by one
pub counted_next : (statements : List NumberedStatement) (at : ℕ) (statement : Statement) → Some statement ≡ option_map (λ (s : NumberedStatement). s.statement) (slice_get statements at)
    → length (change_lines (take (at + 1) statements)) ≡ length (change_lines (take at statements)) + asks_one (asked_in statement)
counted_next statements at statement e =
    let there = stands_at statements at statement e in
    let long = ap length (lines_next statements at there.0 statement there.1) ∙ length-append (change_lines (take at statements)) (own_lines there.0 (asked_in statement)) in
    let own = own_count there.0 (asked_in statement) in
    omega arith

pub take_whole : {A : Type 0} (xs : List A) → take (length xs) xs ≡ xs
take_whole [] = refl
take_whole (x ∷ xs) = ap (λ l. x ∷ l) (take_whole xs)

pub take_past : {A : Type 0} (n : ℕ) (xs : List A) → length xs ≤ n → take n xs ≡ xs
take_past zero [] less = refl
take_past (suc n) [] less = refl
take_past zero (x ∷ xs) less = absurd (omega (arith, less))
take_past (suc n) (x ∷ xs) less = ap (λ l. x ∷ l) (take_past n xs (omega (arith, less)))
