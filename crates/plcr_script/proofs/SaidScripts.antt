-- What the lines of a script say, each by itself, makes the script.
use Rattle.std.proofs.Common.{◌≡◌, ◌≢◌, ℕ, ◌+◌, ◌<◌, Bool, true, false, List, [], ◌∷◌, ◌++◌, length, get_or, Option, Some, None, Result, Ok, refl, sym, ◌∙◌, ap, subst, append_assoc, arith, rules}
use Rattle.std.specs.Prelude.{All, AllPairs, IsFalse, drop, codes, if◌then◌else◌}
use Rattle.std.specs.List.{filter_map, list_any, fold}
use Rattle.std.specs.Str.{bytes_eq}
use Rattle.std.proofs.lemmas.Bool.{both_ways, or_parts}
use Rattle.std.proofs.lemmas.List.{append-nil}
use Rattle.std.proofs.lemmas.List.Elements.{All-nil, All-cons, All-push}
use Rattle.std.proofs.lemmas.List.Folds.{list_any_at, list_any-append}
use Rattle.std.proofs.lemmas.List.Quantifiers.{all_pairs_push}
use Rattle.std.proofs.lemmas.Slice.Eq.{bytes_eq-Decides}
use Rattle.plcr_script.specs.declared.statements.NumberedStatement.{NumberedStatement}
use Rattle.plcr_script.specs.declared.values.DescriptiveValues.{DescriptiveValues}
use Rattle.plcr_script.specs.declared.modes.Mode.{Mode}
use Rattle.plcr_script.specs.declared.limits.TheConstants.{DEFAULT_PASSES}
use Rattle.plcr_base.proofs.Chained.{bind_ok}
use Rattle.plcr_script.specs.declared.faults.Kind.{Kind}
use Rattle.plcr_script.specs.declared.statements.Statement.{Statement}
use Rattle.plcr_script.specs.declared.statements.Statement.TheVariants.{Report}
use Rattle.plcr_script.specs.Splits.{lines, words, first_word}
use Rattle.plcr_script.specs.Values.{default_values}
use Rattle.plcr_script.specs.Scripts.{ScriptValue}
use Rattle.plcr_script.specs.Sayings.{Saying, Sizes, Number, Words, States, says_nothing, table_in, set_in, statement_in, saying_of, saying_in}
use Rattle.plcr_script.specs.Reading.{DraftValue, no_lines, passes_of, with_said, is_out_of_place, is_named, is_taken, with_lines, script_in, file_of, files_of, written_by}
use Rattle.plcr_script.specs.Laws.{NumberedSaying, said_by, sayings_from, statement_by, values_by, is_sizes, sizes_in, IsSaidBy}
use Rattle.plcr_script.proofs.Naming.{files_more}
use Rattle.plcr_script.proofs.StatementsRead.{statement_read}
use Rattle.plcr_script.proofs.WholeScripts.{Turn, Silent, Said, lines_turn}

-- a line that says nothing, and one that says this
silent : (p n : ℕ) (line : List ℕ) → says_nothing line ≡ true → said_by p (n, line) ≡ None
silent p n line h = rw h refl

says : (p n : ℕ) (line : List ℕ) (s : Saying) → says_nothing line ≡ false → saying_in p line ≡ Ok s → said_by p (n, line) ≡ Some (record { line = n; saying = s })
says p n line s h e = rw (h, e) refl

silent_from : (p n : ℕ) (line : List ℕ) (others : List (List ℕ)) → says_nothing line ≡ true → sayings_from n p (line ∷ others) ≡ sayings_from (n + 1) p others
silent_from p n line others h = rw (silent p n line h) refl

says_from : (p n : ℕ) (line : List ℕ) (others : List (List ℕ)) (s : Saying) → says_nothing line ≡ false → saying_in p line ≡ Ok s → sayings_from n p (line ∷ others) ≡ record { line = n; saying = s } ∷ sayings_from (n + 1) p others
says_from p n line others s h e = rw (says p n line s h e) refl

-- the statements of sayings, and the values after them
abbrev statements_by : List NumberedSaying → List NumberedStatement
statements_by sayings = filter_map (λ s. statement_by s.line s.saying) sayings

abbrev values_after : DescriptiveValues → List NumberedSaying → DescriptiveValues
values_after values sayings = fold (λ values s. values_by values s.saying) values sayings

abbrev NoSizes : NumberedSaying → Type 0
NoSizes s = IsFalse (is_sizes s.saying)

-- how many passes the lines behind a draft may name
abbrev reads : DraftValue → ℕ
reads draft = passes_of draft.mode draft.script.passes

-- what sayings behind the first add to a draft
record Later (draft out : DraftValue) (sayings : List NumberedSaying) : Type 0 where
  nodes : out.script.nodes ≡ draft.script.nodes
  passes : out.script.passes ≡ draft.script.passes
  statements : out.script.statements ≡ draft.script.statements ++ statements_by sayings
  values : out.script.values ≡ values_after draft.script.values sayings
  none : All NoSizes sayings

-- one more in front
later_with : (draft out : DraftValue) (n : ℕ) (s : Saying) (sayings : List NumberedSaying) → is_sizes s ≡ false → Later (with_said draft n s) out sayings → Later draft out (record { line = n; saying = s } ∷ sayings)
later_with draft out n (Sizes a b) sayings h l = absurd cc
later_with draft out n (Number key number) sayings h l = record { nodes = l.nodes; passes = l.passes; statements = l.statements; values = l.values; none = All-cons NoSizes (record { line = n; saying = Number key number }) sayings (search rules) l.none }
later_with draft out n (Words key text) sayings h l = record { nodes = l.nodes; passes = l.passes; statements = l.statements; values = l.values; none = All-cons NoSizes (record { line = n; saying = Words key text }) sayings (search rules) l.none }
later_with draft out n (States statement) sayings h l = record {
  nodes = l.nodes;
  passes = l.passes;
  statements = l.statements ∙ append_assoc draft.script.statements (record { line = n; statement = statement } ∷ []) (statements_by sayings);
  values = l.values;
  none = All-cons NoSizes (record { line = n; saying = States statement }) sayings (search rules) l.none;
}

-- sizes aren't named behind the first saying, and nothing else changes them
not_sizes : (draft : DraftValue) (s : Saying) → draft.begun ≡ true → is_out_of_place draft s ≡ false → is_sizes s ≡ false
not_sizes draft (Sizes a b) begun out = absurd (true_false (sym begun ∙ (or_parts draft.begun _ out).0))
  where
    true_false : true ≡ false → ⊥
    true_false h = cc
not_sizes draft (Number key number) begun out = refl
not_sizes draft (Words key text) begun out = refl
not_sizes draft (States statement) begun out = refl

same_passes : (draft : DraftValue) (n : ℕ) (s : Saying) → is_sizes s ≡ false → reads (with_said draft n s) ≡ reads draft
same_passes draft n (Sizes a b) h = absurd cc
same_passes draft n (Number key number) h = refl
same_passes draft n (Words key text) h = refl
same_passes draft n (States statement) h = refl

later_turn : (others : List (List ℕ)) (draft next out : DraftValue) (n : ℕ) (line : List ℕ) → draft.begun ≡ true → Turn draft n line next → (next.begun ≡ true → Later next out (sayings_from (n + 1) (reads next) others)) → Later draft out (sayings_from n (reads draft) (line ∷ others))
later_turn others draft next out n line begun (Silent h same) rest =
    let moved = subst (λ (d : DraftValue). Later d out (sayings_from (n + 1) (reads d) others)) same (rest (rw same begun)) in
    subst (λ (ss : List NumberedSaying). Later draft out ss) (sym (silent_from (reads draft) n line others h)) moved
later_turn others draft next out n line begun (Said s h e place same) rest =
    let small = not_sizes draft s begun place in
    let moved = subst (λ (d : DraftValue). Later d out (sayings_from (n + 1) (reads d) others)) same (rest (rw same refl)) in
    let kept = subst (λ (p : ℕ). Later (with_said draft n s) out (sayings_from (n + 1) p others)) (same_passes draft n s small) moved in
    subst (λ (ss : List NumberedSaying). Later draft out ss) (sym (says_from (reads draft) n line others s h e)) (later_with draft out n s (sayings_from (n + 1) (reads draft) others) small kept)

-- what the lines behind the first saying add
later : (texts : List (List ℕ)) (draft out : DraftValue) (n : ℕ) → draft.begun ≡ true → with_lines draft n texts ≡ Ok out → Later draft out (sayings_from n (reads draft) texts)
unfolding with_lines
later [] draft out n begun h =
    let same : out ≡ draft = cc in
    subst (λ (d : DraftValue). Later draft d []) (sym same) (record { nodes = refl; passes = refl; statements = sym (append-nil draft.script.statements); values = refl; none = All-nil NoSizes })
later (line ∷ others) draft out n begun h =
    let t = lines_turn draft out n line others h in
    later_turn others draft t.0 out n line begun t.1 (λ b. later others t.0 out (n + 1) b t.2)

-- sizes are read alike for any number of passes
sizes_free : (p q : ℕ) (line : List ℕ) (a b : ℕ) → saying_in p line ≡ Ok (Sizes a b) → saying_in q line ≡ Ok (Sizes a b)
unfolding saying_of
sizes_free p q line a b h = of (bytes_eq word (codes "table")) (bytes_eq word (codes "set")) h
  where
    word : List ℕ
    word = (first_word line).front

    arguments : Option (List ℕ)
    arguments = (first_word line).rest

    chosen : Bool → Bool → ℕ → Result Saying Kind
    chosen table set passes = if table then table_in (words arguments) else if set then set_in arguments else statement_in passes word arguments

    of : (table set : Bool) → chosen table set p ≡ Ok (Sizes a b) → chosen table set q ≡ Ok (Sizes a b)
    of true set h = h
    of false true h = h
    of false false h = absurd (statement_read p word arguments (Sizes a b) h)

-- what sayings make of the script of no lines
record Whole (out : DraftValue) (sayings : List NumberedSaying) : Type 0 where
  statements : out.script.statements ≡ statements_by sayings
  nodes : out.script.nodes ≡ (sizes_in sayings).0
  passes : out.script.passes ≡ (sizes_in sayings).1
  once : All NoSizes (drop 1 sayings)
  values : out.script.values ≡ values_after default_values sayings

-- the number of passes with which the lines are read
record Read (mode : Mode) (out : DraftValue) (n : ℕ) (texts : List (List ℕ)) : Type 0 where
  passes : ℕ
  same : passes_of mode out.script.passes ≡ passes
  whole : Whole out (sayings_from n passes texts)

-- the first that is said
first_said : (mode : Mode) (before : List ScriptValue) (others : List (List ℕ)) (out : DraftValue) (n : ℕ) (line : List ℕ) (s : Saying) → says_nothing line ≡ false → saying_in (passes_of mode DEFAULT_PASSES) line ≡ Ok s → Later (with_said (no_lines mode before) n s) out (sayings_from (n + 1) (reads (with_said (no_lines mode before) n s)) others) → Read mode out n (line ∷ others)
first_said mode before others out n line (Sizes a b) h e l = record {
  passes = passes_of mode b;
  same = ap (passes_of mode) l.passes;
  whole = subst (λ (ss : List NumberedSaying). Whole out ss) (sym (says_from (passes_of mode b) n line others (Sizes a b) h (sizes_free (passes_of mode DEFAULT_PASSES) (passes_of mode b) line a b e)))
      (record { statements = l.statements; nodes = l.nodes; passes = l.passes; once = l.none; values = l.values });
}
first_said mode before others out n line (Number key number) h e l = record {
  passes = passes_of mode DEFAULT_PASSES;
  same = ap (passes_of mode) l.passes;
  whole = subst (λ (ss : List NumberedSaying). Whole out ss) (sym (says_from (passes_of mode DEFAULT_PASSES) n line others (Number key number) h e))
      (record { statements = l.statements; nodes = l.nodes; passes = l.passes; once = l.none; values = l.values });
}
first_said mode before others out n line (Words key text) h e l = record {
  passes = passes_of mode DEFAULT_PASSES;
  same = ap (passes_of mode) l.passes;
  whole = subst (λ (ss : List NumberedSaying). Whole out ss) (sym (says_from (passes_of mode DEFAULT_PASSES) n line others (Words key text) h e))
      (record { statements = l.statements; nodes = l.nodes; passes = l.passes; once = l.none; values = l.values });
}
first_said mode before others out n line (States statement) h e l = record {
  passes = passes_of mode DEFAULT_PASSES;
  same = ap (passes_of mode) l.passes;
  whole = subst (λ (ss : List NumberedSaying). Whole out ss) (sym (says_from (passes_of mode DEFAULT_PASSES) n line others (States statement) h e))
      (record { statements = l.statements; nodes = l.nodes; passes = l.passes; once = l.none; values = l.values });
}

read_turn : (mode : Mode) (before : List ScriptValue) (others : List (List ℕ)) (next out : DraftValue) (n : ℕ) (line : List ℕ) → Turn (no_lines mode before) n line next → with_lines next (n + 1) others ≡ Ok out → (with_lines (no_lines mode before) (n + 1) others ≡ Ok out → Read mode out (n + 1) others) → Read mode out n (line ∷ others)
read_turn mode before others next out n line (Silent h same) rest goes =
    let r = goes (subst (λ (d : DraftValue). with_lines d (n + 1) others ≡ Ok out) same rest) in
    record {
      passes = r.passes;
      same = r.same;
      whole = subst (λ (ss : List NumberedSaying). Whole out ss) (sym (silent_from r.passes n line others h)) r.whole;
    }
read_turn mode before others next out n line (Said s h e place same) rest goes =
    first_said mode before others out n line s h e (later others (with_said (no_lines mode before) n s) out (n + 1) refl (subst (λ (d : DraftValue). with_lines d (n + 1) others ≡ Ok out) same rest))

-- the lines up to the first saying, and those behind it
read_whole : (mode : Mode) (before : List ScriptValue) (texts : List (List ℕ)) (out : DraftValue) (n : ℕ) → with_lines (no_lines mode before) n texts ≡ Ok out → Read mode out n texts
unfolding with_lines
read_whole mode before [] out n h =
    let same : out ≡ no_lines mode before = cc in
    record {
      passes = passes_of mode DEFAULT_PASSES;
      same = ap (λ (d : DraftValue). passes_of mode d.script.passes) same;
      whole = subst (λ (d : DraftValue). Whole d []) (sym same) (record { statements = refl; nodes = refl; passes = refl; once = All-nil NoSizes; values = refl });
    }
read_whole mode before (line ∷ others) out n h =
    let t = lines_turn (no_lines mode before) out n line others h in
    read_turn mode before others t.0 out n line t.1 t.2 (λ k. read_whole mode before others out (n + 1) k)

-- a file that none of these is
not_named : (names : List (List ℕ)) (file : List ℕ) → is_named file names ≡ false → (k : ℕ) (d : List ℕ) → k < length names → get_or names k d ≢ file
unfolding is_named
not_named names file h k d lt same =
    both_ways (list_any (λ name. bytes_eq name file) names) h
    (list_any_at (λ name. bytes_eq name file) names k d lt ((bytes_eq-Decides (get_or names k d) file).1 same))

not_named_in : (file : List ℕ) (xs ys : List (List ℕ)) → is_named file (xs ++ ys) ≡ false → (is_named file xs ≡ false) × (is_named file ys ≡ false)
unfolding is_named
not_named_in file xs ys h = or_parts _ _ (sym (list_any-append (λ name. bytes_eq name file) xs ys) ∙ h)

-- no two statements of a draft write one file, and none writes that of a script before
abbrev Differs : List (List ℕ) → List ℕ → Type 0
Differs names file = All (λ name. file ≢ name) names

record AreApart (before : List (List ℕ)) (files : List (List ℕ)) : Type 0 where
  apart : AllPairs (λ f g. f ≢ g) files
  fresh : All (λ f. Differs before f) files

one_apart : (before files : List (List ℕ)) (file : List ℕ) → is_named file (before ++ files) ≡ false → AreApart before files → AreApart before (files ++ file ∷ [])
one_apart before files file free h =
    let both = not_named_in file before files free in
    record {
      apart = all_pairs_push (λ f g. f ≢ g) files file h.apart (not_named files file both.1);
      fresh = All-push (Differs before) files file h.fresh (λ k d lt same. not_named before file both.0 k d lt (sym same));
    }

statement_apart : (before : List (List ℕ)) (earlier : List NumberedStatement) (line : ℕ) (s : Statement) → is_taken (file_of s) (before ++ files_of earlier) ≡ false → AreApart before (files_of earlier) → AreApart before (files_of (earlier ++ record { line = line; statement = s } ∷ []))
statement_apart before earlier line (Report pass file) free h =
    rw (files_more earlier (record { line = line; statement = Report pass file })) (one_apart before (files_of earlier) file free h)
statement_apart before earlier line other free h = rw (files_more earlier (record { line = line; statement = other }), append-nil (files_of earlier)) h

abbrev IsApart : DraftValue → Type 0
IsApart draft = AreApart (written_by draft.before) (files_of draft.script.statements)

said_apart : (draft : DraftValue) (n : ℕ) (s : Saying) → is_out_of_place draft s ≡ false → IsApart draft → IsApart (with_said draft n s)
said_apart draft n (Sizes a b) place h = h
said_apart draft n (Number key number) place h = h
said_apart draft n (Words key text) place h = h
said_apart draft n (States statement) place h = statement_apart (written_by draft.before) draft.script.statements n statement (or_parts _ _ (or_parts _ _ place).1).1 h

turn_apart : (draft next : DraftValue) (n : ℕ) (line : List ℕ) → Turn draft n line next → IsApart draft → IsApart next
turn_apart draft next n line (Silent h same) apart = subst IsApart (sym same) apart
turn_apart draft next n line (Said s h e place same) apart = subst IsApart (sym same) (said_apart draft n s place apart)

turn_before : (draft next : DraftValue) (n : ℕ) (line : List ℕ) → Turn draft n line next → next.before ≡ draft.before
turn_before draft next n line (Silent h same) = ap (λ (d : DraftValue). d.before) same
turn_before draft next n line (Said s h e place same) = ap (λ (d : DraftValue). d.before) same

-- the scripts before stay, and so does it that files are apart
lines_apart : (texts : List (List ℕ)) (draft out : DraftValue) (n : ℕ) → with_lines draft n texts ≡ Ok out → IsApart draft → (out.before ≡ draft.before) × IsApart out
unfolding with_lines
lines_apart [] draft out n h apart = let same : draft ≡ out = cc in subst (λ (d : DraftValue). (d.before ≡ draft.before) × IsApart d) same (refl, apart)
lines_apart (line ∷ others) draft out n h apart =
    let t = lines_turn draft out n line others h in
    let rest = lines_apart others t.0 out (n + 1) t.2 (turn_apart draft t.0 n line t.1 apart) in
    (rest.0 ∙ turn_before draft t.0 n line t.1, rest.1)

-- a script that is read is what its lines say
pub script_said : (mode : Mode) (before : List ScriptValue) (bytes : List ℕ) (script : ScriptValue) → script_in mode before bytes ≡ Ok script → IsSaidBy before (sayings_from 1 (passes_of mode script.passes) (lines bytes)) script
unfolding script_in
script_said mode before bytes script h =
    let d = bind_ok (with_lines (no_lines mode before) 1 (lines bytes)) (λ (draft : DraftValue). Ok draft.script) script h in
    let same : d.0.script ≡ script = cc (d.2) in
    let r = read_whole mode before (lines bytes) d.0 1 d.1 in
    let w = subst (λ (p : ℕ). Whole d.0 (sayings_from 1 p (lines bytes))) (sym r.same) r.whole in
    let a = lines_apart (lines bytes) (no_lines mode before) d.0 1 d.1 (record { apart = λ i j d before within. absurd (omega arith); fresh = All-nil (Differs (written_by before)) }) in
    let apart = subst (λ (scripts : List ScriptValue). AreApart (written_by scripts) (files_of d.0.script.statements)) a.0 a.1 in
    subst (λ (s : ScriptValue). IsSaidBy before (sayings_from 1 (passes_of mode s.passes) (lines bytes)) s) same (record {
      statements = w.statements;
      nodes = w.nodes;
      passes = w.passes;
      once = w.once;
      values = w.values;
      apart = apart.apart;
      fresh = apart.fresh;
    })
