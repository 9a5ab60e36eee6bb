-- A script that is read is what its lines say; a refused line is the first that is.
use Rattle.std.proofs.Common.{◌≡◌, ℕ, suc, ◌+◌, Bool, true, false, List, [], ◌∷◌, take, Some, Result, Ok, Err, not, refl, sym, ◌∙◌, subst, add-zero, arith}
use Rattle.std.specs.Prelude.{if◌then◌else◌}
use Rattle.std.specs.List.{slice_get}
use Rattle.plcr_base.specs.Chains.{◌>>=◌}
use Rattle.plcr_base.proofs.Chained.{bind_ok}
use Rattle.plcr_script.specs.declared.modes.Mode.{Mode}
use Rattle.plcr_script.specs.declared.faults.Kind.{Kind}
use Rattle.plcr_script.specs.declared.faults.Kind.TheVariants.{OutOfPlace}
use Rattle.plcr_script.specs.Splits.{lines}
use Rattle.plcr_script.specs.Refusals.{Refusal, kind_number, only_if, refused_at}
use Rattle.plcr_script.specs.Scripts.{ScriptValue}
use Rattle.plcr_script.specs.Sayings.{Saying, says_nothing, saying_in}
use Rattle.plcr_script.specs.Reading.{DraftValue, no_lines, passes_of, is_out_of_place, with_said, with_line, with_lines, script_in}
use Rattle.plcr_script.specs.Laws.{IsFirstRefused}

refused_ok : {A : Type 0} (n : ℕ) (r : Result A Kind) (x : A) → refused_at n r ≡ Ok x → r ≡ Ok x
refused_ok n (Ok y) x h = cc
refused_ok n (Err kind) x h = absurd cc

-- what became of a line that is read
pub data Turn (draft : DraftValue) (n : ℕ) (line : List ℕ) (next : DraftValue) : Type 0 where
  Silent : says_nothing line ≡ true → next ≡ draft → Turn draft n line next
  Said : (s : Saying) → says_nothing line ≡ false → saying_in (passes_of draft.mode draft.script.passes) line ≡ Ok s → is_out_of_place draft s ≡ false → next ≡ with_said draft n s → Turn draft n line next

-- a line by whether it says nothing, and by what it says
abbrev placed_at : DraftValue → ℕ → Saying → Bool → Result DraftValue Kind
placed_at draft n s out = only_if OutOfPlace (not out) s >>= λ placed. Ok (with_said draft n placed)

placed_ok : (draft next : DraftValue) (n : ℕ) (s : Saying) (out : Bool) → placed_at draft n s out ≡ Ok next → (out ≡ false) × (next ≡ with_said draft n s)
placed_ok draft next n s true h = absurd cc
placed_ok draft next n s false h = (refl, cc)

abbrev step : DraftValue → ℕ → Bool → Result Saying Kind → Result DraftValue Kind
step draft n empty read = if empty then Ok draft else (read >>= λ s. placed_at draft n s (is_out_of_place draft s))

step_turn : (draft next : DraftValue) (n : ℕ) (line : List ℕ) (empty : Bool) (read : Result Saying Kind) → says_nothing line ≡ empty → saying_in (passes_of draft.mode draft.script.passes) line ≡ read → step draft n empty read ≡ Ok next → Turn draft n line next
step_turn draft next n line true read e r h = let same : next ≡ draft = cc in Silent e same
step_turn draft next n line false (Err kind) e r h = absurd cc
step_turn draft next n line false (Ok s) e r h = let p = placed_ok draft next n s (is_out_of_place draft s) h in Said s e r p.0 p.1

-- each line that is read
pub turn_of : (draft next : DraftValue) (n : ℕ) (line : List ℕ) → with_line draft n line ≡ Ok next → Turn draft n line next
unfolding with_line
turn_of draft next n line h = step_turn draft next n line (says_nothing line) (saying_in (passes_of draft.mode draft.script.passes) line) refl refl h

-- the lines after the first
pub lines_turn : (draft out : DraftValue) (n : ℕ) (line : List ℕ) (others : List (List ℕ)) → with_lines draft n (line ∷ others) ≡ Ok out → (next : DraftValue) × Turn draft n line next × (with_lines next (n + 1) others ≡ Ok out)
unfolding with_lines
lines_turn draft out n line others h =
    let both = bind_ok (refused_at n (with_line draft n line)) (λ next. with_lines next (n + 1) others) out h in
    (both.0, turn_of draft both.0 n line (refused_ok n (with_line draft n line) both.0 both.1), both.2)

-- the first refused line of several, from a number on
record IsFirst (draft : DraftValue) (n : ℕ) (texts : List (List ℕ)) (refusal : Refusal) : Type 0 where
  before : ℕ
  so_far : DraftValue
  text : List ℕ
  kind : Kind
  number : refusal.line ≡ n + before
  accepted : with_lines draft n (take before texts) ≡ Ok so_far
  stands : slice_get texts before ≡ Some text
  refused : with_line so_far refusal.line text ≡ Err kind
  told : refusal.kind ≡ kind_number kind

-- a line that is refused stands first; one that is read stands before it
data Answer (draft : DraftValue) (n : ℕ) (line : List ℕ) : Type 0 where
  Reads : (next : DraftValue) → with_line draft n line ≡ Ok next → Answer draft n line
  Refuses : (kind : Kind) → with_line draft n line ≡ Err kind → Answer draft n line

answer_of : (draft : DraftValue) (n : ℕ) (line : List ℕ) → Answer draft n line
answer_of draft n line = go (with_line draft n line) refl
  where
    go : (r : Result DraftValue Kind) → with_line draft n line ≡ r → Answer draft n line
    go (Ok next) h = Reads next h
    go (Err kind) h = Refuses kind h

abbrev refused_with : Refusal → Result DraftValue Refusal
refused_with r = Err r

err_is : (r s : Refusal) → refused_with r ≡ refused_with s → r ≡ s
err_is r s h = cc

first_refused : (texts : List (List ℕ)) (draft : DraftValue) (n : ℕ) (refusal : Refusal) → with_lines draft n texts ≡ Err refusal → IsFirst draft n texts refusal
unfolding with_lines
first_refused [] draft n refusal h = absurd cc
first_refused (line ∷ others) draft n refusal h =
    elim (answer_of draft n line) [
      | Reads next reads ↦
          let rest = first_refused others next (n + 1) refusal (rw reads at h) in
          record {
            before = suc rest.before;
            so_far = rest.so_far;
            text = rest.text;
            kind = rest.kind;
            number = rest.number ∙ omega arith;
            accepted = rw reads rest.accepted;
            stands = rest.stands;
            refused = rest.refused;
            told = rest.told;
          }
      | Refuses kind refuses ↦
          let is = err_is (record { line = n; kind = kind_number kind }) refusal (rw refuses at h) in
          subst (λ (r : Refusal). IsFirst draft n (line ∷ others) r) is (record {
            before = 0;
            so_far = draft;
            text = line;
            kind = kind;
            number = sym (add-zero n);
            accepted = refl;
            stands = refl;
            refused = refuses;
            told = refl;
          })
    ]

err_of : (r : Result DraftValue Refusal) (refusal : Refusal) → (r >>= λ draft. Ok draft.script) ≡ Err refusal → r ≡ Err refusal
err_of (Ok draft) refusal h = absurd cc
err_of (Err e) refusal h = cc

-- the first refused line of a script
pub script_refused : (mode : Mode) (before : List ScriptValue) (bytes : List ℕ) (refusal : Refusal) → script_in mode before bytes ≡ Err refusal → IsFirstRefused mode before (lines bytes) refusal
unfolding script_in
script_refused mode before bytes refusal h =
    let p = first_refused (lines bytes) (no_lines mode before) 1 refusal (err_of (with_lines (no_lines mode before) 1 (lines bytes)) refusal h) in
    record {
      place = p.before;
      draft = p.so_far;
      text = p.text;
      kind = p.kind;
      number = p.number ∙ omega arith;
      accepted = p.accepted;
      stands = p.stands;
      refused = p.refused;
      told = p.told;
    }
