-- Each statement of a script that was read stands on a line of its own: the numbers of the lines rise.
use Rattle.std.proofs.Common.{◌≡◌, ℕ, zero, suc, ◌+◌, ◌≤◌, Bool, true, false, cond, List, [], ◌∷◌, ◌++◌, length, slice_get, Option, Some, None, Result, Ok, Err, sym, ap, subst, ◌∙◌, add-one, arith}
use Rattle.std.specs.Prelude.{All, filter_map, option_map, unwrap_or}
use Rattle.std.specs.List.{cons_option}
use Rattle.std.specs.Result.{result_ok}
use Rattle.std.proofs.lemmas.List.Elements.{All-nil, All-cons, All-append}
use Rattle.plcr_base.proofs.Chained.{bind_ok}
use Rattle.plcr_machine.proofs.Cases.{at_or_else, eqb_same}
use Rattle.plcr_script.specs.declared.modes.Mode.{Mode}
use Rattle.plcr_script.specs.declared.statements.NumberedStatement.{NumberedStatement}
use Rattle.plcr_script.specs.Scripts.{ScriptValue}
use Rattle.plcr_script.specs.Splits.{lines}
use Rattle.plcr_script.specs.Sayings.{Saying, Sizes, Number, Words, States, says_nothing, saying_in}
use Rattle.plcr_script.specs.Refusals.{Refusal as Line}
use Rattle.plcr_script.specs.Laws.{NumberedSaying, sayings_from, statement_by}
use Rattle.plcr_script.specs.Reading.{script_in, passes_of}
use Rattle.plcr_script.proofs.SaidScripts.{script_said}
use Rattle.plcr_command.specs.declared.jobs.Job.{Job}
use Rattle.plcr_command.specs.declared.jobs.Modes.{Modes}
use Rattle.plcr_command.specs.Jobs.{IsJob, RefusedScript, numbered, scripts_from}
use Rattle.plcr_workers.specs.Asking.{statement_on}
use Rattle.plcr_workers.specs.inner.Own.{HaveOwnLines}
use Rattle.plcr_workers.specs.inner.Traces.{Rise}

-- statements on lines that rise, from one on
abbrev Rises : ℕ → List NumberedStatement → Type 0
Rises n [] = Unit {0}
Rises n (s ∷ statements) = (n ≤ s.line) × Rises (s.line + 1) statements

rises_from : (n m : ℕ) (statements : List NumberedStatement) → n ≤ m → Rises m statements → Rises n statements
rises_from n m [] less h = tt
rises_from n m (s ∷ statements) less h = ((let l = h.0 in omega (arith, less, l)), h.1)

some_same : {a b : NumberedStatement} → Some a ≡ Some b → a ≡ b
some_same {a} {b} e = ap (λ (o : Option NumberedStatement). unwrap_or o a) e

record OnOwn (n : ℕ) (statements : List NumberedStatement) (s : NumberedStatement) : Type 0 where
  from : n ≤ s.line
  stands : statement_on s.line statements ≡ Some s.statement

on_own : (n : ℕ) (statements : List NumberedStatement) (at : ℕ) (s : NumberedStatement) → Rises n statements → slice_get statements at ≡ Some s → OnOwn n statements s
on_own n [] at s rises is = absurd cc
on_own n (x ∷ statements) zero s rises is =
    let same : x ≡ s = some_same is in
    subst (λ (y : NumberedStatement). OnOwn n (x ∷ statements) y) same
    (record { from = rises.0; stands = ap (λ (b : Bool). cond b (Some x.statement) (statement_on x.line statements)) (eqb_same x.line) })
on_own n (x ∷ statements) (suc at) s rises is =
    let rest = on_own (x.line + 1) statements at s rises.1 is in
    let above : x.line + 1 ≤ s.line = rest.from in
    let first : n ≤ x.line = rises.0 in
    record {
      from = omega (arith, above, first);
      stands = at_or_else x.line s.line (λ (e : x.line ≡ s.line). absurd (omega (arith, above, e)))
          (λ apart. ap (λ (b : Bool). cond b (Some x.statement) (statement_on s.line statements)) apart ∙ rest.stands);
    }

-- what lines say has their numbers
abbrev statements_said : List NumberedSaying → List NumberedStatement
statements_said sayings = filter_map (λ (s : NumberedSaying). statement_by s.line s.saying) sayings

one_saying : (n : ℕ) (saying : Saying) (others : List NumberedSaying) → Rises (n + 1) (statements_said others) → Rises n (statements_said (record { line = n; saying = saying } ∷ others))
one_saying n (Sizes nodes passes) others h = rises_from n (n + 1) (statements_said others) (omega arith) h
one_saying n (Number key number) others h = rises_from n (n + 1) (statements_said others) (omega arith) h
one_saying n (Words key text) others h = rises_from n (n + 1) (statements_said others) (omega arith) h
one_saying n (States statement) others h = ((omega arith), h)

maybe_rises : (n : ℕ) (nothing : Bool) (saying : Option Saying) (others : List NumberedSaying) → Rises (n + 1) (statements_said others)
    → Rises n (statements_said (cons_option (cond nothing None (option_map (λ (s : Saying). record { line = n; saying = s }) saying)) others))
maybe_rises n true saying others h = rises_from n (n + 1) (statements_said others) (omega arith) h
maybe_rises n false None others h = rises_from n (n + 1) (statements_said others) (omega arith) h
maybe_rises n false (Some saying) others h = one_saying n saying others h

lines_rise : (passes n : ℕ) (texts : List (List ℕ)) → Rises n (statements_said (sayings_from n passes texts))
lines_rise passes n [] = tt
lines_rise passes n (text ∷ texts) = maybe_rises n (says_nothing text) (result_ok (saying_in passes text)) (sayings_from (n + 1) passes texts) (lines_rise passes (n + 1) texts)

script_apart : (mode : Mode) (before : List ScriptValue) (bytes : List ℕ) (script : ScriptValue) → script_in mode before bytes ≡ Ok script → HaveOwnLines script.statements
script_apart mode before bytes script is at s there =
    let said = script_said mode before bytes script is in
    let rises = subst (λ (l : List NumberedStatement). Rises 1 l) (sym said.statements) (lines_rise (passes_of mode script.passes) 1 (lines bytes)) in
    (on_own 1 script.statements at s rises there).stands

-- the same in the words of the definitions
rise_of : (n : ℕ) (statements : List NumberedStatement) → Rises n statements → Rise n statements
rise_of n [] h = tt
rise_of n (s ∷ statements) h = (h.0, rise_of (suc s.line) statements (subst (λ k. Rises k statements) (add-one s.line) h.1))

pub script_rises : (mode : Mode) (before : List ScriptValue) (bytes : List ℕ) (script : ScriptValue) → script_in mode before bytes ≡ Ok script → Rise 0 script.statements
script_rises mode before bytes script is =
    let said = script_said mode before bytes script is in
    let rises = subst (λ (l : List NumberedStatement). Rises 1 l) (sym said.statements) (lines_rise (passes_of mode script.passes) 1 (lines bytes)) in
    rise_of 0 script.statements (rises_from 0 1 script.statements (omega arith) rises)

abbrev IsApart : ScriptValue → Type 0
IsApart script = HaveOwnLines script.statements

pub numbered_ok : (number : ℕ) (r : Result ScriptValue Line) (script : ScriptValue) → numbered number r ≡ Ok script → r ≡ Ok script
numbered_ok number (Ok s) script is = ap ok_again is
  where
    ok_again : Result ScriptValue RefusedScript → Result ScriptValue Line
    ok_again (Ok t) = Ok t
    ok_again (Err e) = Ok s
numbered_ok number (Err refusal) script is = absurd cc

scripts_or : List ScriptValue → Result (List ScriptValue) RefusedScript → List ScriptValue
scripts_or d (Ok scripts) = scripts
scripts_or d (Err refused) = d

scripts_apart : (mode later : Mode) (before : List ScriptValue) (contents : List (List ℕ)) (scripts : List ScriptValue) → scripts_from mode later before contents ≡ Ok scripts → All IsApart before → All IsApart scripts
unfolding scripts_from scripts_or
scripts_apart mode later before [] scripts is all = subst (All IsApart) (ap (scripts_or before) is) all
scripts_apart mode later before (bytes ∷ contents) scripts is all =
    let b = bind_ok (numbered (length before + 1) (script_in mode before bytes)) (λ (script : ScriptValue). scripts_from later later (before ++ script ∷ []) contents) scripts is in
    let read = numbered_ok (length before + 1) (script_in mode before bytes) b.0 b.1 in
    scripts_apart later later (before ++ b.0 ∷ []) contents scripts b.2
    (All-append IsApart before (b.0 ∷ []) all (All-cons IsApart b.0 [] (script_apart mode before bytes b.0 read) (All-nil IsApart)))

-- so do those of all scripts of a job
pub job_apart : (modes : Modes) (contents : List (List ℕ)) (job : Job) → IsJob modes contents job → All (λ (script : ScriptValue). HaveOwnLines script.statements) job.scripts
job_apart modes [] job is = absurd is
job_apart modes (core ∷ contents) job is = scripts_apart modes.first modes.later [] contents job.scripts is.1 (All-nil IsApart)
