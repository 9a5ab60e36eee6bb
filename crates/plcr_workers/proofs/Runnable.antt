-- Scripts that were read for workers can be run by them: their lines rise, and each statement finds the one pass where it may be.
use Rattle.std.proofs.Common.{◌≡◌, ◌&&◌, ◌||◌, ℕ, ◌+◌, ◌<◌, Bool, true, false, not, List, [], ◌∷◌, ◌++◌, length, Option, Some, None, Result, Ok, refl, sym, ap, ◌∙◌, subst, arith}
use Rattle.std.specs.Prelude.{All, if◌then◌else◌, codes}
use Rattle.std.specs.Str.{bytes_eq}
use Rattle.std.proofs.lemmas.Bool.{or_parts}
use Rattle.std.proofs.lemmas.List.Elements.{All-nil, All-cons, All-append}
use Rattle.plcr_base.specs.Chains.{◌>>=◌}
use Rattle.plcr_base.proofs.Chained.{bind_ok}
use Rattle.plcr_script.specs.declared.faults.Kind.{Kind}
use Rattle.plcr_script.specs.declared.faults.Kind.TheVariants.{TooFew}
use Rattle.plcr_script.specs.declared.keys.NumberKey.{NumberKey}
use Rattle.plcr_script.specs.declared.keys.TextKey.{TextKey}
use Rattle.plcr_machine.specs.declared.limits.TheConstants.{MOST_NODES, MOST_PASSES}
use Rattle.plcr_script.specs.declared.modes.Mode.{Mode}
use Rattle.plcr_script.specs.declared.statements.Statement.{Statement}
use Rattle.plcr_script.specs.declared.statements.Statement.TheVariants as stated
use Rattle.plcr_script.specs.declared.statements.NumberedStatement.{NumberedStatement}
use Rattle.plcr_script.specs.Keys.{number_key_in, text_key_in}
use Rattle.plcr_script.specs.Places.{HasPass, in_behind, is_in_behind, is_misplaced}
use Rattle.plcr_script.specs.Reading.{DraftValue, file_of, files_before, is_of_open_change, is_out_of_place, is_taken, is_worker, no_lines, passes_of, script_in, with_lines, with_said}
use Rattle.plcr_script.specs.Refusals.{or_refuse}
use Rattle.plcr_script.specs.Sayings.{Saying, Sizes, Number, Words, States, number_for, number_to, saying_in, saying_of, set_in, statement_in, table_in, two_words, value_in}
use Rattle.plcr_script.specs.Scripts.{ScriptValue}
use Rattle.plcr_script.specs.Splits.{first_word, lines, words}
use Rattle.plcr_script.proofs.Insides.{in_behind_more}
use Rattle.plcr_script.proofs.StatementsRead.{statement_read}
use Rattle.plcr_script.proofs.WholeScripts.{Turn, Silent, Said, lines_turn}
use Rattle.plcr_command.specs.declared.jobs.Job.{Job}
use Rattle.plcr_command.specs.Jobs.{IsJob, numbered, scripts_from}
use Rattle.plcr_workers.specs.declared.command.TheConstants.{SIDE_BY_SIDE}
use Rattle.plcr_workers.specs.inner.Traces.{IsRunnable, MayRun, MayStand, stands_in}
use Rattle.plcr_workers.proofs.Apart.{numbered_ok, script_rises}

-- ---- one statement more

abbrev behind_all : Bool → List NumberedStatement → Bool
behind_all was [] = was
behind_all was (s ∷ statements) = behind_all (stands_in was s.statement) statements

may_more : (was : Bool) (statements : List NumberedStatement) (s : NumberedStatement) → MayRun was statements → MayStand (behind_all was statements) s.statement → MayRun was (statements ++ s ∷ [])
may_more was [] s may stand = (stand, tt)
may_more was (x ∷ statements) s may stand = (may.0, may_more (stands_in was x.statement) statements s may.1 stand)

behind_more : (was : Bool) (statements : List NumberedStatement) (s : NumberedStatement) → behind_all was (statements ++ s ∷ []) ≡ stands_in (behind_all was statements) s.statement
behind_more was [] s = refl
behind_more was (x ∷ statements) s = behind_more (stands_in was x.statement) statements s

not_false : (b : Bool) → not b ≡ false → b ≡ true
not_false true e = refl
not_false false e = absurd cc

first_pass : (pass : ℕ) → pass < 1 → pass ≡ 0
first_pass pass less = omega (arith, less)

fits_there : (earlier : List NumberedStatement) (inside : Bool) (statement : Statement) → HasPass 1 statement → is_of_open_change statement ≡ false → is_misplaced earlier statement ≡ false → is_in_behind 0 earlier ≡ inside → MayStand inside statement
fits_there earlier inside (stated.Load header name) has closed placed is = tt
fits_there earlier inside (stated.Unload header) has closed placed is = tt
fits_there earlier inside (stated.BeginLoad header name) has closed placed is = absurd cc
fits_there earlier inside (stated.BeginUnload header) has closed placed is = absurd cc
fits_there earlier inside (stated.Step most) has closed placed is = absurd cc
fits_there earlier inside stated.End has closed placed is = absurd cc
fits_there earlier inside (stated.Enter pass) has closed placed is = sym is ∙ subst (λ n. is_in_behind n earlier ≡ false) (first_pass pass has) placed
fits_there earlier inside (stated.Walk pass most) has closed placed is = sym is ∙ subst (λ n. is_in_behind n earlier ≡ true) (first_pass pass has) (not_false (is_in_behind pass earlier) placed)
fits_there earlier inside (stated.Leave pass) has closed placed is = sym is ∙ subst (λ n. is_in_behind n earlier ≡ true) (first_pass pass has) (not_false (is_in_behind pass earlier) placed)
fits_there earlier inside (stated.Report pass file) has closed placed is = tt

moves_alike : (was : Bool) (statement : Statement) → HasPass 1 statement → in_behind 0 was statement ≡ stands_in was statement
moves_alike was (stated.Load header name) has = refl
moves_alike was (stated.Unload header) has = refl
moves_alike was (stated.BeginLoad header name) has = refl
moves_alike was (stated.BeginUnload header) has = refl
moves_alike was (stated.Step most) has = refl
moves_alike was stated.End has = refl
moves_alike was (stated.Enter pass) has = subst (λ n. in_behind 0 was (stated.Enter n) ≡ true) (sym (first_pass pass has)) refl
moves_alike was (stated.Walk pass most) has = refl
moves_alike was (stated.Leave pass) has = subst (λ n. in_behind 0 was (stated.Leave n) ≡ false) (sym (first_pass pass has)) refl
moves_alike was (stated.Report pass file) has = subst (λ n. in_behind 0 was (stated.Report n file) ≡ false) (sym (first_pass pass has)) refl

-- ---- what a line says

not_sizes : (p : ℕ) (arguments : List (List ℕ)) (statement : Statement) → table_in arguments ≡ Ok (States statement) → HasPass p statement
unfolding table_in
not_sizes p arguments statement h =
    let a = bind_ok (two_words arguments) (λ sizes. number_to MOST_NODES sizes.0 >>= λ nodes. number_to MOST_PASSES sizes.1 >>= λ passes. Ok (Sizes nodes passes)) (States statement) h in
    let b = bind_ok (number_to MOST_NODES a.0.0) (λ nodes. number_to MOST_PASSES a.0.1 >>= λ passes. Ok (Sizes nodes passes)) (States statement) a.2 in
    let c = bind_ok (number_to MOST_PASSES a.0.1) (λ passes. Ok (Sizes b.0 passes)) (States statement) b.2 in
    let no = c.2 in
    absurd cc

not_value : (p : ℕ) (key : Option NumberKey) (other : Option TextKey) (value : List ℕ) (statement : Statement) → value_in key other value ≡ Ok (States statement) → HasPass p statement
not_value p (Some key) other value statement h =
    let a = bind_ok (number_for key value) (λ number. Ok (Number key number)) (States statement) h in
    let no = a.2 in
    absurd cc
not_value p None (Some key) value statement h = absurd cc
not_value p None None value statement h = absurd cc

not_set : (p : ℕ) (arguments : Option (List ℕ)) (statement : Statement) → set_in arguments ≡ Ok (States statement) → HasPass p statement
unfolding set_in
not_set p arguments statement h =
    let a = bind_ok (or_refuse TooFew arguments) (λ text. or_refuse TooFew (first_word text).rest >>= λ value. value_in (number_key_in (first_word text).front) (text_key_in (first_word text).front) value) (States statement) h in
    let b = bind_ok (or_refuse TooFew (first_word a.0).rest) (λ value. value_in (number_key_in (first_word a.0).front) (text_key_in (first_word a.0).front) value) (States statement) a.2 in
    not_value p (number_key_in (first_word a.0).front) (text_key_in (first_word a.0).front) b.0 statement b.2

saying_read : (p : ℕ) (line : List ℕ) (statement : Statement) → saying_in p line ≡ Ok (States statement) → HasPass p statement
unfolding saying_of
saying_read p line statement h = of (bytes_eq word (codes "table")) (bytes_eq word (codes "set")) h
  where
    word : List ℕ
    word = (first_word line).front

    arguments : Option (List ℕ)
    arguments = (first_word line).rest

    chosen : Bool → Bool → Result Saying Kind
    chosen table set = if table then table_in (words arguments) else if set then set_in arguments else statement_in p word arguments

    of : (table set : Bool) → chosen table set ≡ Ok (States statement) → HasPass p statement
    of true set h = not_sizes p (words arguments) statement h
    of false true h = not_set p arguments statement h
    of false false h = statement_read p word arguments (States statement) h

-- ---- a script, line by line

-- a worker's script as far as it was read
record Fits (d : DraftValue) : Type 0 where
  mode : (n : ℕ) → passes_of d.mode n ≡ 1
  worker : is_worker d.mode ≡ true
  may : MayRun false d.script.statements
  inside : is_in_behind 0 d.script.statements ≡ behind_all false d.script.statements

said_fits : (draft : DraftValue) (n : ℕ) (line : List ℕ) (s : Saying) → saying_in (passes_of draft.mode draft.script.passes) line ≡ Ok s → is_out_of_place draft s ≡ false → Fits draft → Fits (with_said draft n s)
said_fits draft n line (Sizes nodes passes) e place f = record { mode = f.mode; worker = f.worker; may = f.may; inside = f.inside }
said_fits draft n line (Number key number) e place f = record { mode = f.mode; worker = f.worker; may = f.may; inside = f.inside }
said_fits draft n line (Words key text) e place f = record { mode = f.mode; worker = f.worker; may = f.may; inside = f.inside }
said_fits draft n line (States statement) e place f =
    let statements = draft.script.statements in
    let x : NumberedStatement = record { line = n; statement = statement } in
    let has = subst (λ p. HasPass p statement) (f.mode draft.script.passes) (saying_read (passes_of draft.mode draft.script.passes) line statement e) in
    let parts = or_parts (is_worker draft.mode && is_of_open_change statement) (is_misplaced statements statement || is_taken (file_of statement) (files_before draft)) place in
    let closed : is_of_open_change statement ≡ false = subst (λ b. (b && is_of_open_change statement) ≡ false) f.worker parts.0 in
    let placed = (or_parts (is_misplaced statements statement) (is_taken (file_of statement) (files_before draft)) parts.1).0 in
    record {
      mode = f.mode;
      worker = f.worker;
      may = may_more false statements x f.may (fits_there statements (behind_all false statements) statement has closed placed f.inside);
      inside = in_behind_more 0 statements x ∙ moves_alike (is_in_behind 0 statements) statement has ∙ ap (λ b. stands_in b statement) f.inside ∙ sym (behind_more false statements x);
    }

turn_fits : (draft next : DraftValue) (n : ℕ) (line : List ℕ) → Turn draft n line next → Fits draft → Fits next
turn_fits draft next n line (Silent h same) f = subst Fits (sym same) f
turn_fits draft next n line (Said s h e place same) f = subst Fits (sym same) (said_fits draft n line s e place f)

lines_fit : (texts : List (List ℕ)) (draft out : DraftValue) (n : ℕ) → with_lines draft n texts ≡ Ok out → Fits draft → Fits out
unfolding with_lines
lines_fit [] draft out n h f = let same : draft ≡ out = cc in subst Fits same f
lines_fit (line ∷ others) draft out n h f =
    let t = lines_turn draft out n line others h in
    lines_fit others t.0 out (n + 1) t.2 (turn_fits draft t.0 n line t.1 f)

nothing_in : is_in_behind 0 [] ≡ false
unfolding is_in_behind
nothing_in = refl

script_runnable : (mode : Mode) → ((n : ℕ) → passes_of mode n ≡ 1) → is_worker mode ≡ true → (before : List ScriptValue) (bytes : List ℕ) (script : ScriptValue) → script_in mode before bytes ≡ Ok script → IsRunnable script
unfolding script_in
script_runnable mode one worker before bytes script h =
    let d = bind_ok (with_lines (no_lines mode before) 1 (lines bytes)) (λ (draft : DraftValue). Ok draft.script) script h in
    let same : d.0.script ≡ script = cc (d.2) in
    let f = lines_fit (lines bytes) (no_lines mode before) d.0 1 d.1 (record { mode = one; worker = worker; may = tt; inside = nothing_in }) in
    (script_rises mode before bytes script h, subst (λ (s : ScriptValue). MayRun false s.statements) same f.may)

-- ---- the scripts of a job

scripts_runnable : (mode later : Mode) → ((n : ℕ) → passes_of mode n ≡ 1) → is_worker mode ≡ true → ((n : ℕ) → passes_of later n ≡ 1) → is_worker later ≡ true
    → (before : List ScriptValue) (contents : List (List ℕ)) (scripts : List ScriptValue) → scripts_from mode later before contents ≡ Ok scripts → All IsRunnable before → All IsRunnable scripts
unfolding scripts_from
scripts_runnable mode later one worker one' worker' before [] scripts is all = subst (All IsRunnable) (let same : before ≡ scripts = cc in same) all
scripts_runnable mode later one worker one' worker' before (bytes ∷ contents) scripts is all =
    let b = bind_ok (numbered (length before + 1) (script_in mode before bytes)) (λ (script : ScriptValue). scripts_from later later (before ++ script ∷ []) contents) scripts is in
    let read = numbered_ok (length before + 1) (script_in mode before bytes) b.0 b.1 in
    scripts_runnable later later one' worker' one' worker' (before ++ b.0 ∷ []) contents scripts b.2
    (All-append IsRunnable before (b.0 ∷ []) all (All-cons IsRunnable b.0 [] (script_runnable mode one worker before bytes b.0 read) (All-nil IsRunnable)))

pub job_runnable : (contents : List (List ℕ)) (job : Job) → IsJob SIDE_BY_SIDE contents job → All IsRunnable job.scripts
job_runnable [] job is = absurd is
job_runnable (core ∷ contents) job is = scripts_runnable SIDE_BY_SIDE.first SIDE_BY_SIDE.later (λ n. refl) refl (λ n. refl) refl [] contents job.scripts is.1 (All-nil IsRunnable)
