-- What a worker's statements did, kept as one statement more is taken.
use Rattle.std.proofs.Common.{◌≡◌, ℕ, suc, ◌+◌, ◌<◌, ◌≤◌, List, [], ◌∷◌, ◌++◌, length, take, get_or, slice_get, slice_index_or, Option, Some, None, refl, sym, ap, ◌∙◌, subst, length-append, append_assoc, append-nil, arith}
use Rattle.std.specs.List.{cons_option}
use Rattle.std.specs.Prelude.{IfSome}
use Rattle.std.specs.Io.KnownBytes.{append_known}
use Rattle.std.proofs.lemmas.List.{take_more, length-take, get_or_append_left}
use Rattle.std.proofs.lemmas.Option.{slice_get_within, get_or_from_slice_get}
use Rattle.plcr_machine.proofs.Cases.{at_or_else}
use Rattle.plcr_macho.specs.Images.{Listed}
use Rattle.plcr_imagelist.specs.Holds.{WalkerState}
use Rattle.plcr_script.specs.declared.statements.Statement.{Statement}
use Rattle.plcr_script.specs.declared.statements.Statement.TheVariants as stated
use Rattle.plcr_script.specs.declared.statements.NumberedStatement.{NumberedStatement}
use Rattle.plcr_script.specs.Reading.{file_of, files_of}
use Rattle.plcr_turns.specs.declared.view.View.{View}
use Rattle.plcr_workers.specs.declared.acting.Took.{Took}
use Rattle.plcr_workers.specs.declared.acting.Took.TheVariants.{Silent, Said, Unwritten}
use Rattle.plcr_workers.specs.declared.drafts.Draft.{Draft}
use Rattle.plcr_workers.specs.declared.lines.PassLine.{PassLine}
use Rattle.plcr_workers.specs.declared.lines.PassSaid.TheVariants.{Entered, Walked, Left, Reported}
use Rattle.plcr_workers.specs.declared.places.Place.{Place}
use Rattle.plcr_workers.specs.declared.places.Place.TheVariants.{Out, In}
use Rattle.plcr_workers.specs.Asking.{asked_in}
use Rattle.plcr_workers.specs.inner.Drafts.{TakesOutputs, WritesNext, next_after}
use Rattle.plcr_workers.specs.inner.Moves.{Acts, Does, NextGains, ReportsFrom, ReportsInto}
use Rattle.plcr_workers.specs.inner.Places.{PassGoes, walker_of}
use Rattle.plcr_workers.specs.inner.Traces.{Applies, HasTraced, HaveGained, IsWell, Ran, lines_said}
use Rattle.plcr_workers.proofs.Outputs.{below_next, different, no_report_next, there_is, written_of}

-- ---- one statement more

pub ran_more : (report : List Listed → List ℕ) (script at n : ℕ) (statements : List NumberedStatement) (s : NumberedStatement) (p : Place) (v : View) (lines : List PassLine) (wrote : List (List ℕ)) (q : Place) (w : View) (took : Took) (reports : List (List ℕ)) (to : Place) (u : View)
    → n ≡ at + length statements → Ran report script at statements p v lines wrote q w
    → IsWell took → Does report s.statement q to took reports → Applies script s.line (asked_in s.statement) (walker_of q).history w (walker_of to).history u → PassGoes (walker_of q) (walker_of to)
    → Ran report script at (statements ++ s ∷ []) p v (lines ++ lines_said n took) (wrote ++ reports) to u
ran_more report script at n [] s p v lines wrote q w took reports to u count ran well does applies goes = record {
  place = to;
  sees = u;
  took = took;
  reports = reports;
  more = [];
  later = [];
  lines_are = ap (λ (l : List PassLine). l ++ lines_said n took) ran.2 ∙ (let here : n ≡ at = omega (arith, count) in ap (λ k. lines_said k took) here) ∙ sym (append-nil (lines_said at took));
  wrote_are = ap (λ (r : List (List ℕ)). r ++ reports) ran.3 ∙ sym (append-nil reports);
  well = well;
  does = subst (λ (x : Place). Does report s.statement x to took reports) ran.0 does;
  applies = subst (λ (x : View). Applies script s.line (asked_in s.statement) (walker_of p).history x (walker_of to).history u) ran.1
      (subst (λ (x : Place). Applies script s.line (asked_in s.statement) (walker_of x).history w (walker_of to).history u) ran.0 applies);
  goes = subst (λ (x : Place). PassGoes (walker_of x) (walker_of to)) ran.0 goes;
  rest = (refl, refl, refl, refl);
}
ran_more report script at n (first ∷ statements) s p v lines wrote q w took reports to u count ran well does applies goes = record {
  place = ran.place;
  sees = ran.sees;
  took = ran.took;
  reports = ran.reports;
  more = ran.more ++ lines_said n took;
  later = ran.later ++ reports;
  lines_are = ap (λ (l : List PassLine). l ++ lines_said n took) ran.lines_are ∙ append_assoc (lines_said at ran.took) ran.more (lines_said n took);
  wrote_are = ap (λ (r : List (List ℕ)). r ++ reports) ran.wrote_are ∙ append_assoc ran.reports ran.later reports;
  well = ran.well;
  does = ran.does;
  applies = ran.applies;
  goes = ran.goes;
  rest = ran_more report script (suc at) n statements s ran.place ran.sees ran.more ran.later q w took reports to u (omega (arith, count)) ran.rest well does applies goes;
}

is_well : (took : Took) (next more : ℕ) → next_after took next ≡ Some more → IsWell took
is_well Silent next more e = tt
is_well (Said said) next more e = tt
is_well Unwritten next more e = absurd cc

-- how many reports a statement wrote
none_written : (report : List Listed → List ℕ) (statement : Statement) (old new : Place) (took : Took) (wrote : List (List ℕ)) → file_of statement ≡ None → Does report statement old new took wrote → wrote ≡ []
none_written report (stated.Load header name) old new took wrote e d = d.1
none_written report (stated.Unload header) old new took wrote e d = d.1
none_written report (stated.BeginLoad header name) old new took wrote e d = d.1
none_written report (stated.BeginUnload header) old new took wrote e d = d.1
none_written report (stated.Step most) old new took wrote e d = d.1
none_written report stated.End old new took wrote e d = d.1
none_written report (stated.Enter pass) old new took wrote e d = d.1
none_written report (stated.Walk pass most) old new took wrote e d = d.1
none_written report (stated.Leave pass) old new took wrote e d = d.1
none_written report (stated.Report pass file) old new took wrote e d = absurd cc

one_from : (report : List Listed → List ℕ) (inside : _) (new : WalkerState) (took : Took) (wrote : List (List ℕ)) → IsWell took → ReportsFrom report inside new took wrote → length wrote ≡ 1
one_from report inside new Silent wrote well f = absurd f.says
one_from report inside new (Said Entered) wrote well f = absurd f.says
one_from report inside new (Said (Walked met ended)) wrote well f = absurd f.says
one_from report inside new (Said (Left met low high)) wrote well f = absurd f.says
one_from report inside new (Said (Reported bytes images low high)) wrote well f = ap length f.says.4
one_from report inside new Unwritten wrote well f = absurd well

one_into : (report : List Listed → List ℕ) (old new : Place) (took : Took) (wrote : List (List ℕ)) → IsWell took → ReportsInto report old new took wrote → length wrote ≡ 1
one_into report (Out old) (Out new) took wrote well r = one_from report r.0 new took wrote well r.2
one_into report (In old) (Out new) took wrote well r = one_from report old new took wrote well r
one_into report old (In new) took wrote well r = absurd r

one_written : (report : List Listed → List ℕ) (statement : Statement) (file : List ℕ) (old new : Place) (took : Took) (wrote : List (List ℕ)) → IsWell took → file_of statement ≡ Some file → Does report statement old new took wrote → length wrote ≡ 1
one_written report (stated.Load header name) file old new took wrote well e d = absurd cc
one_written report (stated.Unload header) file old new took wrote well e d = absurd cc
one_written report (stated.BeginLoad header name) file old new took wrote well e d = absurd cc
one_written report (stated.BeginUnload header) file old new took wrote well e d = absurd cc
one_written report (stated.Step most) file old new took wrote well e d = absurd cc
one_written report stated.End file old new took wrote well e d = absurd cc
one_written report (stated.Enter pass) file old new took wrote well e d = absurd cc
one_written report (stated.Walk pass most) file old new took wrote well e d = absurd cc
one_written report (stated.Leave pass) file old new took wrote well e d = absurd cc
one_written report (stated.Report pass name) file old new took wrote well e d = one_into report old new took wrote well d

-- ---- what outputs gained

one_list : {A : Type 0} (xs : List A) → length xs ≡ 1 → (x : A) × (xs ≡ x ∷ [])
one_list [] e = absurd (omega (arith, e))
one_list (x ∷ []) e = (x, refl)
one_list (x ∷ y ∷ xs) e = absurd (omega (arith, e))

last_or : {A : Type 0} (xs : List A) (x d : A) → get_or (xs ++ x ∷ []) (length xs) d ≡ x
last_or [] x d = refl
last_or (y ∷ xs) x d = last_or xs x d

gained_more : {K : Type 0} (written : K → Option (List ℕ)) (faults : K → ℕ) (tells : Draft K → Draft K → Type 0) (took : Took) (wrote : List (List ℕ)) (bytes : List ℕ) (next : ℕ) (first old new : List (Draft K)) → length wrote ≡ next → next < length old
    → ((other : Draft K) → slice_index_or old next other ≡ slice_index_or first next other) → WritesNext faults tells next took old new → NextGains written next (bytes ∷ []) old new → HaveGained written wrote first old
    → HaveGained written (wrote ++ bytes ∷ []) first new
gained_more {K} written faults tells took wrote bytes next first old new count within same w gains gained k d other less =
    at_or_else next k
    (λ (e : next ≡ k).
    let here : get_or (wrote ++ bytes ∷ []) next d ≡ bytes = subst (λ n. get_or (wrote ++ bytes ∷ []) n d ≡ bytes) count (last_or wrote bytes d) in
    subst (λ n. written (slice_index_or new n other).out ≡ append_known (written (slice_index_or first n other).out) (get_or (wrote ++ bytes ∷ []) n d)) e
    (gains other ∙ ap (λ (x : Draft K). append_known (written x.out) bytes) (same other) ∙ ap (append_known (written (slice_index_or first next other).out)) (sym here)))
    (λ f.
    let not_next = different next k f in
    let long = length-append wrote (bytes ∷ []) in
    let below : k < length wrote = (let b = below_next k next not_next (omega (arith, less, long, count)) in omega (arith, b, count)) in
    ap (λ (x : Draft K). written x.out) (there_is faults tells next took old new w k other not_next) ∙ gained k d other below
    ∙ ap (append_known (written (slice_index_or first k other).out)) (sym (get_or_append_left wrote (bytes ∷ []) d k below)))

-- a statement was taken, and no output failed
pub traced_on : {K : Type 0} (written : K → Option (List ℕ)) (report : List Listed → List ℕ) (faults : K → ℕ) (tells : Draft K → Draft K → Type 0) (script : ℕ) (statements : List NumberedStatement) (at line next more : ℕ) (statement : Statement) (took : Took)
    (p : Place) (v : View) (q : Place) (w : View) (to : Place) (u : View) (lines all : List PassLine) (first old new : List (Draft K)) → slice_get statements at ≡ Some (record { line = line; statement = statement })
    → all ≡ lines ++ lines_said at took → IfSome (file_of statement) (λ f. next < length old) → ((k : ℕ) (other : Draft K) → k < length old → next ≤ k → slice_index_or old k other ≡ slice_index_or first k other)
    → TakesOutputs faults tells next (file_of statement) took old new → next_after took next ≡ Some more → Acts written report statement q to took next old new
    → Applies script line (asked_in statement) (walker_of q).history w (walker_of to).history u → PassGoes (walker_of q) (walker_of to)
    → HasTraced written report script (take at statements) p v q w lines next first old → HasTraced written report script (take (at + 1) statements) p v to u all more first new
traced_on {K} written report faults tells script statements at line next more statement took p v q w to u lines all first old new e lines_are within same takes after acts applies goes t =
    record { wrote = t.wrote ++ acts.wrote; ran = ran; count = (gained (file_of statement) refl within takes).0; gained = (gained (file_of statement) refl within takes).1 }
  where
    s : NumberedStatement
    s = record { line = line; statement = statement }

    well : IsWell took
    well = is_well took next more after

    there : at < length statements
    there = slice_get_within statements at s e

    one_more : take (at + 1) statements ≡ take at statements ++ s ∷ []
    one_more = take_more statements at s there ∙ ap (λ (x : NumberedStatement). take at statements ++ x ∷ []) (get_or_from_slice_get statements at s s e)

    long : at ≡ 0 + length (take at statements)
    long = (let n = length-take at statements in omega (arith, n, there))

    ran : Ran report script 0 (take (at + 1) statements) p v all (t.wrote ++ acts.wrote) to u
    ran = subst (λ (l : List PassLine). Ran report script 0 (take (at + 1) statements) p v l (t.wrote ++ acts.wrote) to u) (sym lines_are)
        (subst (λ (l : List NumberedStatement). Ran report script 0 l p v (lines ++ lines_said at took) (t.wrote ++ acts.wrote) to u) (sym one_more)
        (ran_more report script 0 at (take at statements) s p v lines t.wrote q w took acts.wrote to u long t.ran well acts.does applies goes))

    gained : (file : Option (List ℕ)) → file_of statement ≡ file → IfSome file (λ f. next < length old) → TakesOutputs faults tells next file took old new → (length (t.wrote ++ acts.wrote) ≡ more) × HaveGained written (t.wrote ++ acts.wrote) first new
    gained None is within takes =
        let none = none_written report statement q to took acts.wrote is acts.does in
        let all : t.wrote ++ acts.wrote ≡ t.wrote = ap (λ (r : List (List ℕ)). t.wrote ++ r) none ∙ append-nil t.wrote in (
          ap length all ∙ t.count ∙ sym (no_report_next took next more takes.1 after),
          subst (λ (r : List (List ℕ)). HaveGained written r first new) (sym all) (subst (λ (ds : List (Draft K)). HaveGained written t.wrote first ds) (sym takes.0) t.gained),
        )
    gained (Some file) is within takes =
        let one = one_list acts.wrote (one_written report statement file q to took acts.wrote well is acts.does) in
        let bytes = one.0 in
        let did = written_of faults tells took next more (slice_index_or old next takes.is) takes.is (takes.did takes.is) after in
        let count = t.count in
        let long = length-append t.wrote (bytes ∷ []) in
        let next_is = did.0 in
        subst (λ (r : List (List ℕ)). (length (t.wrote ++ r) ≡ more) × HaveGained written (t.wrote ++ r) first new) (sym one.1) (
          omega (arith, long, count, next_is),
          gained_more written faults tells took t.wrote bytes next first old new count within (λ other. same next other within (omega arith)) takes
              (subst (λ (r : List (List ℕ)). NextGains written next r old new) one.1 acts.gains) t.gained,
        )

pub nothing_traced : {K : Type 0} (written : K → Option (List ℕ)) (report : List Listed → List ℕ) (script : ℕ) (p : Place) (v : View) (lines : List PassLine) (drafts : List (Draft K)) → lines ≡ [] → HasTraced written report script [] p v p v lines 0 drafts drafts
nothing_traced written report script p v lines drafts none = record { wrote = []; ran = (refl, refl, none, refl); count = refl; gained = λ k bytes other less. absurd (omega (arith, less)) }

-- how many reports statements wrote in all: as many as they have files
pub ran_count : (report : List Listed → List ℕ) (script at : ℕ) (statements : List NumberedStatement) (p : Place) (v : View) (lines : List PassLine) (wrote : List (List ℕ)) (q : Place) (w : View) → Ran report script at statements p v lines wrote q w → length wrote ≡ length (files_of statements)
ran_count report script at [] p v lines wrote q w ran = ap length ran.3
ran_count report script at (s ∷ statements) p v lines wrote q w ran = of (file_of s.statement) refl (ran_count report script (suc at) statements ran.place ran.sees ran.more ran.later q w ran.rest)
  where
    of : (file : Option (List ℕ)) → file_of s.statement ≡ file → length ran.later ≡ length (files_of statements) → length wrote ≡ length (files_of (s ∷ statements))
    of None is rest =
        let none = ap length (none_written report s.statement p ran.place ran.took ran.reports is ran.does) in
        let parts = ap length ran.wrote_are ∙ length-append ran.reports ran.later in
        let files : length (files_of (s ∷ statements)) ≡ length (files_of statements) = ap (λ (f : Option (List ℕ)). length (cons_option f (files_of statements))) is in
        omega (arith, none, parts, files, rest)
    of (Some file) is rest =
        let one = one_written report s.statement file p ran.place ran.took ran.reports ran.well is ran.does in
        let parts = ap length ran.wrote_are ∙ length-append ran.reports ran.later in
        let files : length (files_of (s ∷ statements)) ≡ suc (length (files_of statements)) = ap (λ (f : Option (List ℕ)). length (cons_option f (files_of statements))) is in
        omega (arith, one, parts, files, rest)
