-- A script that ran whole on a worker: its lines, stays and files are those of a run of its statements in the history that the writer has seen in the end.
use Rattle.std.proofs.Common.{◌≡◌, ℕ, suc, ◌≤◌, true, false, List, [], ◌∷◌, ◌++◌, length, All, None, leb, leb-true, leb-false, refl, sym, ap, ◌∙◌, subst, arith}
use Rattle.std.proofs.lemmas.List.Elements.{All-nil, All-cons}
use Rattle.plcr_machine.proofs.Cases.{by_cases, not_both}
use Rattle.plcr_machine.specs.declared.entry.Entry.{Entry}
use Rattle.plcr_machine.specs.Lists.{Grows, changes}
use Rattle.plcr_machine.specs.Parts.{own_entries}
use Rattle.plcr_imagelist.specs.Holds.{WalkerState, HoldState}
use Rattle.plcr_imagelist.specs.States.{WriterState, IsAtRest}
use Rattle.plcr_imagelist.proofs.Sees.{sees_again, sees_itself}
use Rattle.plcr_script.specs.declared.statements.Statement.{Statement}
use Rattle.plcr_script.specs.declared.statements.Statement.TheVariants as stated
use Rattle.plcr_script.specs.declared.statements.NumberedStatement.{NumberedStatement}
use Rattle.plcr_script.specs.Reading.{files_of}
use Rattle.plcr_script.specs.Scripts.{ScriptValue}
use Rattle.plcr_turns.specs.declared.lines.ChangeLine.{ChangeLine}
use Rattle.plcr_turns.specs.declared.view.View.{View}
use Rattle.plcr_turns.specs.Lines.{accepted}
use Rattle.plcr_workers.specs.declared.acting.Took.{Took}
use Rattle.plcr_workers.specs.declared.acting.Took.TheVariants.{Silent, Said}
use Rattle.plcr_workers.specs.declared.lines.PassLine.{PassLine}
use Rattle.plcr_workers.specs.declared.lines.PassSaid.TheVariants.{Entered, Walked, Left}
use Rattle.plcr_workers.specs.declared.places.Place.{Place}
use Rattle.plcr_workers.specs.declared.places.Place.TheVariants.{Out, In}
use Rattle.plcr_workers.specs.Asking.{asked_in}
use Rattle.plcr_workers.specs.inner.Moves.{Does, ComesOut}
use Rattle.plcr_workers.specs.inner.Places.{walker_of}
use Rattle.plcr_workers.specs.inner.Traces.{IsWell, MayRun, MayStand, Ran, Rise, lines_said, stands_in}
use Rattle.plcr_workers.specs.inner.Visits.{KnownStay, stay_by}
use Rattle.plcr_workers.specs.Scripts.{IsScriptRun}
use Rattle.plcr_workers.specs.Stays.{FollowOn, IsFresh, IsStay}
use Rattle.plcr_workers.proofs.Freshly.{AreBelow, below_next, early_accepted, goes_on, knows_next, later_lines, view_begins}
use Rattle.plcr_workers.proofs.Passing.{again}
use Rattle.plcr_workers.proofs.Stayed.{World, Opening, IsOpen, Opened, OutTold, InTold, Told, AreGood, by_names, pairs, ran_goes, out_goes}
use Rattle.plcr_workers.proofs.Traced.{Around, as_said, closed, closed_before, closed_entries, closed_inside, closed_known, closes, heard_in, heard_out, is_in, left_there, named_count, one, reported_in, reported_out, walked_on, went_in}
use Rattle.plcr_workers.proofs.Visited.{stay_is}

-- where no statement is left, the pass comes out
last_out : (W : World) (at : ℕ) (p : WalkerState) → W.final ≡ p → OutTold W at [] p [] []
last_out W at p e = record { stays = []; good = tt; follow = ap (λ (s : WalkerState). own_entries W.script s.history) e; tells = (refl, refl, refl, tt) }

last_in : (W : World) (at : ℕ) (o : Opening) (hold : HoldState) → IsOpen W o hold → ComesOut (In hold) W.final → InTold W at [] o hold [] []
last_in W at o hold is c =
    let low = c.0 in
    let high = c.1 in
    let out = c.2 in
    record {
      stay = closed o hold W.final low high None out;
      enter_is = refl;
      before_is = refl;
      known = closed_known W o hold W.final low high None is out;
      later = λ before line after e own behind. absurd behind;
      few = omega arith;
      whole = λ e. (e, refl);
      own_before = closed_before W o is.number;
      own_inside = closed_inside W o hold W.final low high is out;
      stays = [];
      good = tt;
      follow = closed_entries W o hold W.final low high is out;
      tells = (refl, refl, refl, record { leave_is = refl; met_is = named_count W.names hold.met; ended_is = refl });
    }

last : (W : World) (at : ℕ) (p : Place) (o : Opened W p) → ComesOut p W.final → Told W at [] p o [] []
last W at (Out p) o c = last_out W at p c
last W at (In hold) o c = last_in W at o.0 hold o.1 c

-- one statement, before what the others tell
step : (W : World) (at number : ℕ) (statement : Statement) (statements : List NumberedStatement) (p : Place) (o : Opened W p) (mid : Place) (took : Took) (wrote : List (List ℕ)) (more : List PassLine) (later : List (List ℕ))
    → Does W.process.report statement p mid took wrote → IsWell took → MayStand (is_in p) statement → Around W number (walker_of p) (walker_of mid)
    → ((q : Opened W mid) → Told W (suc at) statements mid q more later)
    → Told W at (one number statement ∷ statements) p o (lines_said at took ++ more) (wrote ++ later)
step W at number (stated.Load header name) statements (Out old) o (Out new) took wrote more later does well may a rest =
    as_said W at (one number (stated.Load header name) ∷ statements) (Out old) o took Silent wrote [] more later does.0.1 does.1
    (heard_out W at (one number (stated.Load header name)) statements old new more later (λ spot lines stays files t. t) a.number_is does.0.0 (rest tt))
step W at number (stated.Load header name) statements (Out old) o (In new) took wrote more later does well may a rest = absurd does.0.0
step W at number (stated.Load header name) statements (In old) o (Out new) took wrote more later does well may a rest = absurd does.0.0
step W at number (stated.Load header name) statements (In old) o (In new) took wrote more later does well may a rest =
    let heard = does.0.0 in
    as_said W at (one number (stated.Load header name) ∷ statements) (In old) o took Silent wrote [] more later does.0.1 does.1
    (heard_in W at (one number (stated.Load header name)) statements o.0 old new more later (λ spot lines stays files t. t) heard.1 heard.2
    (rest (o.0, record { number = o.1.number; sees = sees_again o.0.early.walker old.walker new.walker o.1.sees heard.0; walking = heard.3 })))
step W at number (stated.Unload header) statements (Out old) o (Out new) took wrote more later does well may a rest =
    as_said W at (one number (stated.Unload header) ∷ statements) (Out old) o took Silent wrote [] more later does.0.1 does.1
    (heard_out W at (one number (stated.Unload header)) statements old new more later (λ spot lines stays files t. t) a.number_is does.0.0 (rest tt))
step W at number (stated.Unload header) statements (Out old) o (In new) took wrote more later does well may a rest = absurd does.0.0
step W at number (stated.Unload header) statements (In old) o (Out new) took wrote more later does well may a rest = absurd does.0.0
step W at number (stated.Unload header) statements (In old) o (In new) took wrote more later does well may a rest =
    let heard = does.0.0 in
    as_said W at (one number (stated.Unload header) ∷ statements) (In old) o took Silent wrote [] more later does.0.1 does.1
    (heard_in W at (one number (stated.Unload header)) statements o.0 old new more later (λ spot lines stays files t. t) heard.1 heard.2
    (rest (o.0, record { number = o.1.number; sees = sees_again o.0.early.walker old.walker new.walker o.1.sees heard.0; walking = heard.3 })))
step W at number (stated.BeginLoad header name) statements p o mid took wrote more later does well may a rest = absurd may
step W at number (stated.BeginUnload header) statements p o mid took wrote more later does well may a rest = absurd may
step W at number (stated.Step most) statements p o mid took wrote more later does well may a rest = absurd may
step W at number stated.End statements p o mid took wrote more later does well may a rest = absurd may
step W at number (stated.Enter pass) statements (Out old) o (Out new) took wrote more later does well may a rest = absurd does.0
step W at number (stated.Enter pass) statements (Out old) o (In new) took wrote more later does well may a rest =
    let did = does.0 in
    let opening : Opening = record { was = old; early = new; held = did.0; enter = number } in
    as_said W at (one number (stated.Enter pass) ∷ statements) (Out old) o took (Said Entered) wrote [] more later did.2 does.1
    (went_in W at number pass statements old new did.0 more later a
    (rest (opening, record { number = a.number_is; sees = sees_itself new.walker did.1.known did.1.short; walking = did.1 })))
step W at number (stated.Enter pass) statements (In old) o mid took wrote more later does well may a rest = not_both true refl may
step W at number (stated.Walk pass most) statements (Out old) o mid took wrote more later does well may a rest = not_both false may refl
step W at number (stated.Walk pass most) statements (In old) o (Out new) took wrote more later does well may a rest = absurd does.0
step W at number (stated.Walk pass most) statements (In old) o (In new) took wrote more later does well may a rest =
    let did = does.0 in
    as_said W at (one number (stated.Walk pass most) ∷ statements) (In old) o took (Said (Walked (length new.met) new.ended)) wrote [] more later did.3 does.1
    (walked_on W at number pass most statements o.0 old new more later did.0
    (rest (o.0, record { number = o.1.number; sees = sees_again o.0.early.walker old.walker new.walker o.1.sees did.1; walking = did.2 })))
step W at number (stated.Leave pass) statements (Out old) o mid took wrote more later does well may a rest = not_both false may refl
step W at number (stated.Leave pass) statements (In old) o (In new) took wrote more later does well may a rest = absurd does.0
step W at number (stated.Leave pass) statements (In old) o (Out new) took wrote more later does well may a rest =
    let did = does.0 in
    as_said W at (one number (stated.Leave pass) ∷ statements) (In old) o took (Said (Left (length old.met) did.0 did.1)) wrote [] more later did.3 does.1
    (left_there W at number pass statements o.0 old new did.0 did.1 more later o.1 did.2 a (rest tt))
step W at number (stated.Report pass file) statements p o (In new) took wrote more later does well may a rest = absurd does
step W at number (stated.Report pass file) statements (Out old) o (Out new) took wrote more later does well may a rest =
    let inside = does.0 in
    let opening : Opening = record { was = old; early = inside; held = does.1; enter = number } in
    reported_out W at number pass file statements old inside does.1 took wrote more later a.earlier
    (closes W at number file statements opening inside new took wrote more later
    (record { number = a.number_is; sees = sees_itself inside.walker does.2.begins.known does.2.begins.short; walking = does.2.begins }) a.to_final a.later well does.2 (rest tt))
step W at number (stated.Report pass file) statements (In old) o (Out new) took wrote more later does well may a rest =
    reported_in W at number pass file statements o.0 old took wrote more later (closes W at number file statements o.0 old new took wrote more later o.1 a.to_final a.later well does (rest tt))

-- what is known where a statement begins
record Here (W : World) (bound : ℕ) (p : WalkerState) (v : View) : Type 0 where
  number_is : p.number ≡ W.script
  below : AreBelow W.script W.journal v bound
  knows : accepted v.journal ≤ changes p.history

around : (W : World) (at bound : ℕ) (s : NumberedStatement) (statements : List NumberedStatement) (p : Place) (v : View) (lines : List PassLine) (wrote : List (List ℕ)) (ran : Ran W.process.report W.script at (s ∷ statements) p v lines wrote W.place W.view)
    → Rise bound (s ∷ statements) → Here W bound (walker_of p) v → AreBelow W.script W.journal ran.sees (suc s.line) → Around W s.line (walker_of p) (walker_of ran.place)
around W at bound s statements p v lines wrote ran rise here below = record {
  number_is = here.number_is;
  goes = ran.goes;
  earlier = λ before line after e own less.
      by_cases (leb (length v.journal) (length before))
      (λ t. let l = (later_lines W.process.report W.script at (s ∷ statements) p v lines wrote W.place W.view W.journal s.line ran W.goes ((omega arith), rise.1) before line after e own (leb-true (length v.journal) (length before) t)).1 in absurd (omega (arith, l, less)))
      (λ f.
      let begins = goes_on W.script W.journal v W.view W.goes (view_begins W.process.report W.script at (s ∷ statements) p v lines wrote W.place W.view ran) in
      let few = early_accepted W.journal v begins.0 before line after begins.1 e (leb-false (length v.journal) (length before) f) in
      let knows = here.knows in
      omega (arith, few, knows));
  later = λ before line after e own behind.
      by_cases (leb (length ran.sees.journal) (length before))
      (λ t. (later_lines W.process.report W.script (suc at) statements ran.place ran.sees ran.more ran.later W.place W.view W.journal (suc s.line) ran.rest W.goes rise.1 before line after e own (leb-true (length ran.sees.journal) (length before) t)).0)
      (λ f. let b = below before line after e own (leb-false (length ran.sees.journal) (length before) f) in absurd (omega (arith, b, behind)));
  to_final = again (walker_of ran.place) (walker_of W.place) W.final (ran_goes W.process.report W.script (suc at) statements ran.place ran.sees ran.more ran.later W.place W.view ran.rest) (out_goes W.place W.final W.out);
}

here_next : (W : World) (at bound : ℕ) (s : NumberedStatement) (statements : List NumberedStatement) (p : Place) (v : View) (lines : List PassLine) (wrote : List (List ℕ)) (ran : Ran W.process.report W.script at (s ∷ statements) p v lines wrote W.place W.view)
    → Rise bound (s ∷ statements) → Here W bound (walker_of p) v → Here W (suc s.line) (walker_of ran.place) ran.sees
here_next W at bound s statements p v lines wrote ran rise here =
    let begins = goes_on W.script W.journal ran.sees W.view W.goes (view_begins W.process.report W.script (suc at) statements ran.place ran.sees ran.more ran.later W.place W.view ran.rest) in
    record {
      number_is = ran.goes.number ∙ here.number_is;
      below = below_next W.script s.line bound (asked_in s.statement) (walker_of p).history v (walker_of ran.place).history ran.sees W.journal begins.0 ran.applies begins.1 rise.0 here.below;
      knows = knows_next W.script s.line (asked_in s.statement) (walker_of p).history v (walker_of ran.place).history ran.sees ran.applies ran.goes.grows here.knows;
    }

-- behind a statement the pass is where it leads
stands_there : (report : _) (statement : Statement) (p mid : Place) (took : Took) (wrote : List (List ℕ)) → Does report statement p mid took wrote → MayStand (is_in p) statement → stands_in (is_in p) statement ≡ is_in mid
stands_there report (stated.Load header name) (Out old) (Out new) took wrote does may = refl
stands_there report (stated.Load header name) (Out old) (In new) took wrote does may = absurd does.0.0
stands_there report (stated.Load header name) (In old) (Out new) took wrote does may = absurd does.0.0
stands_there report (stated.Load header name) (In old) (In new) took wrote does may = refl
stands_there report (stated.Unload header) (Out old) (Out new) took wrote does may = refl
stands_there report (stated.Unload header) (Out old) (In new) took wrote does may = absurd does.0.0
stands_there report (stated.Unload header) (In old) (Out new) took wrote does may = absurd does.0.0
stands_there report (stated.Unload header) (In old) (In new) took wrote does may = refl
stands_there report (stated.BeginLoad header name) p mid took wrote does may = absurd may
stands_there report (stated.BeginUnload header) p mid took wrote does may = absurd may
stands_there report (stated.Step most) p mid took wrote does may = absurd may
stands_there report stated.End p mid took wrote does may = absurd may
stands_there report (stated.Enter pass) (Out old) (Out new) took wrote does may = absurd does.0
stands_there report (stated.Enter pass) (Out old) (In new) took wrote does may = refl
stands_there report (stated.Enter pass) (In old) mid took wrote does may = not_both true refl may
stands_there report (stated.Walk pass most) (Out old) mid took wrote does may = not_both false may refl
stands_there report (stated.Walk pass most) (In old) (Out new) took wrote does may = absurd does.0
stands_there report (stated.Walk pass most) (In old) (In new) took wrote does may = refl
stands_there report (stated.Leave pass) (Out old) mid took wrote does may = not_both false may refl
stands_there report (stated.Leave pass) (In old) (Out new) took wrote does may = refl
stands_there report (stated.Leave pass) (In old) (In new) took wrote does may = absurd does.0
stands_there report (stated.Report pass file) p (Out new) took wrote does may = refl
stands_there report (stated.Report pass file) p (In new) took wrote does may = absurd does

-- what statements tell, from the first on
told : (W : World) (at bound : ℕ) (statements : List NumberedStatement) (p : Place) (o : Opened W p) (v : View) (lines : List PassLine) (wrote : List (List ℕ)) → Ran W.process.report W.script at statements p v lines wrote W.place W.view
    → Rise bound statements → MayRun (is_in p) statements → Here W bound (walker_of p) v → Told W at statements p o lines wrote
told W at bound [] p o v lines wrote ran rise may here =
    subst (λ (l : List PassLine). Told W at [] p o l wrote) (sym ran.2)
    (subst (λ (r : List (List ℕ)). Told W at [] p o [] r) (sym ran.3) (last W at p o (subst (λ (q : Place). ComesOut q W.final) ran.0 W.out)))
told W at bound (s ∷ statements) p o v lines wrote ran rise may here =
    let next = here_next W at bound s statements p v lines wrote ran rise here in
    subst (λ (l : List PassLine). Told W at (s ∷ statements) p o l wrote) (sym ran.lines_are)
    (subst (λ (r : List (List ℕ)). Told W at (s ∷ statements) p o (lines_said at ran.took ++ ran.more) r) (sym ran.wrote_are)
    (step W at s.line s.statement statements p o ran.place ran.took ran.reports ran.more ran.later ran.does ran.well may.0
    (around W at bound s statements p v lines wrote ran rise here next.below)
    (λ q. told W (suc at) (suc s.line) statements ran.place q ran.sees ran.more ran.later ran.rest rise.1 (subst (λ b. MayRun b statements) (stands_there W.process.report s.statement p ran.place ran.took ran.reports ran.does may.0) may.1) next)))

-- ---- the whole script, in what the writer has seen

pub record Ended (W : World) (w : WriterState) : Type 0 where
  pub names_are : W.names ≡ w.names
  pub rest : IsAtRest w
  pub grows : Grows W.final.history w.history
  pub own : own_entries W.script w.history ≡ own_entries W.script W.final.history

are_stays : (W : World) (w : WriterState) → Ended W w → W.final.number ≡ W.script → (stays : List KnownStay) → AreGood W stays → All (IsStay w W.script) (by_names W.names stays)
are_stays W w ended number [] good = All-nil (IsStay w W.script)
are_stays W w ended number (stay ∷ stays) good =
    All-cons (IsStay w W.script) (stay_by W.names stay) (by_names W.names stays)
    (subst (λ n. IsStay w n (stay_by W.names stay)) number (subst (λ names. IsStay w W.final.number (stay_by names stay)) (sym ended.names_are) (stay_is W.final w stay ended.rest ended.grows good.0.known)))
    (are_stays W w ended number stays good.1)

are_fresh : (W : World) (before : List ChangeLine) (line : ChangeLine) (after : List ChangeLine) → W.journal ≡ before ++ line ∷ after → (stays : List KnownStay) → AreGood W stays → All (λ stay. IsFresh W.script stay before line) (by_names W.names stays)
are_fresh W before line after e [] good = All-nil (λ stay. IsFresh W.script stay before line)
are_fresh W before line after e (stay ∷ stays) good =
    All-cons (λ s. IsFresh W.script s before line) (stay_by W.names stay) (by_names W.names stays)
    (record { earlier = λ own less. good.0.earlier before line after e own less; later = λ own behind. good.0.later before line after e own behind })
    (are_fresh W before line after e stays good.1)

pub script_ran : (W : World) (w : WriterState) (value : ScriptValue) (old : WalkerState) (v : View) (lines : List PassLine) (wrote : List (List ℕ)) → Ran W.process.report W.script 0 value.statements (Out old) v lines wrote W.place W.view
    → Rise 0 value.statements → MayRun false value.statements → old.number ≡ W.script → own_entries W.script old.history ≡ [] → v.journal ≡ []
    → Ended W w → IsScriptRun W.process w W.journal W.script value lines (pairs (files_of value.statements) wrote)
script_ran W w value old v lines wrote ran rise may number none new ended =
    let empty : length v.journal ≡ 0 = ap length new in
    let r = told W 0 0 value.statements (Out old) tt v lines wrote ran rise may (record {
      number_is = number;
      below = λ before line after e own less. absurd (omega (arith, empty, less));
      knows = (let zero_of = ap accepted new in omega (arith, zero_of));
    }) in
    let goes = again old (walker_of W.place) W.final (ran_goes W.process.report W.script 0 value.statements (Out old) v lines wrote W.place W.view ran) (out_goes W.place W.final W.out) in
    record {
      stays = by_names W.names r.stays;
      tells = r.tells;
      are = are_stays W w ended (goes.number ∙ number) r.stays r.good;
      own = subst (λ (es : List Entry). FollowOn W.script [] (by_names W.names r.stays) es) (sym ended.own) (subst (λ (es : List Entry). FollowOn W.script es (by_names W.names r.stays) (own_entries W.script W.final.history)) none r.follow);
      fresh = λ before line after e. are_fresh W before line after e r.stays r.good;
    }
