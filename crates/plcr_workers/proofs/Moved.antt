-- What each statement does to the pass of a worker, and the reports that it wrote.
use Rattle.std.proofs.Common.{◌≡◌, ℕ, ◌<◌, List, [], length, slice_index_or, slice_set, Option, Some, None, true, false, refl, sym, ◌∙◌, subst}
use Rattle.std.specs.Prelude.{is_some}
use Rattle.std.proofs.lemmas.List.{get_or-set_same}
use Rattle.plcr_macho.specs.Images.{Listed}
use Rattle.plcr_imagelist.specs.Holds.{WalkerState, HoldState, IsWalking, IsReleased}
use Rattle.plcr_imagelist.specs.Carrying.{OnlySees}
use Rattle.plcr_imagelist.specs.Walk.{IsSameWalk}
use Rattle.plcr_imagelist.proofs.Sees.{sees_again, reading_sees}
use Rattle.plcr_run.specs.Walks.{IsToEnd}
use Rattle.plcr_script.specs.declared.statements.Statement.{Statement}
use Rattle.plcr_script.specs.declared.statements.Statement.TheVariants as stated
use Rattle.plcr_script.specs.Reading.{file_of}
use Rattle.plcr_machine.specs.declared.entry.Entry.{Entry}
use Rattle.plcr_turns.specs.declared.lines.Asked.{Asked}
use Rattle.plcr_turns.specs.declared.lines.Request.{Request}
use Rattle.plcr_turns.specs.declared.view.View.{View}
use Rattle.plcr_turns.specs.Lines.{asked_by}
use Rattle.plcr_turns.specs.Working.{AppliesLine}
use Rattle.plcr_workers.specs.declared.acting.Took.{Took}
use Rattle.plcr_workers.specs.declared.acting.Took.TheVariants.{Silent}
use Rattle.plcr_workers.specs.declared.drafts.Draft.{Draft}
use Rattle.plcr_workers.specs.declared.places.Place.{Place}
use Rattle.plcr_workers.specs.declared.places.Place.TheVariants.{Out, In}
use Rattle.plcr_workers.specs.Asking.{asked_in}
use Rattle.plcr_workers.specs.inner.Moves.{Acts, ComesIn, Does, GainsOf, Moves, NextGains, OnlyHears, Reports, ReportsFrom, ReportsInto, ReportsNext, SaysOf}
use Rattle.plcr_workers.specs.inner.Traces.{Applies}
use Rattle.plcr_workers.proofs.Reported.{get_or_any}

from_inside : (report : List Listed → List ℕ) (inside walked late : HoldState) (new : WalkerState) (took : Took) (wrote : List (List ℕ)) (low high : ℕ) → IsWalking inside → IsToEnd inside walked → walked.ended ≡ true → OnlySees inside.walker walked.walker → IsWalking walked → IsSameWalk walked late
    → IsReleased late new low high → SaysOf report late low high took wrote → ReportsFrom report inside new took wrote
from_inside report inside walked late new took wrote low high begins to_end ended sees walking same out says = record {
  begins = begins;
  walked = walked;
  late = late;
  to_end = to_end;
  met = same.met;
  ended = same.ended ∙ ended;
  walking = same.walking walking;
  sees = sees_again inside.walker walked.walker late.walker sees (reading_sees walked late walking same);
  low = low;
  high = high;
  out = out;
  says = says;
}

pub reports_moved : (report : List Listed → List ℕ) (place : Place) (inside walked late : HoldState) (new : WalkerState) (took : Took) (wrote : List (List ℕ)) (low high : ℕ) → ComesIn place inside → IsWalking inside → IsToEnd inside walked → walked.ended ≡ true → OnlySees inside.walker walked.walker → IsWalking walked
    → IsSameWalk walked late → IsReleased late new low high → SaysOf report late low high took wrote → Reports report place new took wrote
reports_moved report (Out old) inside walked late new took wrote low high comes begins to_end ended sees walking same out says = (inside, comes, from_inside report inside walked late new took wrote low high begins to_end ended sees walking same out says)
reports_moved report (In old) inside walked late new took wrote low high comes begins to_end ended sees walking same out says =
    subst (λ (h : HoldState). ReportsFrom report h new took wrote) comes (from_inside report inside walked late new took wrote low high begins to_end ended sees walking same out says)

-- ---- a statement, by its kind

pub does_hear : (report : List Listed → List ℕ) (statement : Statement) (asked : Asked) (old new : Place) → asked_in statement ≡ Some asked → OnlyHears old new → Does report statement old new Silent []
does_hear report (stated.Load header name) asked old new e heard = ((heard, refl), refl)
does_hear report (stated.Unload header) asked old new e heard = ((heard, refl), refl)
does_hear report (stated.BeginLoad header name) asked old new e heard = absurd cc
does_hear report (stated.BeginUnload header) asked old new e heard = absurd cc
does_hear report (stated.Step most) asked old new e heard = absurd cc
does_hear report stated.End asked old new e heard = absurd cc
does_hear report (stated.Enter pass) asked old new e heard = absurd cc
does_hear report (stated.Walk pass most) asked old new e heard = absurd cc
does_hear report (stated.Leave pass) asked old new e heard = absurd cc
does_hear report (stated.Report pass file) asked old new e heard = absurd cc

pub does_report : (report : List Listed → List ℕ) (statement : Statement) (old new : Place) (took : Took) (wrote : List (List ℕ)) → true ≡ is_some (file_of statement) → ReportsInto report old new took wrote → Does report statement old new took wrote
does_report report (stated.Load header name) old new took wrote e r = absurd cc
does_report report (stated.Unload header) old new took wrote e r = absurd cc
does_report report (stated.BeginLoad header name) old new took wrote e r = absurd cc
does_report report (stated.BeginUnload header) old new took wrote e r = absurd cc
does_report report (stated.Step most) old new took wrote e r = absurd cc
does_report report stated.End old new took wrote e r = absurd cc
does_report report (stated.Enter pass) old new took wrote e r = absurd cc
does_report report (stated.Walk pass most) old new took wrote e r = absurd cc
does_report report (stated.Leave pass) old new took wrote e r = absurd cc
does_report report (stated.Report pass file) old new took wrote e r = r

pub does_move : (report : List Listed → List ℕ) (statement : Statement) (old new : Place) (took : Took) → Moves statement old new took → Does report statement old new took []
does_move report (stated.Load header name) old new took m = (m, refl)
does_move report (stated.Unload header) old new took m = (m, refl)
does_move report (stated.BeginLoad header name) old new took m = (m, refl)
does_move report (stated.BeginUnload header) old new took m = (m, refl)
does_move report (stated.Step most) old new took m = (m, refl)
does_move report stated.End old new took m = (m, refl)
does_move report (stated.Enter pass) old new took m = (m, refl)
does_move report (stated.Walk pass most) old new took m = (m, refl)
does_move report (stated.Leave pass) old new took m = (m, refl)
does_move report (stated.Report pass file) old new took m = absurd m

-- a statement that isn't a report
pub no_file : (statement : Statement) → false ≡ is_some (file_of statement) → file_of statement ≡ None
no_file statement e = of (file_of statement) refl e
  where
    of : (file : Option (List ℕ)) → file_of statement ≡ file → false ≡ is_some file → file_of statement ≡ None
    of None is e = is
    of (Some file) is e = absurd cc

-- ---- outputs

pub next_gains : {K : Type 0} (written : K → Option (List ℕ)) (wrote : List (List ℕ)) (next : ℕ) (old : List (Draft K)) (was is : Draft K) → next < length old → slice_index_or old next was ≡ was → GainsOf written wrote was is → NextGains written next wrote old (slice_set old next is)
next_gains {K} written wrote next old was is within there gains other =
    subst (λ (d : Draft K). GainsOf written wrote d (slice_index_or (slice_set old next is) next other)) (sym there ∙ get_or_any old next was other within)
    (subst (λ (d : Draft K). GainsOf written wrote was d) (sym (get_or-set_same old next is other within)) gains)

pub nothing_gained : {K : Type 0} (written : K → Option (List ℕ)) (next : ℕ) (old new : List (Draft K)) → NextGains written next [] old new
nothing_gained written next old new other = tt

pub acts_heard : {K : Type 0} (written : K → Option (List ℕ)) (report : List Listed → List ℕ) (statement : Statement) (asked : Asked) (old new : Place) (next : ℕ) (was is : List (Draft K)) → asked_in statement ≡ Some asked → OnlyHears old new
    → Acts written report statement old new Silent next was is
acts_heard written report statement asked old new next was is e heard = record { wrote = []; does = does_hear report statement asked old new e heard; gains = nothing_gained written next was is }

pub acts_reported : {K : Type 0} (written : K → Option (List ℕ)) (report : List Listed → List ℕ) (statement : Statement) (old new : Place) (took : Took) (next : ℕ) (was is : List (Draft K)) → true ≡ is_some (file_of statement) → ReportsNext written report old new took next was is
    → Acts written report statement old new took next was is
acts_reported written report statement old new took next was is e r = record { wrote = r.wrote; does = does_report report statement old new took r.wrote e r.reports; gains = r.gains }

pub acts_moved : {K : Type 0} (written : K → Option (List ℕ)) (report : List Listed → List ℕ) (statement : Statement) (old new : Place) (took : Took) (next : ℕ) (was is : List (Draft K)) → Moves statement old new took
    → Acts written report statement old new took next was is
acts_moved written report statement old new took next was is m = record { wrote = []; does = does_move report statement old new took m; gains = nothing_gained written next was is }

-- ---- the journal

pub applied_by : (script line : ℕ) (request : Request) (statement : Statement) (v w : View) (seen known : List Entry) (names : List (List ℕ)) → AppliesLine (record { script = script; line = line; request = request }) v seen w known names
    → asked_in statement ≡ Some (asked_by request) → Applies script line (asked_in statement) seen v known w
applied_by script line request statement v w seen known names a e =
    subst (λ (asked : Option Asked). Applies script line asked seen v known w) (sym e) (record {
      others = a.others;
      none = a.none;
      said = a.said;
      journal = a.journal;
      before = a.before;
      after = a.after;
    })

pub not_applied : (script line : ℕ) (statement : Statement) (v : View) (seen known : List Entry) → asked_in statement ≡ None → Applies script line (asked_in statement) seen v known v
not_applied script line statement v seen known e = subst (λ (asked : Option Asked). Applies script line asked seen v known v) (sym e) refl
