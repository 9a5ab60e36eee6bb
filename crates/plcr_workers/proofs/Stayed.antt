-- What is known of stays while the statements of a script are gone through, from each on to the last.
use Rattle.std.proofs.Common.{◌≡◌, ℕ, suc, ◌<◌, ◌≤◌, true, List, [], ◌∷◌, ◌++◌, length, map, Option, sym, ap, ◌∙◌, subst}
use Rattle.plcr_machine.proofs.Cases.{eqb_same}
use Rattle.plcr_machine.specs.declared.entry.Entry.{Entry}
use Rattle.plcr_machine.specs.declared.entry.Entry.TheVariants.{Announce, Enter, Leave, Retire}
use Rattle.plcr_machine.specs.Lists.{changes}
use Rattle.plcr_machine.specs.Parts.{own_entries}
use Rattle.plcr_nodes.specs.Entries.{WentOn}
use Rattle.plcr_nodes.proofs.Seeing.{own_of}
use Rattle.plcr_imagelist.specs.Holds.{WalkerState, HoldState, IsWalking, IsHeld, IsReleased}
use Rattle.plcr_imagelist.specs.Carrying.{OnlySees}
use Rattle.plcr_macho.specs.Images.{Listed}
use Rattle.plcr_script.specs.declared.statements.NumberedStatement.{NumberedStatement}
use Rattle.plcr_script.specs.Meanings.{Meanings}
use Rattle.plcr_script.specs.Reading.{files_of}
use Rattle.plcr_turns.specs.declared.lines.ChangeLine.{ChangeLine}
use Rattle.plcr_turns.specs.declared.view.View.{View}
use Rattle.plcr_turns.specs.Lines.{accepted}
use Rattle.plcr_workers.specs.declared.lines.PassLine.{PassLine}
use Rattle.plcr_workers.specs.declared.places.Place.{Place}
use Rattle.plcr_workers.specs.declared.places.Place.TheVariants.{Out, In}
use Rattle.plcr_workers.specs.inner.Moves.{ComesOut}
use Rattle.plcr_workers.specs.inner.Places.{PassGoes, walker_of}
use Rattle.plcr_workers.specs.inner.Traces.{Ran}
use Rattle.plcr_workers.specs.inner.Visits.{KnownStay, IsKnownStay, stay_by}
use Rattle.plcr_workers.specs.Scripts.{Tells}
use Rattle.plcr_workers.specs.Scripts.{Out as OutSpot, In as InSpot}
use Rattle.plcr_workers.specs.Stays.{Stay, FollowOn, IsBehind}
use Rattle.plcr_workers.proofs.Freshly.{GoesOnFrom}
use Rattle.plcr_workers.proofs.Passing.{again, released}
use Rattle.plcr_workers.proofs.Passing.{stays as goes_nowhere}
use Rattle.plcr_workers.proofs.Visited.{pass_number}

-- what a script's run is seen from: what the process means, the script's number, the last journal, the names of all loads, and where the worker ended
pub record World : Type 0 where
  pub process : Meanings
  pub script : ℕ
  pub journal : List ChangeLine
  pub names : List (List ℕ)
  pub place : Place
  pub view : View
  pub final : WalkerState
  pub goes : GoesOnFrom script journal view
  pub out : ComesOut place final
  pub named : WentOn final.names names

abbrev pub by_names : List (List ℕ) → List KnownStay → List Stay
by_names names stays = map (stay_by names) stays

-- files with these names and bytes
abbrev pub pairs : List (List ℕ) → List (List ℕ) → List (List ℕ × List ℕ)
pairs [] wrote = []
pairs (name ∷ names) [] = []
pairs (name ∷ names) (bytes ∷ wrote) = (name, bytes) ∷ pairs names wrote

-- both halves of freshness, for all cuts of the journal at a line of the script
abbrev pub IsEarlier : World → ℕ → List Entry → Type 0
IsEarlier W enter history = (before : List ChangeLine) (line : ChangeLine) (after : List ChangeLine) → W.journal ≡ before ++ line ∷ after → line.script ≡ W.script → line.wanted.line < enter → accepted (before ++ line ∷ []) ≤ changes history

abbrev pub IsLater : World → Option ℕ → List Entry → Type 0
IsLater W leave history = (before : List ChangeLine) (line : ChangeLine) (after : List ChangeLine) → W.journal ≡ before ++ line ∷ after → line.script ≡ W.script → IsBehind leave line.wanted.line → changes history ≤ accepted before

pub record IsGood (W : World) (stay : KnownStay) : Type 0 where
  pub known : IsKnownStay W.final stay
  pub earlier : IsEarlier W stay.enter stay.before
  pub later : IsLater W stay.leave stay.inside

abbrev pub AreGood : World → List KnownStay → Type 0
AreGood W [] = Unit {0}
AreGood W (stay ∷ stays) = IsGood W stay × AreGood W stays

-- a stay that is open: from where and to where the pass went in, and on which line
pub record Opening : Type 0 where
  pub was : WalkerState
  pub early : HoldState
  pub held : IsHeld was early
  pub enter : ℕ

pub record IsOpen (W : World) (o : Opening) (hold : HoldState) : Type 0 where
  pub number : o.was.number ≡ W.script
  pub sees : OnlySees o.early.walker hold.walker
  pub walking : IsWalking hold

abbrev pub Opened : World → Place → Type 0
Opened W (Out p) = Unit {0}
Opened W (In hold) = (o : Opening) × IsOpen W o hold

-- what the statements from here on tell, where the pass is out
pub record OutTold (W : World) (at : ℕ) (statements : List NumberedStatement) (p : WalkerState) (lines : List PassLine) (wrote : List (List ℕ)) : Type 0 where
  pub stays : List KnownStay
  pub good : AreGood W stays
  pub follow : FollowOn W.script (own_entries W.script p.history) (by_names W.names stays) (own_entries W.script W.final.history)
  pub tells : Tells W.process at statements OutSpot lines (by_names W.names stays) (pairs (files_of statements) wrote)

-- and where it is in: how its stay goes on, too
pub record InTold (W : World) (at : ℕ) (statements : List NumberedStatement) (o : Opening) (hold : HoldState) (lines : List PassLine) (wrote : List (List ℕ)) : Type 0 where
  pub stay : KnownStay
  pub enter_is : stay.enter ≡ o.enter
  pub before_is : stay.before ≡ o.held.enter.past
  pub known : IsKnownStay W.final stay
  pub later : IsLater W stay.leave stay.inside
  pub few : length hold.met ≤ length stay.met
  pub whole : hold.ended ≡ true → (stay.ended ≡ true) × (length stay.met ≡ length hold.met)
  pub own_before : own_entries W.script stay.before ≡ Announce W.script stay.announced ∷ own_entries W.script o.was.history
  pub own_inside : own_entries W.script stay.inside ≡ Enter W.script ∷ Announce W.script stay.announced ∷ own_entries W.script o.was.history
  pub stays : List KnownStay
  pub good : AreGood W stays
  pub follow : FollowOn W.script (Retire W.script ∷ Leave W.script ∷ Enter W.script ∷ Announce W.script stay.announced ∷ own_entries W.script o.was.history) (by_names W.names stays) (own_entries W.script W.final.history)
  pub tells : Tells W.process at statements (InSpot (stay_by W.names stay) (length hold.met) hold.ended) lines (by_names W.names stays) (pairs (files_of statements) wrote)

abbrev pub Told : (W : World) → ℕ → List NumberedStatement → (p : Place) → Opened W p → List PassLine → List (List ℕ) → Type 0
Told W at statements (Out p) o lines wrote = OutTold W at statements p lines wrote
Told W at statements (In hold) o lines wrote = InTold W at statements o.0 hold lines wrote

-- ---- the pass goes on to where it ends

pub ran_goes : (report : List Listed → List ℕ) (script at : ℕ) (statements : List NumberedStatement) (p : Place) (v : View) (lines : List PassLine) (wrote : List (List ℕ)) (q : Place) (w : View) → Ran report script at statements p v lines wrote q w → PassGoes (walker_of p) (walker_of q)
ran_goes report script at [] p v lines wrote q w ran = subst (λ (x : Place). PassGoes (walker_of p) (walker_of x)) (sym ran.0) (goes_nowhere (walker_of p))
ran_goes report script at (s ∷ statements) p v lines wrote q w ran =
    again (walker_of p) (walker_of ran.place) (walker_of q) ran.goes (ran_goes report script (suc at) statements ran.place ran.sees ran.more ran.later q w ran.rest)

pub out_goes : (q : Place) (new : WalkerState) → ComesOut q new → PassGoes (walker_of q) new
out_goes (Out old) new c = subst (λ (x : WalkerState). PassGoes old x) (sym c) (goes_nowhere old)
out_goes (In old) new c = released old new c.0 c.1 c.2

-- ---- its own entries

-- before it went in: one announcement more
pub own_before : (was : WalkerState) (early : HoldState) (held : IsHeld was early) → own_entries was.number held.enter.past ≡ Announce was.number held.seen ∷ own_entries was.number was.history
own_before was early held =
    let n : ℕ = was.number in
    let announced : held.announced.history ≡ Announce n held.seen ∷ held.announce.past = ap (λ (s : WalkerState). s.history) held.announce.now in
    let number : held.announced.number ≡ n = ap (λ (s : WalkerState). s.number) held.announce.now in
    let first : own_entries n held.announced.history ≡ Announce n held.seen ∷ own_entries n was.history =
    ap (own_entries n) announced ∙ rw (eqb_same n) (ap (λ (es : List Entry). Announce n held.seen ∷ es) (own_of n was.history held.announce.past held.announce.sees.added)) in
    subst (λ k. own_entries k held.enter.past ≡ own_entries k held.announced.history) number (own_of held.announced.number held.announced.history held.enter.past held.enter.sees.added) ∙ first

-- before it came out: and the entering
pub own_inside : (was new : WalkerState) (early late : HoldState) (low high : ℕ) (held : IsHeld was early) → OnlySees early.walker late.walker → (out : IsReleased late new low high)
    → own_entries was.number out.leave.past ≡ Enter was.number ∷ Announce was.number held.seen ∷ own_entries was.number was.history
own_inside was new early late low high held sees out =
    let n : ℕ = was.number in
    let first : early.walker.number ≡ n = ap (λ (s : WalkerState). s.number) held.enter.now ∙ ap (λ (s : WalkerState). s.number) held.announce.now in
    let own : own_entries n late.walker.history ≡ Enter n ∷ Announce n held.seen ∷ own_entries n was.history = subst (λ k. own_entries k late.walker.history ≡ own_entries k early.walker.history) first sees.own ∙ held.own in
    subst (λ k. own_entries k out.leave.past ≡ own_entries k late.walker.history) (pass_number was early late held sees) (own_of late.walker.number late.walker.history out.leave.past out.leave.sees.added) ∙ own
