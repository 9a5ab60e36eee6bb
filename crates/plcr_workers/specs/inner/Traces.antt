-- What a worker's statements did, one after the other, to its pass, to the journal that it has
-- seen, and to its outputs.
use Rattle.std.specs.Prelude.{◌≡◌, ℕ, suc, ◌<◌, ◌≤◌, Bool, true, false, List, [], ◌∷◌, ◌++◌, Option, Some, None, slice_get, slice_index_or, length, All}
use Rattle.std.specs.Io.KnownBytes.{append_known}
use Rattle.crossbeam_queue.specs.Passes.{view}
use Rattle.plcr_base.specs.Told.{IfTold}
use Rattle.plcr_machine.specs.declared.entry.Entry.{Entry}
use Rattle.plcr_machine.specs.Lists.{changes}
use Rattle.plcr_macho.specs.Images.{Listed}
use Rattle.plcr_imagelist.specs.Holds.{WalkerState}
use Rattle.plcr_script.specs.declared.statements.Statement.{Statement}
use Rattle.plcr_script.specs.declared.statements.Statement.TheVariants.{Load, Unload, Enter, Walk, Leave, Report}
use Rattle.plcr_script.specs.declared.statements.NumberedStatement.{NumberedStatement}
use Rattle.plcr_script.specs.Scripts.{ScriptValue}
use Rattle.plcr_turns.specs.declared.lines.Asked.{Asked}
use Rattle.plcr_turns.specs.declared.lines.Said.{Said as LineSaid}
use Rattle.plcr_turns.specs.declared.lines.ChangeLine.{ChangeLine}
use Rattle.plcr_turns.specs.declared.view.View.{View}
use Rattle.plcr_turns.specs.Lines.{accepted, lines_of}
use Rattle.plcr_turns.specs.Turns.{line_of}
use Rattle.plcr_workers.specs.declared.acting.Took.{Took}
use Rattle.plcr_workers.specs.declared.acting.Took.TheVariants.{Silent, Said, Unwritten}
use Rattle.plcr_workers.specs.declared.drafts.Draft.{Draft}
use Rattle.plcr_workers.specs.declared.drafts.Progress.TheVariants.{Written}
use Rattle.plcr_workers.specs.declared.lines.PassLine.{PassLine}
use Rattle.plcr_workers.specs.declared.places.Place.{Place}
use Rattle.plcr_workers.specs.declared.places.Place.TheVariants.{Out}
use Rattle.plcr_workers.specs.declared.worker.Worker.{Worker}
use Rattle.plcr_workers.specs.Asking.{asked_in}
use Rattle.plcr_workers.specs.inner.Moves.{Does, ComesOut}
use Rattle.plcr_workers.specs.inner.Places.{PassGoes, walker_of}

-- a line of the script was applied behind lines of others: it came after all changes that the pass
-- had seen, and the pass has seen those of the journal then
pub record Applied (script line : ℕ) (asked : Asked) (seen : List Entry) (v : View)
    (known : List Entry) (w : View) : Type 0 where
  pub others : List ChangeLine
  pub none : lines_of script others ≡ []
  pub said : LineSaid
  pub journal : w.journal ≡ v.journal ++ others ++ line_of script line asked said ∷ []
  pub before : changes seen ≤ accepted (v.journal ++ others)
  pub after : accepted w.journal ≤ changes known

abbrev pub Applies : (script line : ℕ) → Option Asked → List Entry → View → List Entry → View →
    Type 0
Applies script line None seen v known w = w ≡ v
Applies script line (Some asked) seen v known w = Applied script line asked seen v known w

-- the line of a statement that isn't in the journal, if it has one
abbrev pub lines_said : ℕ → Took → List PassLine
lines_said at Silent = []
lines_said at (Said said) = record { at = at; said = said } ∷ []
lines_said at Unwritten = []

-- no output failed
abbrev pub IsWell : Took → Type 0
IsWell Silent = Unit {0}
IsWell (Said said) = Unit {0}
IsWell Unwritten = ⊥

-- one statement, and what follows it
pub record Then (report : List Listed → List ℕ) (script at : ℕ) (s : NumberedStatement) (p : Place)
    (v : View) (lines : List PassLine) (wrote : List (List ℕ)) (follows : Place → View →
    List PassLine → List (List ℕ) → Type 0) : Type 0 where
  pub place : Place
  pub sees : View
  pub took : Took
  pub reports : List (List ℕ)
  pub more : List PassLine
  pub later : List (List ℕ)
  pub lines_are : lines ≡ lines_said at took ++ more
  pub wrote_are : wrote ≡ reports ++ later
  pub well : IsWell took
  pub does : Does report s.statement p place took reports
  pub applies : Applies script s.line (asked_in s.statement) (walker_of p).history v
      (walker_of place).history sees
  pub goes : PassGoes (walker_of p) (walker_of place)
  pub rest : follows place sees more later

-- statements from a place on, with the lines that they said and the reports that they wrote
abbrev pub Ran : (List Listed → List ℕ) → (script at : ℕ) → List NumberedStatement → Place → View →
    List PassLine → List (List ℕ) → Place → View → Type 0
Ran report script at [] p v lines wrote q w = (q ≡ p) × (w ≡ v) × (lines ≡ []) × (wrote ≡ [])
Ran report script at (s ∷ statements) p v lines wrote q w =
    Then report script at s p v lines wrote (λ mid u more later.
    Ran report script (suc at) statements mid u more later q w)

-- the outputs gained these reports, each its own
abbrev pub HaveGained : {K : Type 0} → (K → Option (List ℕ)) → List (List ℕ) → List (Draft K) →
    List (Draft K) → Type 0
HaveGained {K = K} written wrote first drafts = (k : ℕ) (bytes : List ℕ) (other : Draft K) →
    k < length wrote → written (slice_index_or drafts k other).out
    ≡ append_known (written (slice_index_or first k other).out) (slice_index_or wrote k bytes)

-- statements were taken, from a place to a place
pub record HasTraced {K : Type 0} (written : K → Option (List ℕ)) (report : List Listed →
    List ℕ) (script : ℕ) (statements : List NumberedStatement) (p : Place) (v : View) (q : Place)
    (w : View) (lines : List PassLine) (next : ℕ) (first drafts : List (Draft K)) : Type 0 where
  pub wrote : List (List ℕ)
  pub ran : Ran report script 0 statements p v lines wrote q w
  pub count : length wrote ≡ next
  pub gained : HaveGained written wrote first drafts

-- where all outputs of a worker were written whole, all statements of its script were taken
abbrev pub TracesWhole : {K : Type 0} → (K → Option (List ℕ)) → (List Listed → List ℕ) →
    List NumberedStatement → Place → Place → Worker K → Worker K → Type 0
TracesWhole {K = K} written report statements p q old new =
    All (λ (d : Draft K). d.progress ≡ Written) new.drafts.items
    → (next : ℕ) × HasTraced written report old.script statements p (view old.turns) q
    (view new.turns) new.lines.items next old.drafts.items new.drafts.items

-- a worker that took all statements of its script, from where its pass was out to where it is out
-- again
pub record HasActed {K : Type 0} (written : K → Option (List ℕ)) (report : List Listed →
    List ℕ) (statements : List NumberedStatement) (old new : Worker K) : Type 0 where
  pub first : WalkerState
  pub was : old.image ≡ Some first
  pub last : WalkerState
  pub is : new.image ≡ Some last
  pub place : Place
  pub out : ComesOut place last
  pub wrote : List (List ℕ)
  pub ran : Ran report old.script 0 statements (Out first) (view old.turns) new.lines.items wrote
      place (view new.turns)
  pub gained : HaveGained written wrote old.drafts.items new.drafts.items

-- where all outputs were written whole, it did
abbrev pub ActsWhole : {K : Type 0} → (K → Option (List ℕ)) → (List Listed → List ℕ) →
    List NumberedStatement → Worker K → Worker K → Type 0
ActsWhole {K = K} written report statements old new =
    All (λ (d : Draft K). d.progress ≡ Written) new.drafts.items →
    HasActed written report statements old new

-- the same of the script of its number
pub record ActsWholeOf {K : Type 0} (written : K → Option (List ℕ)) (report : List Listed →
    List ℕ) (scripts : List ScriptValue) (old new : Worker K) : Type 0 where
  pub script : ScriptValue
  pub stands : slice_get scripts old.script ≡ Some script
  pub acts : ActsWhole written report script.statements old new

-- and of workers, each at its place
abbrev pub HaveActed : {K : Type 0} → (K → Option (List ℕ)) → (List Listed → List ℕ) →
    List ScriptValue → List (Worker K) → List (Worker K) → Type 0
HaveActed {K = K} written report scripts old new = (k : ℕ) (other : Worker K) → k < length old →
    ActsWholeOf written report scripts (slice_index_or old k other) (slice_index_or new k other)

-- outputs have these bytes, where that is told
abbrev pub HaveBytes : {K : Type 0} → (K → Option (List ℕ)) → List (Draft K) → List (List ℕ) →
    Type 0
HaveBytes written [] [] = Unit {0}
HaveBytes written [] (bytes ∷ wrote) = ⊥
HaveBytes written (draft ∷ drafts) [] = ⊥
HaveBytes written (draft ∷ drafts) (bytes ∷ wrote) = IfTold (written draft.out) (λ b. b ≡ bytes)
    × HaveBytes written drafts wrote

-- a worker has taken all statements of its script, with a pass that had seen nothing before, and
-- its outputs have the reports
pub record HasGone {K : Type 0} (written : K → Option (List ℕ)) (report : List Listed →
    List ℕ) (statements : List NumberedStatement) (w : Worker K) : Type 0 where
  pub first : WalkerState
  pub number : first.number ≡ w.script
  pub none : first.history ≡ []
  pub start : View
  pub empty : start.journal ≡ []
  pub last : WalkerState
  pub is : w.image ≡ Some last
  pub place : Place
  pub out : ComesOut place last
  pub wrote : List (List ℕ)
  pub ran : Ran report w.script 0 statements (Out first) start w.lines.items wrote place
      (view w.turns)
  pub bytes : HaveBytes written w.drafts.items wrote

-- the script of its number, where all its outputs were written whole
pub record IsActed {K : Type 0} (written : K → Option (List ℕ)) (report : List Listed →
    List ℕ) (scripts : List ScriptValue) (w : Worker K) : Type 0 where
  pub script : ScriptValue
  pub stands : slice_get scripts w.script ≡ Some script
  pub gone : All (λ (d : Draft K). d.progress ≡ Written) w.drafts.items →
      HasGone written report script.statements w

-- statements on lines that rise, from one on
abbrev pub Rise : ℕ → List NumberedStatement → Type 0
Rise n [] = Unit {0}
Rise n (s ∷ statements) = (n ≤ s.line) × Rise (suc s.line) statements

-- a statement of a worker's script may stand where the pass is in, or where it is out
abbrev pub MayStand : Bool → Statement → Type 0
MayStand inside (Load header name) = Unit {0}
MayStand inside (Unload header) = Unit {0}
MayStand inside (Enter pass) = inside ≡ false
MayStand inside (Walk pass most) = inside ≡ true
MayStand inside (Leave pass) = inside ≡ true
MayStand inside (Report pass file) = Unit {0}
MayStand inside other = ⊥

-- whether the pass is in behind it
abbrev pub stands_in : Bool → Statement → Bool
stands_in inside (Enter pass) = true
stands_in inside (Leave pass) = false
stands_in inside (Report pass file) = false
stands_in inside other = inside

abbrev pub MayRun : Bool → List NumberedStatement → Type 0
MayRun inside [] = Unit {0}
MayRun inside (s ∷ statements) = MayStand inside s.statement
    × MayRun (stands_in inside s.statement) statements

-- a script that a worker can run whole
abbrev pub IsRunnable : ScriptValue → Type 0
IsRunnable script = Rise 0 script.statements × MayRun false script.statements
