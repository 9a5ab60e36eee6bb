-- The lines of one script that don't stand in the journal, one for each of its other statements,
-- and what ties them to the stays of its pass and to its files.
use Rattle.std.specs.Prelude.{◌≡◌, ℕ, suc, ◌+◌, ◌<◌, ◌≤◌, Bool, true, false, List, [], ◌∷◌, ◌++◌, Option, Some, None, length, All}
use Rattle.plcr_machine.specs.Parts.{own_entries}
use Rattle.plcr_machine.specs.Passes.{counts}
use Rattle.plcr_imagelist.specs.States.{WriterState}
use Rattle.plcr_script.specs.declared.statements.Statement.{Statement}
use Rattle.plcr_script.specs.declared.statements.Statement.TheVariants.{Load, Unload, BeginLoad, BeginUnload, Step, End, Enter, Walk, Leave, Report}
use Rattle.plcr_script.specs.declared.statements.NumberedStatement.{NumberedStatement}
use Rattle.plcr_script.specs.Scripts.{ScriptValue}
use Rattle.plcr_script.specs.Meanings.{Meanings}
use Rattle.plcr_script.specs.RunTurns.{listed}
use Rattle.plcr_turns.specs.declared.lines.ChangeLine.{ChangeLine}
use Rattle.plcr_workers.specs.declared.lines.PassSaid.TheVariants.{Entered, Walked, Left, Reported}
use Rattle.plcr_workers.specs.declared.lines.PassLine.{PassLine}
use Rattle.plcr_workers.specs.Stays.{Stay, IsStay, FollowOn, IsFresh}

-- where a script's pass is: out; or in, in a stay of which the lines so far said that it met so
-- many images, and whether its walk has ended
pub data Spot : Type 0 where
  Out : Spot
  In : (stay : Stay) (met : ℕ) (ended : Bool) → Spot

-- a walk line of at most so many images more. One that has ended stays so. The stay meets no fewer,
-- and no more once a line said that it ended
pub record IsWalkLine (stay : Stay) (base : ℕ) (was : Bool) (most met : ℕ) (ended : Bool) : Type 0
  where
    pub still : was ≡ true → (ended ≡ true) × (met ≡ base)
    pub more : was ≡ false → ended ≡ false → met ≡ base + most
    pub end : was ≡ false → ended ≡ true → met < base + most
    pub rises : base ≤ met
    pub few : met ≤ length stay.met
    pub whole : ended ≡ true → (stay.ended ≡ true) × (length stay.met ≡ met)

-- a stay that is left with the images that its lines said
pub record IsLeft (stay : Stay) (leave : Option ℕ) (met : ℕ) (ended : Bool) : Type 0 where
  pub leave_is : stay.leave ≡ leave
  pub met_is : length stay.met ≡ met
  pub ended_is : stay.ended ≡ ended

-- the window that a line prints
pub record HasWindow (stay : Stay) (low high : ℕ) : Type 0 where
  pub low_is : low ≡ counts stay.before
  pub high_is : high ≡ counts stay.inside

-- a report into a file, of all images of the stay's walk, which came to its end; no fewer than its
-- lines said, and just those where one said that it ended
pub record IsReport (process : Meanings) (stay : Stay) (base : ℕ) (was : Bool) (line : ℕ)
    (bytes images : ℕ) (written : List ℕ) : Type 0 where
  pub left : IsLeft stay (Some line) images true
  pub rises : base ≤ images
  pub still : was ≡ true → images ≡ base
  pub written_is : written ≡ process.report (listed stay.met)
  pub bytes_is : bytes ≡ length written

-- what follows a statement: from a spot on, these lines, stays and files
abbrev pub Following : Type 1
Following = Spot → List PassLine → List Stay → List (List ℕ × List ℕ) → Type 0

-- a report in a stay, and what follows it
abbrev pub ReportTells : Meanings → Stay → ℕ → Bool → (at number : ℕ) → List ℕ → Following →
    List PassLine → List Stay → List (List ℕ × List ℕ) → Type 0
ReportTells process stay base was at number file follows lines stays files =
    (bytes : ℕ) × (images : ℕ) × (low : ℕ) × (high : ℕ) × (written : List ℕ)
    × (more : List PassLine) × (kept : List (List ℕ × List ℕ))
    × (lines ≡ record { at = at; said = Reported bytes images low high } ∷ more)
    × (files ≡ (file, written) ∷ kept)
    × IsReport process stay base was number bytes images written
    × HasWindow stay low high
    × follows Out more stays kept

-- one statement, with its place and its line's number, and what follows it. A load or an unload has
-- its line in the journal
abbrev pub TellsOne : Meanings → (at number : ℕ) → Statement → Spot → Following → List PassLine →
    List Stay → List (List ℕ × List ℕ) → Type 0
TellsOne process at number (Load header name) spot follows lines stays files =
    follows spot lines stays files
TellsOne process at number (Unload header) spot follows lines stays files =
    follows spot lines stays files
TellsOne process at number (BeginLoad header name) spot follows lines stays files = ⊥
TellsOne process at number (BeginUnload header) spot follows lines stays files = ⊥
TellsOne process at number (Step most) spot follows lines stays files = ⊥
TellsOne process at number End spot follows lines stays files = ⊥
TellsOne process at number (Enter pass) Out follows lines stays files =
    (stay : Stay) × (later : List Stay) × (more : List PassLine)
    × (stays ≡ stay ∷ later) × (stay.enter ≡ number)
    × (lines ≡ record { at = at; said = Entered } ∷ more)
    × follows (In stay 0 false) more later files
TellsOne process at number (Enter pass) (In stay base was) follows lines stays files = ⊥
TellsOne process at number (Walk pass most) Out follows lines stays files = ⊥
TellsOne process at number (Walk pass most) (In stay base was) follows lines stays files =
    (met : ℕ) × (ended : Bool) × (more : List PassLine)
    × (lines ≡ record { at = at; said = Walked met ended } ∷ more)
    × IsWalkLine stay base was most met ended
    × follows (In stay met ended) more stays files
TellsOne process at number (Leave pass) Out follows lines stays files = ⊥
TellsOne process at number (Leave pass) (In stay base was) follows lines stays files =
    (low : ℕ) × (high : ℕ) × (more : List PassLine)
    × (lines ≡ record { at = at; said = Left base low high } ∷ more)
    × IsLeft stay (Some number) base was
    × HasWindow stay low high
    × follows Out more stays files
TellsOne process at number (Report pass file) Out follows lines stays files =
    (stay : Stay) × (later : List Stay) × (stays ≡ stay ∷ later) × (stay.enter ≡ number)
    × ReportTells process stay 0 false at number file follows lines later files
TellsOne process at number (Report pass file) (In stay base was) follows lines stays files =
    ReportTells process stay base was at number file follows lines stays files

-- the pass comes out at the end of its script, where it is in
abbrev pub EndsAt : Spot → Type 0
EndsAt Out = Unit {0}
EndsAt (In stay met ended) = IsLeft stay None met ended

-- statements from a place and a spot on, with their lines, the stays that they begin, and the files
-- that they keep
abbrev pub Tells : Meanings → ℕ → List NumberedStatement → Spot → List PassLine → List Stay →
    List (List ℕ × List ℕ) → Type 0
Tells process at [] spot lines stays files = (lines ≡ []) × (stays ≡ []) × (files ≡ [])
    × EndsAt spot
Tells process at (s ∷ statements) spot lines stays files =
    TellsOne process at s.line s.statement spot (λ after more later kept.
    Tells process (suc at) statements after more later kept) lines stays files

-- a script that ran whole on a pass, in the history that the writer has seen
pub record IsScriptRun (process : Meanings) (w : WriterState) (journal : List ChangeLine)
    (script : ℕ) (value : ScriptValue) (lines : List PassLine)
    (files : List (List ℕ × List ℕ)) : Type 0 where
  pub stays : List Stay
  pub tells : Tells process 0 value.statements Out lines stays files
  pub are : All (IsStay w script) stays
  -- the pass made the entries of these stays, one stay after the other, and no others
  pub own : FollowOn script [] stays (own_entries script w.history)
  -- and each of them is fresh
  pub fresh : (before : List ChangeLine) (line : ChangeLine) (after : List ChangeLine) →
      journal ≡ before ++ line ∷ after →
      All (λ (stay : Stay). IsFresh script stay before line) stays
