-- What a statement does to the pass of a worker, step by step.
use Rattle.std.specs.Prelude.{◌≡◌, ℕ, true, List, [], ◌∷◌, length, slice_index_or, Option, Some, None}
use Rattle.std.specs.Io.KnownBytes.{append_known}
use Rattle.plcr_macho.specs.Images.{Listed}
use Rattle.plcr_imagelist.specs.Holds.{WalkerState, HoldState, IsWalking, IsHeld, IsReleased}
use Rattle.plcr_imagelist.specs.Carrying.{OnlySees}
use Rattle.plcr_imagelist.specs.Walk.{images_of}
use Rattle.plcr_run.specs.Walks.{IsFurther, IsToEnd}
use Rattle.plcr_script.specs.declared.statements.Statement.{Statement}
use Rattle.plcr_script.specs.declared.statements.Statement.TheVariants as stated
use Rattle.plcr_workers.specs.declared.acting.Took.{Took}
use Rattle.plcr_workers.specs.declared.acting.Took.TheVariants.{Silent, Said, Unwritten}
use Rattle.plcr_workers.specs.declared.drafts.Draft.{Draft}
use Rattle.plcr_workers.specs.declared.lines.PassSaid.{PassSaid}
use Rattle.plcr_workers.specs.declared.lines.PassSaid.TheVariants.{Entered, Walked, Left, Reported}
use Rattle.plcr_workers.specs.declared.places.Place.{Place}
use Rattle.plcr_workers.specs.declared.places.Place.TheVariants.{Out, In}

-- it saw more, and made no entry; its walk stays as it was
abbrev pub OnlyHears : Place → Place → Type 0
OnlyHears (Out old) (Out new) = OnlySees old new
OnlyHears (In old) (In new) = OnlySees old.walker new.walker × (new.met ≡ old.met)
    × (new.ended ≡ old.ended) × IsWalking new
OnlyHears (Out old) (In new) = ⊥
OnlyHears (In old) (Out new) = ⊥

-- a statement that finds the pass where it may not be does nothing
abbrev pub DoesNothing : Place → Place → Took → Type 0
DoesNothing old new took = (new ≡ old) × (took ≡ Silent)

-- it goes in
abbrev pub Enters : Place → Place → Took → Type 0
Enters (Out old) (In new) took = IsHeld old new × IsWalking new × (took ≡ Said Entered)
Enters (Out old) (Out new) took = ⊥
Enters (In old) new took = DoesNothing (In old) new took

-- it walks on
abbrev pub Walks : ℕ → Place → Place → Took → Type 0
Walks most (In old) (In new) took = IsFurther old most new × OnlySees old.walker new.walker
    × IsWalking new × (took ≡ Said (Walked (length new.met) new.ended))
Walks most (In old) (Out new) took = ⊥
Walks most (Out old) new took = DoesNothing (Out old) new took

-- it comes out
abbrev pub Leaves : Place → Place → Took → Type 0
Leaves (In old) (Out new) took = (low : ℕ) × (high : ℕ) × IsReleased old new low high
    × (took ≡ Said (Left (length old.met) low high))
Leaves (In old) (In new) took = ⊥
Leaves (Out old) new took = DoesNothing (Out old) new took

-- what a report says of the images and of the window, and what it wrote, where it was written whole
abbrev pub SaysOf : (List Listed → List ℕ) → HoldState → (low high : ℕ) → Took → List (List ℕ) →
    Type 0
SaysOf report late low high Silent wrote = ⊥
SaysOf report late low high (Said Entered) wrote = ⊥
SaysOf report late low high (Said (Walked met ended)) wrote = ⊥
SaysOf report late low high (Said (Left met from to)) wrote = ⊥
SaysOf report late low high (Said (Reported bytes met from to)) wrote =
    (met ≡ length late.met) × (from ≡ low) × (to ≡ high)
    × (bytes ≡ length (report (images_of late))) × (wrote ≡ report (images_of late) ∷ [])
SaysOf report late low high Unwritten wrote = wrote ≡ []

-- it walks to its end, its images are read, and it comes out
pub record ReportsFrom (report : List Listed → List ℕ) (inside : HoldState) (new : WalkerState)
    (took : Took) (wrote : List (List ℕ)) : Type 0 where
  pub begins : IsWalking inside
  pub walked : HoldState
  pub late : HoldState
  pub to_end : IsToEnd inside walked
  pub met : late.met ≡ walked.met
  pub ended : late.ended ≡ true
  pub walking : IsWalking late
  pub sees : OnlySees inside.walker late.walker
  pub low : ℕ
  pub high : ℕ
  pub out : IsReleased late new low high
  pub says : SaysOf report late low high took wrote

-- and where it is out, it goes in before
abbrev pub Reports : (List Listed → List ℕ) → Place → WalkerState → Took → List (List ℕ) → Type 0
Reports report (Out old) new took wrote = (inside : HoldState) × IsHeld old inside
    × ReportsFrom report inside new took wrote
Reports report (In old) new took wrote = ReportsFrom report old new took wrote

abbrev pub ReportsInto : (List Listed → List ℕ) → Place → Place → Took → List (List ℕ) → Type 0
ReportsInto report old (Out new) took wrote = Reports report old new took wrote
ReportsInto report old (In new) took wrote = ⊥

-- what each statement does that writes no file
abbrev pub Moves : Statement → Place → Place → Took → Type 0
Moves (stated.Load header name) old new took = OnlyHears old new × (took ≡ Silent)
Moves (stated.Unload header) old new took = OnlyHears old new × (took ≡ Silent)
Moves (stated.BeginLoad header name) old new took = DoesNothing old new took
Moves (stated.BeginUnload header) old new took = DoesNothing old new took
Moves (stated.Step most) old new took = DoesNothing old new took
Moves stated.End old new took = DoesNothing old new took
Moves (stated.Enter pass) old new took = Enters old new took
Moves (stated.Walk pass most) old new took = Walks most old new took
Moves (stated.Leave pass) old new took = Leaves old new took
Moves (stated.Report pass file) old new took = ⊥

-- what each statement does, and the reports that it wrote
abbrev pub Does : (List Listed → List ℕ) → Statement → Place → Place → Took → List (List ℕ) → Type 0
Does report (stated.Report pass file) old new took wrote = ReportsInto report old new took wrote
Does report other old new took wrote = Moves other old new took × (wrote ≡ [])

-- an output gained what was written
abbrev pub GainsOf : {K : Type 0} → (K → Option (List ℕ)) → List (List ℕ) → Draft K → Draft K →
    Type 0
GainsOf written [] old new = Unit {0}
GainsOf written (bytes ∷ more) old new = written new.out ≡ append_known (written old.out) bytes

-- of outputs the next one did
abbrev pub NextGains : {K : Type 0} → (K → Option (List ℕ)) → ℕ → List (List ℕ) → List (Draft K) →
    List (Draft K) → Type 0
NextGains {K = K} written next wrote old new = (other : Draft K) →
    GainsOf written wrote (slice_index_or old next other) (slice_index_or new next other)

-- a report into an output
pub record ReportsTo {K : Type 0} (written : K → Option (List ℕ)) (report : List Listed →
    List ℕ) (old : Place) (new : WalkerState) (took : Took) (was is : Draft K) : Type 0 where
  pub wrote : List (List ℕ)
  pub reports : Reports report old new took wrote
  pub gains : GainsOf written wrote was is

-- and into the next output
pub record ReportsNext {K : Type 0} (written : K → Option (List ℕ)) (report : List Listed →
    List ℕ) (old new : Place) (took : Took) (next : ℕ) (was is : List (Draft K)) : Type 0 where
  pub wrote : List (List ℕ)
  pub reports : ReportsInto report old new took wrote
  pub gains : NextGains written next wrote was is

-- a statement of a script, whose report goes into the next output
pub record Acts {K : Type 0} (written : K → Option (List ℕ)) (report : List Listed →
    List ℕ) (statement : Statement) (old new : Place) (took : Took) (next : ℕ)
    (was is : List (Draft K)) : Type 0 where
  pub wrote : List (List ℕ)
  pub does : Does report statement old new took wrote
  pub gains : NextGains written next wrote was is

-- what a hold is that began here, or goes on
abbrev pub ComesIn : Place → HoldState → Type 0
ComesIn (Out old) new = IsHeld old new
ComesIn (In old) new = new ≡ old

-- what the pass is at the end of its script
abbrev pub ComesOut : Place → WalkerState → Type 0
ComesOut (Out old) new = new ≡ old
ComesOut (In old) new = (low : ℕ) × (high : ℕ) × IsReleased old new low high

-- what a statement of the pass came to
abbrev pub took_of : Option PassSaid → Took
took_of None = Silent
took_of (Some said) = Said said
