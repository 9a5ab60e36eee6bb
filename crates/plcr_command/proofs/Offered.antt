-- What a command answers where the desk tells its files.
use Rattle.std.proofs.Common.{inl, inr, ◌⊎◌, ◌<◌, ◌≤◌, ◌≡◌, ℕ, length, List, [], ◌∷◌, ◌++◌, Option, Some, refl, sym, ap, subst, ◌∙◌, arith}
use Rattle.plcr_base.specs.Told.{IfTold, Prints}
use Rattle.plcr_io.specs.Desk.{Told}
use Rattle.plcr_command.specs.declared.endings.Ending.{Ending}
use Rattle.plcr_command.specs.declared.endings.Ending.TheVariants.{Done, Stopped, Refused, Misused}
use Rattle.plcr_command.specs.declared.refusals.Refusal.{Refusal}
use Rattle.plcr_command.specs.declared.refusals.Refusal.TheVariants.{CannotRead, TooLong, CoreRefused, ScriptRefused, ReportRefused, OutOfMemory}
use Rattle.plcr_command.specs.Seen.{Seen}
use Rattle.plcr_command.specs.Files.{File, named}
use Rattle.plcr_command.specs.Taking.{IsTaken, AreTaken, TookAll, Untaken}
use Rattle.plcr_command.specs.Refusals.{IsRead, Refuses}
use Rattle.plcr_command.specs.Lines.{too_long, refusal_line}
use Rattle.plcr_command.specs.Endings.{Did, status_of}
use Rattle.plcr_command.specs.Complete.{IsOffered, AreOffered, CanBeTaken, IsFirstTooLong}

-- a file that was taken has the bytes that are offered
offered_one : (desk : Told) (file : File) (bytes other : List ℕ) → IsOffered desk file bytes → IsTaken desk file other → other ≡ bytes
offered_one desk file bytes other offer take = let P : Option (List ℕ) → Type 0 = λ t. IfTold t (λ told. other ≡ told) in subst P offer.told take.whole

offered_all : (desk : Told) (files : List File) (contents others : List (List ℕ)) → AreOffered desk files contents → AreTaken desk files others → others ≡ contents
offered_all desk [] [] [] offers takes = refl
offered_all desk [] [] (other ∷ others) offers takes = absurd takes
offered_all desk [] (bytes ∷ contents) others offers takes = absurd offers
offered_all desk (file ∷ files) [] others offers takes = absurd offers
offered_all desk (file ∷ files) (bytes ∷ contents) [] offers takes = absurd takes
offered_all desk (file ∷ files) (bytes ∷ contents) (other ∷ others) offers takes =
    let one = offered_one desk file bytes other offers.0 takes.0 in
    let more = offered_all desk files contents others offers.1 takes.1 in
    cc

-- what was read is what the bytes that are offered mean
read_offered : {A : Type 0} (Reads : List (List ℕ) → A → Type 0) (files : List File) (contents : List (List ℕ)) (value : A) (old new : Told) → AreOffered old files contents → IsRead Reads files old new value → Reads contents value
read_offered Reads files contents value old new offers is = subst (λ l. Reads l value) (offered_all old files contents is.contents offers is.took.are) is.read

took_offered : {A : Type 0} (Reads : List (List ℕ) → A → Type 0) (files : List File) (contents : List (List ℕ)) (value : A) (old new : Told) → AreOffered old files contents → IsRead Reads files old new value → TookAll files contents old new
took_offered Reads files contents value old new offers is = subst (λ l. TookAll files l old new) (offered_all old files contents is.contents offers is.took.are) is.took

-- of the files that are offered none is longer than its limit
offer_fits : (desk : Told) (file : File) (bytes : List ℕ) → IsOffered desk file bytes → IfTold (desk.files file.name) (λ bytes. file.limit < length bytes) → ⊥
offer_fits desk file bytes offer long =
    let P : Option (List ℕ) → Type 0 = λ t. IfTold t (λ told. file.limit < length told) in
    let more : file.limit < length bytes = subst P offer.told long in
    let fits = offer.fits in
    omega (arith, more, fits)

offers_fit : (desk : Told) (before : List File) (file : File) (after : List File) (contents : List (List ℕ)) → AreOffered desk (before ++ file ∷ after) contents → IfTold (desk.files file.name) (λ bytes. file.limit < length bytes) → ⊥
offers_fit desk [] file after [] offers long = absurd offers
offers_fit desk [] file after (bytes ∷ contents) offers long = offer_fits desk file bytes offers.0 long
offers_fit desk (first ∷ before) file after [] offers long = absurd offers
offers_fit desk (first ∷ before) file after (bytes ∷ contents) offers long = offers_fit desk before file after contents offers.1 long

-- files that can be taken are, unless memory is wanting
untaken_wants : (files : List File) (contents : List (List ℕ)) (refusal : Refusal) (old new : Told) → CanBeTaken files contents old new → Untaken files old new refusal → refusal ≡ OutOfMemory
untaken_wants files contents (CannotRead word) old new can is = absurd (can.faultless is.cause)
untaken_wants files contents (TooLong word) old new can is =
    absurd (offers_fit old is.taken.before (named word) is.taken.after contents (subst (λ l. AreOffered old l contents) is.taken.parts can.offered) is.cause)
untaken_wants files contents OutOfMemory old new can is = refl
untaken_wants files contents (CoreRefused fault) old new can is = absurd is
untaken_wants files contents (ScriptRefused script line kind) old new can is = absurd is
untaken_wants files contents (ReportRefused fault) old new can is = absurd is

-- so a refusal is want of memory, or one of these bytes
refused_for : (Misread : List (List ℕ) → Refusal → Type 0) (files : List File) (contents : List (List ℕ)) (refusal : Refusal) (old new : Told)
    → CanBeTaken files contents old new → Refuses Misread files old new refusal → (refusal ≡ OutOfMemory) ⊎ Misread contents refusal
refused_for Misread files contents refusal old new can (inl is) = inl (untaken_wants files contents refusal old new can is)
refused_for Misread files contents refusal old new can (inr is) =
    inr (subst (λ l. Misread l refusal) (offered_all old files contents is.contents can.offered is.took.are) is.misread)

wants : (refusal : Refusal) → refusal ≡ OutOfMemory → status_of (Refused refusal) ≡ 7
wants refusal is = ap (λ r. status_of (Refused r)) is

-- what a command found its files to be, by its status
pub data Found {A : Type 0} (Reads : List (List ℕ) → A → Type 0) (Misread : List (List ℕ) → Refusal → Type 0) (contents : List (List ℕ)) (status : ℕ) : Type 0 where
  Value : (value : A) (read : Reads contents value) (is : (status ≡ 0) ⊎ (status ≡ 5)) → Found Reads Misread contents status
  None : (refusal : Refusal) (misread : Misread contents refusal) (is : status ≡ status_of (Refused refusal)) → Found Reads Misread contents status
  Wants : (is : status ≡ 7) → Found Reads Misread contents status

pub found : {A : Type 0} (Reads : List (List ℕ) → A → Type 0) (Misread : List (List ℕ) → Refusal → Type 0) (files : List File) (IsDone IsStopped : A → Seen → Seen → Type 0) (contents : List (List ℕ)) (old new : Seen) (ending : Ending)
    → CanBeTaken files contents old.desk new.desk → Did Reads Misread files IsDone IsStopped old new ending → Found Reads Misread contents (status_of ending)
found Reads Misread files IsDone IsStopped contents old new Done can did = Value did.value (read_offered Reads files contents did.value old.desk new.desk can.offered did.read) (inl refl)
found Reads Misread files IsDone IsStopped contents old new Stopped can did = Value did.value (read_offered Reads files contents did.value old.desk new.desk can.offered did.read) (inr refl)
found Reads Misread files IsDone IsStopped contents old new (Refused refusal) can did = elim (refused_for Misread files contents refusal old.desk new.desk can did.cause) [
  | inl is ↦ Wants (wants refusal is)
  | inr is ↦ None refusal is refl
]
found Reads Misread files IsDone IsStopped contents old new Misused can did = absurd did

-- a command that can't stop does all that is to be done with what its files mean, or wants memory
pub completed : {A : Type 0} (Reads : List (List ℕ) → A → Type 0) (Misread : List (List ℕ) → Refusal → Type 0) (files : List File) (IsDone IsStopped : A → Seen → Seen → Type 0) (contents : List (List ℕ)) (value : A) (old new : Seen) (ending : Ending)
    → CanBeTaken files contents old.desk new.desk
    → ((other : A) → Reads contents other → other ≡ value)
    → ((refusal : Refusal) → Misread contents refusal → refusal ≡ OutOfMemory)
    → ((other : A) → IsStopped other old new → ⊥)
    → Did Reads Misread files IsDone IsStopped old new ending
    → ((status_of ending ≡ 0) × TookAll files contents old.desk new.desk × IsDone value old new) ⊎ (status_of ending ≡ 7)
completed Reads Misread files IsDone IsStopped contents value old new Done can one none go did =
    let read = read_offered Reads files contents did.value old.desk new.desk can.offered did.read in
    inl (
      refl,
      took_offered Reads files contents did.value old.desk new.desk can.offered did.read,
      subst (λ v. IsDone v old new) (one did.value read) did.ends,
    )
completed Reads Misread files IsDone IsStopped contents value old new Stopped can one none go did = absurd (go did.value did.ends)
completed Reads Misread files IsDone IsStopped contents value old new (Refused refusal) can one none go did = elim (refused_for Misread files contents refusal old.desk new.desk can did.cause) [
  | inl is ↦ inr (wants refusal is)
  | inr is ↦ inr (wants refusal (none refusal is))
]
completed Reads Misread files IsDone IsStopped contents value old new Misused can one none go did = absurd did

-- a file that was taken is within its limit
taken_fits : (desk : Told) (before : List File) (file : File) (after : List File) (contents : List (List ℕ)) (bytes : List ℕ) → AreTaken desk (before ++ file ∷ after) contents → desk.files file.name ≡ Some bytes → length bytes ≤ file.limit
taken_fits desk [] file after [] bytes takes told = absurd takes
taken_fits desk [] file after (other ∷ contents) bytes takes told =
    let P : Option (List ℕ) → Type 0 = λ t. IfTold t (λ told. other ≡ told) in
    let same : other ≡ bytes = subst P told takes.0.whole in
    subst (λ (l : List ℕ). length l ≤ file.limit) same takes.0.fits
taken_fits desk (first ∷ before) file after [] bytes takes told = absurd takes
taken_fits desk (first ∷ before) file after (other ∷ contents) bytes takes told = taken_fits desk before file after contents bytes takes.1 told

-- where the first file that can't be taken is too long, not all were taken
not_all : (files : List File) (file : File) (contents : List (List ℕ)) (old new : Told) → IsFirstTooLong files file old new → TookAll files contents old new → ⊥
not_all files file contents old new first took =
    let fits = taken_fits old first.before file first.after contents first.bytes (subst (λ l. AreTaken old l contents) first.parts took.are) first.told in
    let long = first.long in
    omega (arith, fits, long)

-- and a file that is told to be too long, where those before it were taken, is that one
same_file : (desk : Told) (before : List File) (file : File) (after : List File) (before' : List File) (other : File) (after' : List File) (contents contents' : List (List ℕ)) (bytes : List ℕ)
    → before ++ file ∷ after ≡ before' ++ other ∷ after' → AreOffered desk before contents → desk.files file.name ≡ Some bytes → file.limit < length bytes
    → AreTaken desk before' contents' → IfTold (desk.files other.name) (λ bytes. other.limit < length bytes) → other ≡ file
same_file desk [] file after [] other after' contents contents' bytes parts offers told long takes cause = cc
same_file desk [] file after (first ∷ before') other after' contents contents' bytes parts offers told long takes cause =
    let fits = taken_fits desk [] first before' contents' bytes takes (let same : first ≡ file = cc in ap (λ (f : File). desk.files f.name) same ∙ told) in
    let limit : first.limit ≡ file.limit = let same : first ≡ file = cc in ap (λ (f : File). f.limit) same in
    absurd (omega (arith, fits, limit, long))
same_file desk (first ∷ before) file after [] other after' [] contents' bytes parts offers told long takes cause = absurd offers
same_file desk (first ∷ before) file after [] other after' (content ∷ contents) contents' bytes parts offers told long takes cause =
    let same : other ≡ first = cc in
    absurd (offer_fits desk first content offers.0 (subst (λ (f : File). IfTold (desk.files f.name) (λ bytes. f.limit < length bytes)) same cause))
same_file desk (first ∷ before) file after (first' ∷ before') other after' [] contents' bytes parts offers told long takes cause = absurd offers
same_file desk (first ∷ before) file after (first' ∷ before') other after' (content ∷ contents) [] bytes parts offers told long takes cause = absurd takes
same_file desk (first ∷ before) file after (first' ∷ before') other after' (content ∷ contents) (content' ∷ contents') bytes parts offers told long takes cause =
    same_file desk before file after before' other after' contents contents' bytes (let rest : before ++ file ∷ after ≡ before' ++ other ∷ after' = cc in rest) offers.1 told long takes.1 cause

-- the first file that can't be taken, if it is too long, is refused for that, or memory is wanting
long_untaken : (files : List File) (file : File) (refusal : Refusal) (old new : Told) → IsFirstTooLong files file old new → Untaken files old new refusal → ((status_of (Refused refusal) ≡ 2) × (refusal_line refusal ≡ too_long file.name file.limit)) ⊎ (status_of (Refused refusal) ≡ 7)
long_untaken files file (CannotRead word) old new first is = absurd (first.can.faultless is.cause)
long_untaken files file (TooLong word) old new first is =
    let same : named word ≡ file = same_file old first.before file first.after is.taken.before (named word) is.taken.after first.contents is.taken.contents first.bytes (sym first.parts ∙ is.taken.parts) first.can.offered first.told first.long is.taken.took.are is.cause in
    inl (refl, ap (λ (f : File). too_long f.name f.limit) same)
long_untaken files file OutOfMemory old new first is = inr refl
long_untaken files file (CoreRefused fault) old new first is = absurd is
long_untaken files file (ScriptRefused script line kind) old new first is = absurd is
long_untaken files file (ReportRefused fault) old new first is = absurd is

pub long_refused : {A : Type 0} (Reads : List (List ℕ) → A → Type 0) (Misread : List (List ℕ) → Refusal → Type 0) (files : List File) (IsDone IsStopped : A → Seen → Seen → Type 0) (file : File) (old new : Seen) (ending : Ending)
    → IsFirstTooLong files file old.desk new.desk → Did Reads Misread files IsDone IsStopped old new ending
    → ((status_of ending ≡ 2) × Prints old.lines new.lines (too_long file.name file.limit) old.line_faults new.line_faults) ⊎ (status_of ending ≡ 7)
long_refused Reads Misread files IsDone IsStopped file old new Done first did = absurd (not_all files file did.read.contents old.desk new.desk first did.read.took)
long_refused Reads Misread files IsDone IsStopped file old new Stopped first did = absurd (not_all files file did.read.contents old.desk new.desk first did.read.took)
long_refused Reads Misread files IsDone IsStopped file old new (Refused refusal) first did = elim did.cause [
  | inl is ↦ elim (long_untaken files file refusal old.desk new.desk first is) [
    | inl long ↦ inl (long.0, subst (λ line. Prints old.lines new.lines line old.line_faults new.line_faults) long.1 did.printed)
    | inr want ↦ inr want
  ]
  | inr is ↦ absurd (not_all files file is.contents old.desk new.desk first is.took)
]
long_refused Reads Misread files IsDone IsStopped file old new Misused first did = absurd did
