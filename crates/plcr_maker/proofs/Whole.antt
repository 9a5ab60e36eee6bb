-- What was made, as a whole.
use Rattle.std.proofs.Common.{inl, inr, ◌≡◌, ◌≢◌, ℕ, List, [], ◌∷◌, Option, Some, None, refl, sym, subst, ◌∙◌, arith}
use Rattle.std.specs.Prelude.{map}
use Rattle.plcr_core.specs.declared.read.Core.{Core}
use Rattle.plcr_io.specs.MemFiles.{File, last_named}
use Rattle.plcr_imagelist.specs.States.{WriterState}
use Rattle.plcr_script.specs.Run.{run_of, kept_by}
use Rattle.plcr_script.proofs.KeptRuns.{run_keeps_its_files}
use Rattle.plcr_command.specs.declared.endings.Ending.{Ending}
use Rattle.plcr_command.specs.declared.endings.Ending.TheVariants.{Done, Stopped, Refused, Misused}
use Rattle.plcr_command.specs.declared.refusals.Refusal.{Refusal}
use Rattle.plcr_command.specs.declared.refusals.Refusal.TheVariants.{CannotRead, TooLong, CoreRefused, ScriptRefused, ReportRefused, OutOfMemory}
use Rattle.plcr_command.specs.Seen.{Seen}
use Rattle.plcr_command.specs.Process.{meanings_of}
use Rattle.plcr_command.specs.Saving.{TookNothing}
use Rattle.plcr_command.specs.Endings.{HasKept, status_of}
use Rattle.plcr_make.specs.MadeScripts.{made_script}
use Rattle.plcr_make.proofs.ReadScripts.{made_script_files}
use Rattle.plcr_maker.specs.declared.making.Made.{Made}
use Rattle.plcr_make.specs.Scripts.{report_name}
use Rattle.plcr_maker.specs.Make.{made_files, summary_of, StopsIn, HasMade, Makes, MadeLeft, MakeLeaves}
use Rattle.plcr_maker.specs.inner.Making.{IsMade, files_of, line_of}
use Rattle.plcr_maker.specs.inner.Handing.{HandsOut, LeavesBy}

-- one file of this name, by its bytes
one_file : (files : List File) (bytes : List ℕ) → map (λ (file : File). file.0) files ≡ report_name ∷ [] → last_named report_name files ≡ Some bytes → files ≡ (report_name, bytes) ∷ []
one_file [] bytes named last = cc
one_file ((name, mine) ∷ []) bytes named last =
    let is : name ≡ report_name = cc in
    let same : last_named report_name ((report_name, mine) ∷ []) ≡ Some bytes = subst (λ (n : List ℕ). last_named report_name ((n, mine) ∷ []) ≡ Some bytes) is last in
    let equal : mine ≡ bytes = cc in
    rw (is, equal) refl
one_file (a ∷ b ∷ more) bytes named last = cc

-- the report of the made script is its one file
pub kept_whole : (core : Core) (images : ℕ) (bytes : List ℕ) → last_named report_name (kept_by (run_of (meanings_of core (made_script images)) (made_script images))) ≡ Some bytes → kept_by (run_of (meanings_of core (made_script images)) (made_script images)) ≡ (report_name, bytes) ∷ []
kept_whole core images bytes last =
    let process = meanings_of core (made_script images) in
    one_file (kept_by (run_of process (made_script images))) bytes (run_keeps_its_files process (made_script images) ∙ made_script_files images) last

-- a report was made, and so its files and its line were handed out
has_made : (images : ℕ) (core script : List ℕ) (made : Made) (Hands : List File → List ℕ → Seen → Seen → Type 0) (old new : Seen) → IsMade images made → TookNothing old.desk new.desk → Hands (files_of core script made) (line_of made) old new → HasMade images core script Hands old new
has_made images core script made Hands old new is took hands = record {
  bytes = made.report.items;
  make = record { core = is.value; is_core = is.is_core; kept = is.kept; report = is.report; read = is.read };
  took = took;
  hands = subst (λ (files : List File). Hands files (summary_of is.report made.report.items) old new) files (subst (λ (line : List ℕ). Hands (files_of core script made) line old new) line hands);
}
  where
    files : files_of core script made ≡ made_files images core script made.report.items
    files = rw (is.core, is.script) refl

    line : line_of made ≡ summary_of is.report made.report.items
    line = rw (is.counts.images, is.counts.threads, is.counts.frames) refl

-- by the ending
pub made_by : (images : ℕ) (core script : List ℕ) (made : Made) (old new : Seen) (ending : Ending) → IsMade images made → TookNothing old.desk new.desk → HandsOut (files_of core script made) (line_of made) old new ending → Makes images core script old new ending
made_by images core script made old new Done is took hands = has_made images core script made HasKept old new is took hands
made_by images core script made old new Stopped is took hands = has_made images core script made StopsIn old new is took hands
made_by images core script made old new (Refused refusal) is took hands = absurd hands
made_by images core script made old new Misused is took hands = absurd hands

-- and what is left
left : (images : ℕ) (made : Made) → IsMade images made → MadeLeft images (Some made.writer)
left images made is = record { core = is.value; is_core = is.is_core; leaves = is.left }

pub left_by : (images : ℕ) (made : Made) (files : List File) (line : List ℕ) (old new : Seen) (ending : Ending) → IsMade images made → HandsOut files line old new ending → LeavesBy images (Some made.writer) ending
left_by images made files line old new Done is hands = left images made is
left_by images made files line old new Stopped is hands = left images made is
left_by images made files line old new (Refused refusal) is hands = absurd hands
left_by images made files line old new Misused is hands = absurd hands

-- a refusal has a status of its own
refused_apart : (refusal : Refusal) → (status_of (Refused refusal) ≢ 0) × (status_of (Refused refusal) ≢ 5)
refused_apart (CannotRead word) = (λ e. omega (arith, e), λ e. omega (arith, e))
refused_apart (TooLong word) = (λ e. omega (arith, e), λ e. omega (arith, e))
refused_apart (CoreRefused fault) = (λ e. omega (arith, e), λ e. omega (arith, e))
refused_apart (ScriptRefused number line kind) = (λ e. omega (arith, e), λ e. omega (arith, e))
refused_apart (ReportRefused fault) = (λ e. omega (arith, e), λ e. omega (arith, e))
refused_apart OutOfMemory = (λ e. omega (arith, e), λ e. omega (arith, e))

-- what is left where no run was
none_left : (images : ℕ) (past : Option WriterState) (status other : ℕ) → status ≡ other → (other ≢ 0) × (other ≢ 5) → past ≡ None → MakeLeaves images past status
none_left images past status other is apart none = record {
  ran = λ how. elim how [
    | inl e ↦ absurd (apart.0 (sym is ∙ e))
    | inr e ↦ absurd (apart.1 (sym is ∙ e))
  ];
  others = λ a b. none;
}

-- what is left, by the status
pub leaves_by : (images : ℕ) (past : Option WriterState) (ending : Ending) (status : ℕ) → status ≡ status_of ending → LeavesBy images past ending → MakeLeaves images past status
leaves_by images past Done status is leaves = record { ran = λ how. leaves; others = λ a b. absurd (a is) }
leaves_by images past Stopped status is leaves = record { ran = λ how. leaves; others = λ a b. absurd (b is) }
leaves_by images past (Refused refusal) status is leaves = none_left images past status _ is (refused_apart refusal) leaves
leaves_by images past Misused status is leaves = none_left images past status 1 is (λ e. omega (arith, e), λ e. omega (arith, e)) leaves
