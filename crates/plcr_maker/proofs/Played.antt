-- The one report that a run in memory keeps, and the writer that it leaves.
use Rattle.std.proofs.Common.{◌≡◌, ℕ, List, [], ◌++◌, Option, Some, None, refl, sym, ap, subst, ◌∙◌}
use Rattle.std.specs.Option.{option_or}
use Rattle.plcr_core.specs.declared.read.Core.{Core}
use Rattle.plcr_imagelist.specs.States.{WriterState}
use Rattle.plcr_io.specs.MemDesk.{MemoryDesk, file_now, tells}
use Rattle.plcr_io.specs.MemFiles.{File, first_named, last_named}
use Rattle.plcr_script.specs.Scripts.{ScriptValue}
use Rattle.plcr_script.specs.Run.{run_of, kept_by}
use Rattle.plcr_command.specs.Process.{meanings_of}
use Rattle.plcr_command.specs.Seen.{seen}
use Rattle.plcr_run.specs.Past.{LeavesWhole, RanWhole}
use Rattle.plcr_maker.specs.declared.runs.Ran.{Ran}
use Rattle.plcr_make.specs.Scripts.{report_name}
use Rattle.plcr_maker.specs.inner.Making.{IsRun}

-- or nothing
or_nothing : {A : Type 0} (o : Option A) → option_or o None ≡ o
or_nothing None = refl
or_nothing (Some x) = refl

-- a run on a desk that held and had kept nothing
pub played : (core : Core) (script : ScriptValue) (before after : MemoryDesk) (lines lines_after : Option (List ℕ)) (faults faults_after : ℕ) (past : Option WriterState) (ran : Ran) → before.files ≡ [] → before.kept ≡ []
    → (tells after).files ≡ (tells before).files → RanWhole (meanings_of core script) script (seen (tells before) lines faults) (seen (tells after) lines_after faults_after) past → past ≡ Some ran.writer
    → file_now after report_name ≡ Some ran.report.items → IsRun core script ran
played core script before after lines lines_after faults faults_after past ran empty fresh same run left file =
    record {
      report = subst (λ (files : List File). last_named report_name files ≡ Some ran.report.items) kept now;
      left = subst (λ (o : Option WriterState). LeavesWhole (meanings_of core script) script o) left run.past_is;
    }
  where
    other : first_named report_name after.files ≡ None
    other = ap (λ (files : List ℕ → Option (List ℕ)). files report_name) same ∙ ap (first_named report_name) empty

    now : last_named report_name after.kept ≡ Some ran.report.items
    now = sym (ap (λ (o : Option (List ℕ)). option_or (last_named report_name after.kept) o) other ∙ or_nothing (last_named report_name after.kept)) ∙ file

    kept : after.kept ≡ kept_by (run_of (meanings_of core script) script)
    kept = run.done.kept ∙ ap (λ (files : List File). files ++ kept_by (run_of (meanings_of core script) script)) fresh
