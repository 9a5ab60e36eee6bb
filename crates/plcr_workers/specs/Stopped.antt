-- What stands where a run on threads stops: an output or a file failed, or a line of the log.
use Rattle.std.specs.Prelude.{◌≡◌, ℕ, ◌<◌, ◌≤◌, List, ◌++◌, length, Some, slice_get, All, map, take}
use Rattle.plcr_machine.specs.declared.change.Named.{Named}
use Rattle.plcr_machine.specs.Walks.{IsLawfulWalk}
use Rattle.plcr_machine.specs.Lists.{changes}
use Rattle.plcr_machine.specs.Changes.{load_of, changes_of}
use Rattle.plcr_imagelist.specs.States.{WriterState}
use Rattle.plcr_script.specs.Scripts.{ScriptValue}
use Rattle.plcr_script.specs.Meanings.{Meanings}
use Rattle.plcr_script.specs.RunTurns.{listed}
use Rattle.plcr_script.specs.Reading.{written_by}
use Rattle.plcr_turns.specs.declared.lines.ChangeLine.{ChangeLine}
use Rattle.plcr_turns.specs.Lines.{lines_of, wanted_by}
use Rattle.plcr_workers.specs.Asking.{change_lines, accepted_changes}
use Rattle.plcr_workers.specs.Stays.{lists}
use Rattle.plcr_workers.specs.Threads.{HasMetAll}

-- the names of files
abbrev pub file_names : List (List ℕ × List ℕ) → List (List ℕ)
file_names files = map (λ (file : List ℕ × List ℕ). file.0) files

-- bytes of a report of the images of a walk that is lawful between two lists of the history
pub record IsLawfulReport (process : Meanings) (w : WriterState) (bytes : List ℕ) : Type 0 where
  pub from : ℕ
  pub to : ℕ
  pub met : List Named
  pub rises : from ≤ to
  pub within : to ≤ changes w.history
  pub lawful : IsLawfulWalk load_of (lists w) from to met
  pub written : bytes ≡ process.report (listed met)

-- Scripts of which some may have ended early: of the load and unload lines of each, the first ones
-- were applied, each once. The files kept are the first of the scripts' files, in order of script
-- and line, and each is a lawful report
pub record StoppedOnThreads (process : Meanings) (nodes : ℕ) (scripts : List ScriptValue)
    (kept : List (List ℕ × List ℕ)) (w : WriterState) : Type 0 where
  pub history : HasMetAll nodes scripts w
  pub journal : List ChangeLine
  pub lines : (number : ℕ) (script : ScriptValue) → slice_get scripts number ≡ Some script →
      (count : ℕ) × (wanted_by (lines_of number journal)
      ≡ take count (change_lines script.statements))
  pub alone : All (λ (l : ChangeLine). l.script < length scripts) journal
  pub changes_are : changes_of w.names w.history ≡ accepted_changes scripts journal
  pub names : (rest : List (List ℕ)) × (written_by scripts ≡ file_names kept ++ rest)
  pub reports : All (λ (file : List ℕ × List ℕ). IsLawfulReport process w file.1) kept
