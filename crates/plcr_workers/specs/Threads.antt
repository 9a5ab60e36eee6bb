-- What running scripts on threads comes to: one journal, one history, and each script's lines and
-- files, whatever the order in which the workers got the turn and the steps of all of them fell.
use Rattle.std.specs.Prelude.{◌≡◌, ℕ, suc, ◌<◌, true, List, [], ◌∷◌, ◌++◌, length, Some, slice_get, All}
use Rattle.plcr_machine.specs.Histories.{IsHistory}
use Rattle.plcr_machine.specs.Passes.{IsPaced}
use Rattle.plcr_machine.specs.Changes.{TakesFirst, changes_of}
use Rattle.plcr_nodes.specs.Entries.{among}
use Rattle.plcr_imagelist.specs.States.{WriterState}
use Rattle.plcr_script.specs.Scripts.{ScriptValue}
use Rattle.plcr_script.specs.Meanings.{Meanings}
use Rattle.plcr_turns.specs.declared.lines.ChangeLine.{ChangeLine}
use Rattle.plcr_turns.specs.Lines.{lines_of, wanted_by}
use Rattle.plcr_workers.specs.declared.lines.PassLine.{PassLine}
use Rattle.plcr_workers.specs.Asking.{change_lines, accepted_changes}
use Rattle.plcr_workers.specs.Outcomes.{JournalRuns}
use Rattle.plcr_workers.specs.Scripts.{IsScriptRun}

-- the writer's history is that of a list of this many nodes, with one pass for each script, all of
-- which it has met
pub record HasMetAll (nodes : ℕ) (scripts : List ScriptValue) (w : WriterState) : Type 0 where
  pub nodes_are : w.nodes ≡ nodes
  pub passes_are : w.passes ≡ length scripts
  pub known : IsHistory w.nodes w.passes w.history w.names
  pub first : TakesFirst w.history
  pub paced : IsPaced w.history
  pub met : (pass : ℕ) → pass < length scripts → among pass w.joined ≡ true

-- scripts from a number on, each with its other lines and its files, in order
abbrev pub ScriptsRun : Meanings → WriterState → List ChangeLine → ℕ → List ScriptValue →
    List (List PassLine) → List (List ℕ × List ℕ) → Type 0
ScriptsRun process w journal number [] others files = (others ≡ []) × (files ≡ [])
ScriptsRun process w journal number (script ∷ scripts) [] files = ⊥
ScriptsRun process w journal number (script ∷ scripts) (lines ∷ others) files =
    (own : List (List ℕ × List ℕ)) × (later : List (List ℕ × List ℕ)) × (files ≡ own ++ later)
    × IsScriptRun process w journal number script lines own
    × ScriptsRun process w journal (suc number) scripts others later

-- scripts that ran whole, on a list of this many nodes: this journal, these other lines and these
-- files, with what the writer has seen after it has met all passes
pub record RanOnThreads (process : Meanings) (nodes : ℕ) (scripts : List ScriptValue)
    (journal : List ChangeLine) (others : List (List PassLine)) (files : List (List ℕ × List ℕ))
    (w : WriterState) : Type 0 where
  pub history : HasMetAll nodes scripts w
  -- each load and unload line of each script once, in the script's order, and no others
  pub lines : (number : ℕ) (script : ScriptValue) → slice_get scripts number ≡ Some script →
      wanted_by (lines_of number journal) ≡ change_lines script.statements
  pub alone : All (λ (l : ChangeLine). l.script < length scripts) journal
  -- the accepted ones are the changes of the history, in order
  pub changes : changes_of w.names w.history ≡ accepted_changes scripts journal
  -- each came to what the changes of those before it make of it
  pub outcomes : JournalRuns process scripts w [] [] journal
  -- and the other lines and the files are those of the scripts
  pub runs : ScriptsRun process w journal 0 scripts others files
