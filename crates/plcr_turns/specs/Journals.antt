-- What the journal says of the history: its accepted lines are the changes of the list, in order,
-- and each line came to what the changes of the lines before it make of it.
use Rattle.std.specs.Prelude.{◌≡◌, ℕ, List, [], ◌∷◌, ◌++◌}
use Rattle.plcr_machine.specs.declared.change.Change.{Change}
use Rattle.plcr_machine.specs.Lists.{Grows, name_of}
use Rattle.plcr_machine.specs.Changes.{changes_of}
use Rattle.plcr_nodes.specs.Entries.{WentOn}
use Rattle.plcr_imagelist.specs.States.{WriterState}
use Rattle.plcr_turns.specs.declared.lines.Said.{Said}
use Rattle.plcr_turns.specs.declared.lines.Said.TheVariants.{NotImage, Worn, Long, Full, NotLoaded, Loaded, Unloaded}
use Rattle.plcr_turns.specs.declared.lines.ChangeLine.{ChangeLine}
use Rattle.plcr_turns.specs.Turns.{TurnState, changes_by, Did, IsTurn}

-- the number of the load that was made; 0 where none was
abbrev pub load_made : Said → ℕ
load_made (NotImage kind) = 0
load_made (Worn number) = 0
load_made (Long len) = 0
load_made (Full lives held seen) = 0
load_made NotLoaded = 0
load_made (Loaded load) = load
load_made (Unloaded load) = 0

-- the change that a line made, or none, by the names of all loads
abbrev pub change_made : List (List ℕ) → ChangeLine → List Change
change_made names line =
    changes_by line.wanted.asked (name_of (load_made line.said) names) line.said

-- the changes that lines made, the last first
abbrev pub changes_made : List (List ℕ) → List ChangeLine → List Change
changes_made names [] = []
changes_made names (line ∷ lines) = changes_made names lines ++ change_made names line

-- what one line of a journal did: before it the writer had made the changes of the lines before it
-- and no others, and what it knew then and afterwards begins what it knows now
pub record LineDid (t : TurnState) (before : List ChangeLine) (line : ChangeLine) : Type 0 where
  pub old : WriterState
  pub new : WriterState
  pub name : List ℕ
  pub did : Did line name old new
  pub earlier : changes_of old.names old.history ≡ changes_made t.writer.names before
  pub grows : Grows new.history t.writer.history
  pub went : WentOn new.names t.writer.names
  pub sizes : (old.nodes ≡ t.writer.nodes) × (old.passes ≡ t.writer.passes)

-- the accepted lines are the changes of the history, in order
abbrev pub JournalIsTheChanges : Type 0
JournalIsTheChanges = (t : TurnState) → IsTurn t →
    changes_of t.writer.names t.writer.history ≡ changes_made t.writer.names t.journal

-- and each line did what it says
abbrev pub EachLineDid : Type 0
EachLineDid = (t : TurnState) → IsTurn t →
    (before : List ChangeLine) (line : ChangeLine) (after : List ChangeLine) →
    t.journal ≡ before ++ line ∷ after → LineDid t before line
