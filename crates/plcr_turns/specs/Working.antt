-- What a worker knows of its script, and what one line of it comes to.
use Rattle.std.specs.Prelude.{◌≡◌, ℕ, suc, ◌<◌, ◌≤◌, List, [], ◌∷◌, ◌++◌, length, Some, None}
use Rattle.atomic_table.specs.Seated.{TableId}
use Rattle.plcr_machine.specs.declared.entry.Entry.{Entry}
use Rattle.plcr_machine.specs.Lists.{Grows, changes, name_of}
use Rattle.plcr_turns.specs.declared.lines.ChangeLine.{ChangeLine}
use Rattle.plcr_turns.specs.declared.lines.Said.{Said}
use Rattle.plcr_turns.specs.declared.lines.Said.TheVariants.{Loaded}
use Rattle.plcr_turns.specs.declared.turn.Part.{Part}
use Rattle.plcr_turns.specs.declared.view.Role.TheVariants.{Worker}
use Rattle.plcr_turns.specs.declared.view.Share.{Share}
use Rattle.plcr_turns.specs.declared.view.View.{View}
use Rattle.plcr_turns.specs.declared.worker.ScriptLine.{ScriptLine}
use Rattle.plcr_turns.specs.Lines.{asked_by, accepted, lines_of, wanted_by}
use Rattle.plcr_turns.specs.Turns.{FaultSaid, NameSaid, line_of, name_in}

-- a worker's pass that has just this script, and not the turn: it knows how far the script has
-- come, which is how many of its lines the journal had
pub record IsWorking (script : ℕ) (list : TableId) (v : View) : Type 0 where
  pub role : v.role ≡ Worker
  pub list_is : v.list ≡ Some list
  pub turn : v.turn ≡ None
  pub alone : v.joined ≡ []
  pub part : Part
  pub shares : v.shares ≡ record { script = script; part = part } ∷ []
  pub lines : length (lines_of script v.journal) ≡ part.applied
  pub most : part.applied ≤ part.total

-- a worker of whose script no line was applied, of so many
pub record IsFresh (script total : ℕ) (list : TableId) (v : View) : Type 0 where
  pub working : IsWorking script list v
  pub shares : v.shares ≡ record { script = script; part = record { applied = 0; total = total } }
      ∷ []
  pub journal : v.journal ≡ []

-- the script has a line left
abbrev pub HasNext : View → Type 0
HasNext v = (share : Share) × (v.shares ≡ share ∷ []) × (share.part.applied < share.part.total)

-- A line of the script was applied, once the lines of others had been: w is what the worker knows
-- after v. `seen` is the history that it told the writer of before, `known` the one that the writer
-- told it of then, with the names of its loads
pub record AppliesLine (line : ScriptLine) (v : View) (seen : List Entry) (w : View)
    (known : List Entry) (names : List (List ℕ)) : Type 0 where
  pub others : List ChangeLine
  pub none : lines_of line.script others ≡ []
  pub said : Said
  pub fault : FaultSaid line.request said
  pub long : NameSaid (name_in line.request) said
  pub journal : w.journal ≡ v.journal ++ others ++ line_of line.script line.line
      (asked_by line.request) said ∷ []
  -- so it is the last of the script's lines in the journal, and the first that was not there
  pub wanted : wanted_by (lines_of line.script w.journal)
      ≡ wanted_by (lines_of line.script v.journal)
      ++ record { line = line.line; asked = asked_by line.request } ∷ []
  -- the script came one further, and is the same otherwise
  pub part : Part
  pub was : v.shares ≡ record { script = line.script; part = part } ∷ []
  pub is : w.shares ≡ record {
    script = line.script;
    part = record part { applied = suc part.applied };
  } ∷ []
  -- the line came after what was seen before, and is seen then
  pub before : changes seen ≤ accepted (v.journal ++ others)
  pub after : accepted w.journal ≤ changes known
  pub grows : Grows seen known
  -- what was loaded has the name that was asked for
  pub named : (load : ℕ) → said ≡ Loaded load →
      (load ≤ length names) × (name_of load names ≡ name_in line.request)
