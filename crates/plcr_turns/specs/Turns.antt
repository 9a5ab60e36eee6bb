-- The turn, and what each line of its journal did to the list.
use Rattle.std.specs.Prelude.{◌≡◌, ℕ, zero, suc, ◌+◌, ◌-◌, ◌^◌, ◌<◌, ◌≤◌, true, List, [], ◌∷◌, ◌++◌, map, length, Option, Some, None, slice_get, All}
use Rattle.plcr_base.specs.declared.limits.TheConstants.{IMAGE_NAME_BYTES}
use Rattle.plcr_base.specs.Limits.{IsImageName}
use Rattle.plcr_machine.specs.declared.limits.TheConstants.{MOST_CHANGES}
use Rattle.plcr_machine.specs.declared.image.Image.{Image}
use Rattle.plcr_machine.specs.declared.change.Change.{Change}
use Rattle.plcr_machine.specs.declared.change.Change.TheVariants as changed
use Rattle.plcr_machine.specs.Lists.{live, changes}
use Rattle.plcr_nodes.specs.Entries.{WentOn}
use Rattle.plcr_nodes.specs.Seeing.{AddsOthers}
use Rattle.plcr_nodes.specs.Tokens.{NoteState}
use Rattle.plcr_imagelist.specs.States.{WriterState, IsAtRest}
use Rattle.plcr_imagelist.specs.Finding.{first_with}
use Rattle.plcr_imagelist.specs.Changes.{IsWorn}
use Rattle.plcr_imagelist.specs.Loading.{HasMade, IsLoaded, IsUnloaded}
use Rattle.plcr_imagelist.specs.Refusing.{IsFull}
use Rattle.plcr_imagelist.specs.Listing.{AddsChanges}
use Rattle.plcr_imagelist.specs.Opening.{opened_writer}
use Rattle.plcr_imagelist.specs.Tellings.{IsWriterTold}
use Rattle.plcr_turns.specs.declared.lines.Asked.{Asked}
use Rattle.plcr_turns.specs.declared.lines.Asked.TheVariants as asked
use Rattle.plcr_turns.specs.declared.lines.Said.{Said}
use Rattle.plcr_turns.specs.declared.lines.Said.TheVariants.{NotImage, Worn, Long, Full, NotLoaded, Loaded, Unloaded}
use Rattle.plcr_turns.specs.declared.lines.ChangeLine.{ChangeLine}
use Rattle.plcr_turns.specs.declared.lines.Request.{Request}
use Rattle.plcr_turns.specs.declared.lines.Request.TheVariants.{Load, Unload}
use Rattle.plcr_turns.specs.declared.turn.Part.{Part}
use Rattle.plcr_turns.specs.Lines.{asked_by, is_change, accepted, lines_of}

-- what contracts see of a turn
pub record TurnState : Type 0 where
  pub writer : WriterState
  pub journal : List ChangeLine
  pub parts : List Part

abbrev pub turn_state : WriterState → List ChangeLine → List Part → TurnState
turn_state writer journal parts = record { writer = writer; journal = journal; parts = parts }

-- What a load came to. A refusal but for want of a free node leaves the writer as it was, and these
-- are tested in this order: too many changes, too long a name, no free node
abbrev pub LoadSays : ℕ → List ℕ → WriterState → Said → WriterState → Type 0
LoadSays header name old (NotImage kind) new = new ≡ old
LoadSays header name old (Worn number) new = IsWorn old × (number ≡ MOST_CHANGES) × (new ≡ old)
LoadSays header name old (Long len) new = (¬ IsWorn old) × (IMAGE_NAME_BYTES < length name)
    × (len ≡ length name) × (new ≡ old)
LoadSays header name old (Full lives held seen) new = (¬ IsWorn old) × IsImageName name
    × IsFull old lives held seen new
LoadSays header name old NotLoaded new = ⊥
LoadSays header name old (Loaded load) new = (¬ IsWorn old) × IsImageName name
    × IsLoaded old header name load new
LoadSays header name old (Unloaded load) new = ⊥

-- what an unload came to, which takes the first image with the header
abbrev pub UnloadSays : ℕ → WriterState → Said → WriterState → Type 0
UnloadSays header old (NotImage kind) new = ⊥
UnloadSays header old (Worn number) new = IsWorn old × (number ≡ MOST_CHANGES) × (new ≡ old)
UnloadSays header old (Long len) new = ⊥
UnloadSays header old (Full lives held seen) new = ⊥
UnloadSays header old NotLoaded new = (¬ IsWorn old) × (first_with header (live old.history) ≡ None)
    × (new ≡ old)
UnloadSays header old (Loaded load) new = ⊥
UnloadSays header old (Unloaded load) new =
    (¬ IsWorn old) × ((image : Image) × (first_with header (live old.history) ≡ Some image)
    × (load ≡ image.load) × IsUnloaded old image new)

abbrev pub Says : Asked → List ℕ → WriterState → Said → WriterState → Type 0
Says (asked.Load header) name old said new = LoadSays header name old said new
Says (asked.Unload header) name old said new = UnloadSays header old said new

-- the changes of the list that this comes to, by header and name: one, or none
abbrev pub changes_by : Asked → List ℕ → Said → List Change
changes_by (asked.Load header) name (Loaded load) =
    changed.Loads (record { load = load; header = header; name = name }) ∷ []
changes_by (asked.Unload header) name (Unloaded load) = changed.Unloads header ∷ []
changes_by asked name said = []

-- what was asked, of an image with this name, came to this
pub record Does (asked : Asked) (name : List ℕ) (said : Said) (old new : WriterState) : Type 0 where
  pub says : Says asked name old said new
  pub made : HasMade old (length (changes_by asked name said)) new
  pub changes : AddsChanges old (changes_by asked name said) new

-- the writer saw more of the history, in which it made nothing
pub record SeesOthers (old new : WriterState) : Type 0 where
  pub added : AddsOthers true [] old.history new.history
  pub named : WentOn old.names new.names
  pub changes : AddsChanges old [] new
  pub sizes : (new.nodes ≡ old.nodes) × (new.passes ≡ old.passes)

-- a line of the journal was applied, with no change open before it and after it
pub record Did (line : ChangeLine) (name : List ℕ) (old new : WriterState) : Type 0 where
  pub was : IsAtRest old
  pub does : Does line.wanted.asked name line.said old new
  pub rest : IsAtRest new

-- from the one to the other the writer applied these lines, one after the other, and nothing else
abbrev pub Applied : WriterState → List ChangeLine → WriterState → Type 0
Applied start [] end = SeesOthers start end
Applied start (line ∷ lines) end =
    (before : WriterState) × (after : WriterState) × (name : List ℕ)
    × SeesOthers start before × Did line name before after × Applied after lines end

-- a script that has as many lines as its part says, and so many in the journal
pub record IsPart (script : ℕ) (part : Part) (journal : List ChangeLine) : Type 0 where
  pub most : part.applied ≤ part.total
  pub word : part.total < 2 ^ 32
  pub lines : length (lines_of script journal) ≡ part.applied

-- the parts of a turn agree: no change is open, the journal is all that the writer did since its
-- list was opened, and each script has come as far as its part says
pub record IsTurn (t : TurnState) : Type 0 where
  pub rest : IsAtRest t.writer
  pub counted : changes t.writer.history ≡ accepted t.journal
  pub applied : Applied (opened_writer t.writer.table t.writer.nodes t.writer.passes) t.journal
      t.writer
  pub progress : (script : ℕ) (part : Part) → slice_get t.parts script ≡ Some part →
      IsPart script part t.journal
  -- no line is of another script than these
  pub alone : All (λ (l : ChangeLine). l.script < length t.parts) t.journal

-- how many lines are left of all scripts
abbrev pub room_wanted : List Part → ℕ
room_wanted [] = 0
room_wanted (part ∷ parts) = (part.total - part.applied) + room_wanted parts

-- a writer of a list that was just opened
abbrev pub is_new : WriterState → Type 0
is_new writer = writer ≡ opened_writer writer.table writer.nodes writer.passes

-- scripts of which no line was applied
abbrev pub untouched : List ℕ → List Part
untouched totals = map (λ total. record { applied = 0; total = total }) totals

abbrev pub opened_turn : WriterState → List ℕ → TurnState
opened_turn writer totals = turn_state writer [] (untouched totals)

-- the writer was told
pub record IsTold (old : TurnState) (note : NoteState) (new : TurnState) : Type 0 where
  pub writer : IsWriterTold old.writer note new.writer
  pub same : new ≡ record old { writer = new.writer }

-- the script has a line left
abbrev pub HasLeft : List Part → ℕ → Type 0
HasLeft parts script = (part : Part) × (slice_get parts script ≡ Some part)
    × (part.applied < part.total)

-- a line of a script came to this
abbrev pub line_of : ℕ → ℕ → Asked → Said → ChangeLine
line_of script line asked said =
    record { script = script; wanted = record { line = line; asked = asked }; said = said }

-- the parts with one line more of a script applied
abbrev pub one_more : ℕ → List Part → List Part
one_more script [] = []
one_more zero (part ∷ parts) = record part { applied = suc part.applied } ∷ parts
one_more (suc script) (part ∷ parts) = part ∷ one_more script parts

-- the name in a request
abbrev pub name_in : Request → List ℕ
name_in (Load header name fault) = name.now
name_in (Unload header) = []

-- an image with a fault is refused for it, and no other is
abbrev pub FaultSaid : Request → Said → Type 0
FaultSaid (Load header name (Some kind)) said = said ≡ NotImage kind
FaultSaid (Load header name None) said = (kind : ℕ) → ¬ (said ≡ NotImage kind)
FaultSaid (Unload header) said = Unit {0}

-- the writer was asked this of an image with this name, and that came of it
pub record HasCome (asked : Asked) (name : List ℕ) (old : WriterState) (said : Said)
    (new : WriterState) : Type 0 where
  pub table : new.table ≡ old.table
  pub rest : IsAtRest new
  pub does : Does asked name said old new

-- what an answer says of the length of the image's name
abbrev pub NameSaid : List ℕ → Said → Type 0
NameSaid name (NotImage kind) = Unit {0}
NameSaid name (Worn number) = Unit {0}
NameSaid name (Long len) = (IMAGE_NAME_BYTES < length name) × (len ≡ length name)
NameSaid name (Full lives held seen) = IsImageName name
NameSaid name NotLoaded = Unit {0}
NameSaid name (Loaded load) = IsImageName name
NameSaid name (Unloaded load) = Unit {0}

-- a request was answered
pub record HasAnswered (request : Request) (old : WriterState) (said : Said)
    (new : WriterState) : Type 0 where
  pub fault : FaultSaid request said
  pub come : HasCome (asked_by request) (name_in request) old said new

-- a line of a script was applied and stands last in the journal
pub record HasApplied (old : TurnState) (script line : ℕ) (request : Request)
    (new : TurnState) : Type 0 where
  pub said : Said
  pub answered : HasAnswered request old.writer said new.writer
  pub journal : new.journal ≡ old.journal ++ line_of script line (asked_by request) said ∷ []
  pub parts : new.parts ≡ one_more script old.parts
