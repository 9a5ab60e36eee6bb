-- What contracts see of the tokens, and what each call of a pass says.
use Rattle.std.specs.Prelude.{◌≡◌, ℕ, ◌<◌, ◌≤◌, true, false, List, [], ◌∷◌}
use Rattle.atomic_table.specs.Seated.{TableId}
use Rattle.plcr_machine.specs.declared.entry.Entry.{Entry}
use Rattle.plcr_machine.specs.declared.entry.Entry.TheVariants.{Enter, Leave}
use Rattle.plcr_machine.specs.Histories.{IsHistory}
use Rattle.plcr_machine.specs.Passes.{counts}
use Rattle.plcr_machine.specs.Links.{link_of}
use Rattle.plcr_machine.specs.Holds.{may_reach}
use Rattle.plcr_nodes.specs.declared.view.Store.{Store}
use Rattle.plcr_nodes.specs.Seeing.{GoesOn}
use Rattle.plcr_nodes.specs.Payload.{image_word}

-- what a pass knows: its table with its sizes, its number, the history that it has seen with the
-- names of its loads, and what its walk was given since it went in
pub record PassState : Type 0 where
  pub table : TableId
  pub nodes : ℕ
  pub passes : ℕ
  pub number : ℕ
  pub history : List Entry
  pub names : List (List ℕ)
  pub given : List ℕ

-- what the owner knows: likewise, with the numbers of the passes that it has joined, the last
-- first, and what it stored in free nodes
pub record OwnerState : Type 0 where
  pub table : TableId
  pub nodes : ℕ
  pub passes : ℕ
  pub history : List Entry
  pub names : List (List ℕ)
  pub joined : List ℕ
  pub filled : List Store

-- what a note tells: what a token of this table had seen
pub record NoteState : Type 0 where
  pub table : TableId
  pub history : List Entry
  pub names : List (List ℕ)

-- the pass saw more of the history, none of it an entry of its own
abbrev pub SeesMore : PassState → List Entry → List (List ℕ) → Type 0
SeesMore old past names =
    GoesOn old.nodes old.passes false (old.number ∷ []) old.history old.names past names

-- the owner saw more of the history, none of it an entry of an owner or of a pass that it had
-- joined
abbrev pub OwnerSeesMore : OwnerState → List Entry → List (List ℕ) → Type 0
OwnerSeesMore old past names =
    GoesOn old.nodes old.passes true old.joined old.history old.names past names

-- the pass made an entry, which came last, and its walk begins anew
pub record IsEntry (entry : Entry) (old new : PassState) : Type 0 where
  pub past : List Entry
  pub names : List (List ℕ)
  pub sees : SeesMore old past names
  pub now : new ≡ record old { history = entry ∷ past; names = names; given = [] }
  pub legal : IsHistory new.nodes new.passes new.history new.names

-- the pass saw the gate, which is the number of counts so far
pub record IsGlanced (old : PassState) (found : ℕ) (new : PassState) : Type 0 where
  pub past : List Entry
  pub names : List (List ℕ)
  pub sees : SeesMore old past names
  pub now : new ≡ record old { history = past; names = names }
  pub gate : found ≡ counts past

-- the pass went in, and found so many counts before it
pub record IsEntered (old : PassState) (found : ℕ) (new : PassState) : Type 0 where
  pub entry : IsEntry (Enter old.number) old new
  pub gate : found ≡ counts entry.past

-- the pass came out, and found so many counts before it
pub record IsLeft (old : PassState) (found : ℕ) (new : PassState) : Type 0 where
  pub entry : IsEntry (Leave old.number) old new
  pub gate : found ≡ counts entry.past

-- the walk was given where the link of a place leads: to the end, or to a node that was in the list
-- since the pass went in
pub record IsFollowed (old : PassState) (node found : ℕ) (new : PassState) : Type 0 where
  pub past : List Entry
  pub names : List (List ℕ)
  pub sees : SeesMore old past names
  pub now : new ≡ record old { history = past; names = names; given = found ∷ old.given }
  pub link : found ≡ link_of node past
  pub inside : found ≤ old.nodes
  pub reach : 0 < found → may_reach old.number found past ≡ true

-- the word is that of the image on the node, which stays the same while the pass may reach it
pub record IsRead (old : PassState) (node word found : ℕ) (new : PassState) : Type 0 where
  pub past : List Entry
  pub names : List (List ℕ)
  pub sees : SeesMore old past names
  pub now : new ≡ record old { history = past; names = names }
  pub image : found ≡ image_word node past names word
  pub same : found ≡ image_word node old.history old.names word
