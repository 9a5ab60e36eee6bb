-- What tokens tell each other, by a note or by a join.
use Rattle.std.specs.Prelude.{◌≡◌, ℕ, false, List, [], ◌∷◌}
use Rattle.plcr_machine.specs.declared.entry.Entry.{Entry}
use Rattle.plcr_machine.specs.Lists.{Grows}
use Rattle.plcr_nodes.specs.Entries.{WentOn}
use Rattle.plcr_nodes.specs.Seeing.{AddsOthers}
use Rattle.plcr_nodes.specs.Tokens.{PassState, OwnerState, NoteState, SeesMore, OwnerSeesMore}

-- what an owner or a pass has seen, as a note
abbrev pub note_of_owner : OwnerState → NoteState
note_of_owner s = record { table = s.table; history = s.history; names = s.names }

abbrev pub note_of_pass : PassState → NoteState
note_of_pass s = record { table = s.table; history = s.history; names = s.names }

-- a token was told what a note's token had seen: both had seen a beginning of what it has seen now
pub record IsTold {S : Type 0} (Sees : List Entry → List (List ℕ) → Type 0) (after : List Entry →
    List (List ℕ) → S) (note : NoteState) (new : S) : Type 0 where
  pub past : List Entry
  pub names : List (List ℕ)
  pub sees : Sees past names
  pub now : new ≡ after past names
  pub told : Grows note.history past
  pub named : WentOn note.names names

abbrev pub IsPassTold : PassState → NoteState → PassState → Type 0
IsPassTold old note new =
    IsTold (SeesMore old) (λ past names. record old { history = past; names = names }) note new

abbrev pub IsOwnerTold : OwnerState → NoteState → OwnerState → Type 0
IsOwnerTold old note new =
    IsTold (OwnerSeesMore old) (λ past names. record old { history = past; names = names }) note new

-- the owner joined the pass: both had seen a beginning of what the owner has seen now, which has of
-- the pass just the entries that the pass had seen
pub record IsJoined (old : OwnerState) (pass : PassState) (new : OwnerState) : Type 0 where
  pub past : List Entry
  pub names : List (List ℕ)
  pub sees : OwnerSeesMore old past names
  pub now : new ≡ record old { history = past; names = names; joined = pass.number ∷ old.joined }
  pub met : AddsOthers false (pass.number ∷ []) pass.history past
  pub named : WentOn pass.names names
