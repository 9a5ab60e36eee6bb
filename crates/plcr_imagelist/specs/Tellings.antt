-- Notes and tellings: what one token of a list has seen, and what another learns of it.
use Rattle.std.specs.Prelude.{◌≡◌, ℕ, false, List, [], ◌∷◌}
use Rattle.plcr_machine.specs.declared.entry.Entry.{Entry}
use Rattle.plcr_nodes.specs.Entries.{WentOn}
use Rattle.plcr_nodes.specs.Seeing.{AddsOthers}
use Rattle.plcr_nodes.specs.Tokens.{NoteState}
use Rattle.plcr_nodes.specs.Telling.{IsTold}
use Rattle.plcr_imagelist.specs.States.{WriterState, ChangeState}
use Rattle.plcr_imagelist.specs.Changes.{WriterSeesMore}
use Rattle.plcr_imagelist.specs.Holds.{WalkerState, HoldState, WalkerSeesMore, EndedAt}

-- what a token has seen, as a note
abbrev pub note_of_writer : WriterState → NoteState
note_of_writer s = record { table = s.table; history = s.history; names = s.names }

abbrev pub note_of_walker : WalkerState → NoteState
note_of_walker s = record { table = s.table; history = s.history; names = s.names }

-- the writer was told what the note's token had seen
abbrev pub IsWriterTold : WriterState → NoteState → WriterState → Type 0
IsWriterTold old note new =
    IsTold (WriterSeesMore old) (λ past names. record old { history = past; names = names }) note
    new

-- a pass was told likewise
abbrev pub IsWalkerTold : WalkerState → NoteState → WalkerState → Type 0
IsWalkerTold old note new =
    IsTold (WalkerSeesMore old) (λ past names. record old { history = past; names = names }) note
    new

-- and so was the writer that a change has, whose steps stay as they were
pub record IsChangeTold (old : ChangeState) (note : NoteState) (new : ChangeState) : Type 0 where
  pub writer : IsWriterTold old.writer note new.writer
  pub same : new ≡ record old { writer = new.writer }

-- and the pass of a hold, whose walk stays as it was, and ended where it had
pub record IsHoldTold (old : HoldState) (note : NoteState) (new : HoldState) : Type 0 where
  pub walker : IsWalkerTold old.walker note new.walker
  pub same : new ≡ record old { walker = new.walker }
  pub ends : (b : ℕ) → EndedAt old b → EndedAt new b

-- the writer met the pass for good: both had seen a beginning of what the writer has seen now,
-- which has of the pass just the entries that the pass had seen
pub record IsMet (old : WriterState) (pass : WalkerState) (new : WriterState) : Type 0 where
  pub past : List Entry
  pub names : List (List ℕ)
  pub sees : WriterSeesMore old past names
  pub now : new ≡ record old { history = past; names = names; joined = pass.number ∷ old.joined }
  pub met : AddsOthers false (pass.number ∷ []) pass.history past
  pub named : WentOn pass.names names
