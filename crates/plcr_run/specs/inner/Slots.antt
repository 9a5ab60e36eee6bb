-- The passes of a run, each in a slot.
use Rattle.std.specs.Prelude.{◌≡◌, ◌≢◌, ℕ, Bool, true, false, List, length, slice_index_or, ⊤}
use Rattle.plcr_run.specs.declared.slots.Slot.{Slot}
use Rattle.plcr_run.specs.declared.slots.Slot.TheVariants.{Out, In, Away}

-- what a slot has
abbrev pub slot_at : List Slot → ℕ → Slot
slot_at slots k = slice_index_or slots k Away

abbrev pub IsOutSlot : Slot → Type 0
IsOutSlot (Out pass) = ⊤
IsOutSlot (In hold) = ⊥
IsOutSlot Away = ⊥

abbrev pub IsInSlot : Slot → Type 0
IsInSlot (Out pass) = ⊥
IsInSlot (In hold) = ⊤
IsInSlot Away = ⊥

abbrev pub is_out_slot : Slot → Bool
is_out_slot (Out pass) = true
is_out_slot (In hold) = false
is_out_slot Away = false

-- the pass of a slot is out, or in
abbrev pub IsOutAt : List Slot → ℕ → Type 0
IsOutAt slots at = IsOutSlot (slot_at slots at)

abbrev pub IsInAt : List Slot → ℕ → Type 0
IsInAt slots at = IsInSlot (slot_at slots at)

-- one slot has this now, and all others what they had
pub record IsPut (old new : List Slot) (at : ℕ) (slot : Slot) : Type 0 where
  pub count : length new ≡ length old
  pub here : slot_at new at ≡ slot
  pub others : (k : ℕ) → k ≢ at → slot_at new k ≡ slot_at old k
