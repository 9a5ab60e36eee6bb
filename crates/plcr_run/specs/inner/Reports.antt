-- The images that a report has.
use Rattle.std.specs.Prelude.{ℕ, List, []}
use Rattle.plcr_macho.specs.Images.{Listed}
use Rattle.plcr_imagelist.specs.Walk.{images_of}
use Rattle.plcr_run.specs.declared.slots.Slot.{Slot}
use Rattle.plcr_run.specs.declared.slots.Slot.TheVariants.{Out, In, Away}
use Rattle.plcr_run.specs.inner.Slots.{slot_at}

-- the images that the pass of a slot has met
abbrev pub images_in : Slot → List Listed
images_in (Out pass) = []
images_in (In hold) = images_of hold
images_in Away = []

abbrev pub images_at : List Slot → ℕ → List Listed
images_at slots pass = images_in (slot_at slots pass)
