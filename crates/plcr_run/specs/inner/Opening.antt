-- The list that is opened for a run.
use Rattle.std.specs.Prelude.{◌≡◌, ℕ, map}
use Rattle.plcr_imagelist.specs.Opening.{opened_writer, opened_walkers}
use Rattle.plcr_script.specs.Lawful.{AreSizes}
use Rattle.plcr_run.specs.declared.scripts.Opened.{Opened}
use Rattle.plcr_run.specs.declared.slots.Slot.TheVariants.{Out}

-- an empty list with its writer, and each of its passes, out, in the slot of its number
pub record IsOpened (nodes passes : ℕ) (opened : Opened) : Type 0 where
  pub sizes : AreSizes nodes passes
  pub writing : opened.writer ≡ opened_writer opened.list nodes passes
  pub slots_are : opened.slots.items ≡ map Out (opened_walkers opened.list nodes passes passes)
