-- Which frame description entry is found, above the order in which entries are looked at.
use Rattle.std.specs.Prelude.{◌≡◌, ℕ, true, List, [], ◌∷◌, ◌++◌, None, Err}
use Rattle.plcr_dwarf_cfi.specs.declared.entries.Entry.{Entry}
use Rattle.plcr_dwarf_cfi.specs.declared.entries.Entry.TheVariants.{Description}
use Rattle.plcr_dwarf_cfi.specs.declared.entries.FrameDescription.{FrameDescription}
use Rattle.plcr_dwarf_cfi.specs.declared.fault.CallFrameFault.{CallFrameFault}
use Rattle.plcr_dwarf_cfi.specs.Entries.{at_end, covers, description_over}
use Rattle.plcr_dwarf_cfi.specs.Lists.{Listed}

-- no entry is one of code at the address
abbrev pub NoneOver : ℕ → List Entry → Type 0
NoneOver a [] = Unit {0}
NoneOver a (entry ∷ entries) = (description_over a entry ≡ None) × NoneOver a entries

-- the entry stands in the list and covers the address, and none before it does
pub record IsFirstOver (a : ℕ) (list : Listed Entry) (d : FrameDescription) : Type 0 where
  pub front : List Entry
  pub behind : List Entry
  pub stands : list.items ≡ front ++ Description d ∷ behind
  pub none : NoneOver a front
  pub over : covers d a ≡ true

-- no entry covers the address, and the list ends or stops with this fault
pub record IsNowhere (a : ℕ) (list : Listed Entry) (fault : CallFrameFault) : Type 0 where
  pub none : NoneOver a list.items
  pub end : at_end list.fault ≡ Err fault
