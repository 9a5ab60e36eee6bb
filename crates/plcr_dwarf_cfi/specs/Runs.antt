-- What instructions make of a table, above the order in which they are carried out.
use Rattle.std.specs.Prelude.{◌≡◌, ℕ, true, false, List, [], ◌∷◌, ◌++◌, Option, Some, None, Ok, Err}
use Rattle.plcr_dwarf_cfi.specs.declared.entries.CommonInformation.{CommonInformation}
use Rattle.plcr_dwarf_cfi.specs.declared.fault.CallFrameFault.{CallFrameFault}
use Rattle.plcr_dwarf_cfi.specs.declared.instructions.Instruction.{Instruction}
use Rattle.plcr_dwarf_cfi.specs.Lists.{Listed}
use Rattle.plcr_dwarf_cfi.specs.Rows.{Table, applied, is_past}

-- instructions that are carried out one after the other from a table to another, of which none sets
-- the location above the address
abbrev pub Carried : CommonInformation → ℕ → Option ℕ → List Instruction → Table → Table → Type 0
Carried c count address [] t last = last ≡ t
Carried c count address (instruction ∷ instructions) t last =
    (next : Table) × (applied c count instruction t ≡ Ok next) × (is_past address next ≡ false)
    × Carried c count address instructions next last

-- all are carried out, and the list ends
pub record RunsWhole (c : CommonInformation) (count : ℕ) (address : Option ℕ)
    (list : Listed Instruction) (t last : Table) : Type 0 where
  pub ends : list.fault ≡ None
  pub carried : Carried c count address list.items t last

-- a front of the list is carried out, and the instruction behind it sets the location above the
-- address
pub record RunsUntil (c : CommonInformation) (count : ℕ) (address : Option ℕ)
    (list : Listed Instruction) (t last : Table) : Type 0 where
  pub front : List Instruction
  pub instruction : Instruction
  pub behind : List Instruction
  pub stands : list.items ≡ front ++ instruction ∷ behind
  pub before : Table
  pub carried : Carried c count address front t before
  pub goes : applied c count instruction before ≡ Ok last
  pub past : is_past address last ≡ true

-- all are carried out, and the list stops with this fault
pub record StopsBehind (c : CommonInformation) (count : ℕ) (address : Option ℕ)
    (list : Listed Instruction) (t : Table) (fault : CallFrameFault) : Type 0 where
  pub last : Table
  pub stops : list.fault ≡ Some fault
  pub carried : Carried c count address list.items t last

-- a front of the list is carried out, and the instruction behind it can't be
pub record FailsAt (c : CommonInformation) (count : ℕ) (address : Option ℕ)
    (list : Listed Instruction) (t : Table) (fault : CallFrameFault) : Type 0 where
  pub front : List Instruction
  pub instruction : Instruction
  pub behind : List Instruction
  pub stands : list.items ≡ front ++ instruction ∷ behind
  pub before : Table
  pub carried : Carried c count address front t before
  pub fails : applied c count instruction before ≡ Err fault
