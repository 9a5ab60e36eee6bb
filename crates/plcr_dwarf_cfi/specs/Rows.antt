-- The row of a frame description entry at an address: DWARF 4, sections 6.4.1 to 6.4.3.
use Rattle.std.specs.Prelude.{ℕ, ◌+◌, ◌*◌, ◌%◌, ◌^◌, nat_lt, Bool, false, if◌then◌else◌, List, [], ◌∷◌, length, replicate, slice_index_or, slice_set, Option, Some, None, Result, Ok, Err}
use Rattle.std.specs.Option.{option_map_or}
use Rattle.plcr_base.specs.Chains.{◌>>=◌}
use Rattle.plcr_dwarf_cfi.specs.declared.entries.CommonInformation.{CommonInformation}
use Rattle.plcr_dwarf_cfi.specs.declared.entries.Extent.{Extent}
use Rattle.plcr_dwarf_cfi.specs.declared.entries.FrameDescription.{FrameDescription}
use Rattle.plcr_dwarf_cfi.specs.declared.fault.CallFrameFault.{CallFrameFault}
use Rattle.plcr_dwarf_cfi.specs.declared.fault.CallFrameFault.TheVariants.{CfaRule, RememberedRows, UnknownInstruction}
use Rattle.plcr_dwarf_cfi.specs.declared.instructions.CfaDefinition.{CfaDefinition}
use Rattle.plcr_dwarf_cfi.specs.declared.instructions.CfaDefinition.TheVariants.{DefCfa, DefCfaSf, DefCfaRegister, DefCfaOffset, DefCfaOffsetSf, DefCfaExpression}
use Rattle.plcr_dwarf_cfi.specs.declared.instructions.Instruction.{Instruction}
use Rattle.plcr_dwarf_cfi.specs.declared.instructions.Instruction.TheVariants.{Creation, Cfa, Rule, State, Nop, GnuArgsSize}
use Rattle.plcr_dwarf_cfi.specs.declared.instructions.RowCreation.{RowCreation}
use Rattle.plcr_dwarf_cfi.specs.declared.instructions.RowCreation.TheVariants.{SetLoc, AdvanceLoc, AdvanceLoc1, AdvanceLoc2, AdvanceLoc4}
use Rattle.plcr_dwarf_cfi.specs.declared.instructions.RowState.{RowState}
use Rattle.plcr_dwarf_cfi.specs.declared.instructions.RowState.TheVariants.{RememberState, RestoreState}
use Rattle.plcr_dwarf_cfi.specs.declared.instructions.RuleDefinition.{RuleDefinition}
use Rattle.plcr_dwarf_cfi.specs.declared.instructions.RuleDefinition.TheVariants as definitions
use Rattle.plcr_dwarf_cfi.specs.declared.limits.TheConstants.{MOST_REMEMBERED, MOST_RULES}
use Rattle.plcr_dwarf_cfi.specs.declared.row.CfaRule as cfa_rule
use Rattle.plcr_dwarf_cfi.specs.declared.row.CfaRule.TheVariants as cfas
use Rattle.plcr_dwarf_cfi.specs.declared.row.RegisterRule.{RegisterRule}
use Rattle.plcr_dwarf_cfi.specs.declared.row.RegisterRule.TheVariants as rules
use Rattle.plcr_dwarf_cfi.specs.declared.row.Row.{Row}
use Rattle.plcr_dwarf_cfi.specs.Instructions.{instructions_in}
use Rattle.plcr_dwarf_cfi.specs.Lists.{run_until}
use Rattle.plcr_dwarf_cfi.specs.Sections.{Section, passed_over, within}

-- where instructions have come: the row, the row behind those of the common information entry, the
-- rows that are remembered, the last one first, and the location from which on the row holds
pub record Table : Type 0 where
  pub row : Row
  pub initial : Option Row
  pub remembered : List Row
  pub location : ℕ

abbrev pub with_row : Row → Table → Table
with_row row t = record {
  row = row;
  initial = t.initial;
  remembered = t.remembered;
  location = t.location;
}

abbrev pub with_location : ℕ → Table → Table
with_location location t =
    record { row = t.row; initial = t.initial; remembered = t.remembered; location = location }

-- the product of a number and a factor
abbrev pub factored : ℕ → ℕ → ℕ
factored n factor = (n * factor) % 2 ^ 64

abbrev pub advanced : CommonInformation → ℕ → ℕ → ℕ
advanced c n location = (location + factored n c.code_alignment_factor) % 2 ^ 64

-- section 6.4.2.1
abbrev pub created : CommonInformation → RowCreation → ℕ → ℕ
created c (SetLoc location) old = location
created c (AdvanceLoc n) old = advanced c n old
created c (AdvanceLoc1 n) old = advanced c n old
created c (AdvanceLoc2 n) old = advanced c n old
created c (AdvanceLoc4 n) old = advanced c n old

-- within the instructions of a common information entry nothing moves the location
abbrev pub moved : ℕ → Option Row → Table → Table
moved location None t = t
moved location (Some row) t = with_location location t

-- section 6.4.2.2
abbrev pub with_cfa : cfa_rule.CfaRule → Row → Row
with_cfa cfa row = record { cfa = Some cfa; rules = row.rules }

abbrev pub with_register : ℕ → Option cfa_rule.CfaRule → Result cfa_rule.CfaRule CallFrameFault
with_register register None = Err CfaRule
with_register register (Some (cfas.RegisterOffset old offset)) =
    Ok (cfas.RegisterOffset register offset)
with_register register (Some (cfas.Expression block)) = Err CfaRule

abbrev pub with_offset : ℕ → Option cfa_rule.CfaRule → Result cfa_rule.CfaRule CallFrameFault
with_offset offset None = Err CfaRule
with_offset offset (Some (cfas.RegisterOffset register old)) =
    Ok (cfas.RegisterOffset register offset)
with_offset offset (Some (cfas.Expression block)) = Err CfaRule

abbrev pub defined : CommonInformation → CfaDefinition → Option cfa_rule.CfaRule →
    Result cfa_rule.CfaRule CallFrameFault
defined c (DefCfa register offset) cfa = Ok (cfas.RegisterOffset register offset)
defined c (DefCfaSf register offset) cfa =
    Ok (cfas.RegisterOffset register (factored offset c.data_alignment_factor))
defined c (DefCfaRegister register) cfa = with_register register cfa
defined c (DefCfaOffset offset) cfa = with_offset offset cfa
defined c (DefCfaOffsetSf offset) cfa = with_offset (factored offset c.data_alignment_factor) cfa
defined c (DefCfaExpression block) cfa = Ok (cfas.Expression block)

-- section 6.4.2.3: the rule of a register number; those of numbers past the architecture's, which
-- has so many, aren't kept
abbrev pub rule_at : Row → ℕ → Option RegisterRule
rule_at row register = slice_index_or row.rules register None

abbrev pub with_rule : ℕ → ℕ → Option RegisterRule → Row → Row
with_rule count register rule row =
    if nat_lt register count
    then record { cfa = row.cfa; rules = slice_set row.rules register rule } else row

-- the rule of the row behind the common information entry's instructions
abbrev pub restored : ℕ → ℕ → Option Row → Row → Result Row CallFrameFault
restored count register None row = Err UnknownInstruction
restored count register (Some initial) row =
    Ok (with_rule count register (rule_at initial register) row)

abbrev pub saved_at : CommonInformation → ℕ → RegisterRule
saved_at c offset = rules.Offset (factored offset c.data_alignment_factor)

abbrev pub address_at : CommonInformation → ℕ → RegisterRule
address_at c offset = rules.ValOffset (factored offset c.data_alignment_factor)

abbrev pub ruled : CommonInformation → ℕ → RuleDefinition → Option Row → Row →
    Result Row CallFrameFault
ruled c count (definitions.Undefined r) initial row =
    Ok (with_rule count r (Some rules.Undefined) row)
ruled c count (definitions.SameValue r) initial row =
    Ok (with_rule count r (Some rules.SameValue) row)
ruled c count (definitions.Offset r offset) initial row =
    Ok (with_rule count r (Some (saved_at c offset)) row)
ruled c count (definitions.OffsetExtended r offset) initial row =
    Ok (with_rule count r (Some (saved_at c offset)) row)
ruled c count (definitions.OffsetExtendedSf r offset) initial row =
    Ok (with_rule count r (Some (saved_at c offset)) row)
ruled c count (definitions.ValOffset r offset) initial row =
    Ok (with_rule count r (Some (address_at c offset)) row)
ruled c count (definitions.ValOffsetSf r offset) initial row =
    Ok (with_rule count r (Some (address_at c offset)) row)
ruled c count (definitions.Register r q) initial row =
    Ok (with_rule count r (Some (rules.Register q)) row)
ruled c count (definitions.Expression r block) initial row =
    Ok (with_rule count r (Some (rules.Expression block)) row)
ruled c count (definitions.ValExpression r block) initial row =
    Ok (with_rule count r (Some (rules.ValExpression block)) row)
ruled c count (definitions.Restore r) initial row = restored count r initial row
ruled c count (definitions.RestoreExtended r) initial row = restored count r initial row

-- section 6.4.2.4: a row is remembered, or the one remembered last is taken back, its canonical
-- frame address too
abbrev pub remembered : Table → Result Table CallFrameFault
remembered t =
    if nat_lt (length t.remembered) MOST_REMEMBERED
    then Ok (record {
      row = t.row;
      initial = t.initial;
      remembered = t.row ∷ t.remembered;
      location = t.location;
    })
    else Err RememberedRows

abbrev pub taken_back : Option Row → ℕ → List Row → Result Table CallFrameFault
taken_back initial location [] = Err RememberedRows
taken_back initial location (row ∷ rows) =
    Ok (record { row = row; initial = initial; remembered = rows; location = location })

abbrev pub kept : RowState → Table → Result Table CallFrameFault
kept RememberState t = remembered t
kept RestoreState t = taken_back t.initial t.location t.remembered

abbrev pub with_definition : CommonInformation → CfaDefinition → Table → Result Table CallFrameFault
with_definition c definition t = defined c definition t.row.cfa >>= λ cfa.
    Ok (with_row (with_cfa cfa t.row) t)

abbrev pub with_ruling : CommonInformation → ℕ → RuleDefinition → Table →
    Result Table CallFrameFault
with_ruling c count definition t = ruled c count definition t.initial t.row >>= λ row.
    Ok (with_row row t)

-- what an instruction makes of the table
abbrev pub applied : CommonInformation → ℕ → Instruction → Table → Result Table CallFrameFault
applied c count (Creation creation) t = Ok (moved (created c creation t.location) t.initial t)
applied c count (Cfa definition) t = with_definition c definition t
applied c count (Rule definition) t = with_ruling c count definition t
applied c count (State state) t = kept state t
applied c count Nop t = Ok t
applied c count (GnuArgsSize size) t = Ok t

-- section 6.4.3: the row of an address holds from a location that isn't above it on. Where no
-- address is given all instructions count
abbrev pub is_past : Option ℕ → Table → Bool
is_past address t = option_map_or (λ a. nat_lt a t.location) address false

-- what instructions make of the table, of an architecture with so many register numbers
unfoldable pub instructed : Section → CommonInformation → ℕ → Option ℕ → Extent → Table →
    Result Table CallFrameFault
instructed s c count address e t =
    run_until (applied c count) (is_past address) (instructions_in (within s e) c.pointers e) t

-- at first there are no rules
abbrev pub no_rules : Row
no_rules = record { cfa = None; rules = replicate MOST_RULES None }

abbrev pub at_first : ℕ → Table
at_first location = record { row = no_rules; initial = None; remembered = []; location = location }

-- behind the instructions of the common information entry the row is the initial one
abbrev pub begun : Table → Table
begun t = record {
  row = t.row;
  initial = Some t.row;
  remembered = t.remembered;
  location = t.location;
}

-- where the instructions of a frame description entry stand: behind its augmentation data, where it
-- has some
abbrev pub own_instructions : Section → FrameDescription → Result Extent CallFrameFault
own_instructions s d =
    if d.common.augmented then (passed_over (within s d.rest) d.rest d.rest.start >>= λ bytes.
    Ok (record { start = bytes.next; end = d.rest.end })) else
    Ok d.rest

-- the row at an address: the instructions of the common information entry are carried out whole,
-- and then those of the frame description entry up to the first that sets the location above the
-- address
unfoldable pub row_at : Section → ℕ → FrameDescription → ℕ → Result Row CallFrameFault
row_at s count d address =
    own_instructions s d >>= λ e.
    instructed s d.common count None d.common.initial_instructions (at_first d.initial_location)
    >>= λ t.
    instructed s d.common count (Some address) e (begun t) >>= λ last.
    Ok last.row
