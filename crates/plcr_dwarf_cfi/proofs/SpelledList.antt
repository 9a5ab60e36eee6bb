-- The list of instructions is the one that the bytes spell.
use Rattle.std.proofs.Common.{◌≡◌, ◌≢◌, ◌≤◌, ◌<◌, inl, inr, ℕ, zero, suc, ◌+◌, ◌==◌, true, false, List, [], ◌∷◌, Option, Some, None, Ok, Err, Result, refl, ap, ◌∙◌, arith}
use Rattle.std.proofs.lemmas.Bool.{cases_eq}
use Rattle.plcr_base.specs.Chains.{◌>>=◌}
use Rattle.plcr_base.proofs.Plain.{is_equal, not_equal}
use Rattle.plcr_memory.specs.Regions.{Contents}
use Rattle.plcr_dwarf_cfi.specs.declared.decode.Decoded.{Decoded}
use Rattle.plcr_dwarf_cfi.specs.declared.entries.Encoding.{Encoding}
use Rattle.plcr_dwarf_cfi.specs.declared.entries.Extent.{Extent}
use Rattle.plcr_dwarf_cfi.specs.declared.fault.CallFrameFault.{CallFrameFault}
use Rattle.plcr_dwarf_cfi.specs.declared.instructions.Instruction.{Instruction}
use Rattle.plcr_dwarf_cfi.specs.Instructions.{instruction_at, instruction_before, instructions_in}
use Rattle.plcr_dwarf_cfi.specs.Lists.{Listed, behind, listed}
use Rattle.plcr_dwarf_cfi.specs.Sections.{Section, section_at, within}
use Rattle.plcr_dwarf_cfi.specs.Spelling.{Spelled, Spells}
use Rattle.plcr_dwarf_cfi.proofs.SpelledOut.{Inside, entry_inside}
use Rattle.plcr_dwarf_cfi.proofs.SpelledForward.{instruction_ends}

abbrev list_from : Section → Encoding → ℕ → ℕ → ℕ → Listed Instruction
list_from s encoding end left place = listed (instruction_before s encoding end) left place

abbrev IsList : Section → Encoding → ℕ → ℕ → Listed Instruction → Type 0
IsList s encoding end place list = Spelled s encoding end place list.items list.fault

-- what stands at a place that isn't the end
before_end : (s : Section) (encoding : Encoding) (end place : ℕ) → place ≡ end → instruction_before s encoding end place ≡ Ok None
unfolding instruction_before
before_end s encoding end place h = rw (is_equal place end h) refl

before_other : (s : Section) (encoding : Encoding) (end place : ℕ) → place ≢ end
    → instruction_before s encoding end place ≡ (instruction_at s encoding place >>= λ d. Ok (Some (d.instruction, d.next)))
unfolding instruction_before
before_other s encoding end place h = rw (not_equal place end h) refl

at_result : (s : Section) → Inside s → (encoding : Encoding) (end left place : ℕ) → place ≢ end → s.size < place + suc left
    → ((next : ℕ) → next ≤ s.size → s.size < next + left → IsList s encoding end next (list_from s encoding end left next))
    → (r : Result Decoded CallFrameFault) → instruction_at s encoding place ≡ r
    → IsList s encoding end place (behind (r >>= λ d. Ok (Some (d.instruction, d.next))) (λ next. list_from s encoding end left next))
at_result s inside encoding end left place elsewhere more rest (Err fault) e = (elsewhere, e)
at_result s inside encoding end left place elsewhere more rest (Ok d) e =
    let f = instruction_ends s inside encoding place d e in
    (elsewhere, (d, e, refl, rest d.next f.within (omega (arith, more, f.forward))))

-- there are steps enough: more than bytes from the place on
list_spelled : (s : Section) → Inside s → (encoding : Encoding) (end left place : ℕ) → place ≤ s.size → s.size < place + left
    → IsList s encoding end place (list_from s encoding end left place)
list_spelled s inside encoding end zero place within more = absurd (omega (arith, within, more))
list_spelled s inside encoding end (suc left) place within more =
    elim (cases_eq place end) [
      | inl at_end ↦ rw (before_end s encoding end place at_end) at_end
      | inr elsewhere ↦ rw (before_other s encoding end place elsewhere)
          (at_result s inside encoding end left place elsewhere more (λ next w m. list_spelled s inside encoding end left next w m) (instruction_at s encoding place) refl)
    ]

-- and no other list is spelled
only_list : (s : Section) → Inside s → (encoding : Encoding) (end left place : ℕ) (items : List Instruction) (fault : Option CallFrameFault) → place ≤ s.size → s.size < place + left
    → Spelled s encoding end place items fault → list_from s encoding end left place ≡ record { items = items; fault = fault }
only_list s inside encoding end zero place items fault within more h = absurd (omega (arith, within, more))
only_list s inside encoding end (suc left) place [] None within more h = rw (before_end s encoding end place h) refl
only_list s inside encoding end (suc left) place [] (Some fault) within more h = rw (before_other s encoding end place h.0) (rw h.1 refl)
only_list s inside encoding end (suc left) place (instruction ∷ items) fault within more h =
    let d = h.1.0 in
    let f = instruction_ends s inside encoding place d h.1.1 in
    let rest = only_list s inside encoding end left d.next items fault f.within (omega (arith, more, f.forward)) h.1.3 in
    rw (before_other s encoding end place h.0) (rw h.1.1
    (ap (λ (list : Listed Instruction). let l : Listed Instruction = record { items = d.instruction ∷ list.items; fault = list.fault } in l) rest
    ∙ ap (λ (i : Instruction). let l : Listed Instruction = record { items = i ∷ items; fault = fault } in l) h.1.2))

pub instructions_spelled : (memory : Contents) (at size : ℕ) (encoding : Encoding) (e : Extent) → 1 ≤ e.start → e.start ≤ size
    → Spells (within (section_at memory at size) e) encoding e (instructions_in (within (section_at memory at size) e) encoding e)
unfolding instructions_in
instructions_spelled memory at size encoding e begins within_size =
    list_spelled (within (section_at memory at size) e) (entry_inside memory at size e) encoding e.end size e.start within_size (omega (arith, begins))

pub instructions_only : (memory : Contents) (at size : ℕ) (encoding : Encoding) (e : Extent) (list : Listed Instruction) → 1 ≤ e.start → e.start ≤ size
    → Spells (within (section_at memory at size) e) encoding e list → instructions_in (within (section_at memory at size) e) encoding e ≡ list
unfolding instructions_in
instructions_only memory at size encoding e list begins within_size h =
    only_list (within (section_at memory at size) e) (entry_inside memory at size e) encoding e.end size e.start list.items list.fault within_size (omega (arith, begins)) h
