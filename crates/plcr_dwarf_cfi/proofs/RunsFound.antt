-- What instructions make of a table is what a front of them makes.
use Rattle.std.proofs.Common.{◌≡◌, ◌⊎◌, inl, inr, ℕ, Bool, true, false, cond, List, [], ◌∷◌, ◌++◌, Option, Some, None, Ok, Err, Result, refl, sym, ap, ◌∙◌}
use Rattle.plcr_base.proofs.Chained.{bind_err, bind_ok}
use Rattle.plcr_dwarf_cfi.specs.declared.entries.CommonInformation.{CommonInformation}
use Rattle.plcr_dwarf_cfi.specs.declared.fault.CallFrameFault.{CallFrameFault}
use Rattle.plcr_dwarf_cfi.specs.declared.instructions.Instruction.{Instruction}
use Rattle.plcr_dwarf_cfi.specs.Lists.{Listed, ended, fold_until, run_until}
use Rattle.plcr_dwarf_cfi.specs.Rows.{Table, applied, is_past}
use Rattle.plcr_dwarf_cfi.specs.Runs.{Carried, FailsAt, RunsUntil, RunsWhole, StopsBehind}

-- what stands behind one instruction
abbrev go_on : CommonInformation → ℕ → Option ℕ → List Instruction → Option CallFrameFault → Table → Result Table CallFrameFault
go_on c count address items fault next = cond (is_past address next) (Ok next) (fold_until (applied c count) (is_past address) items fault next)

abbrev Runs : CommonInformation → ℕ → Option ℕ → List Instruction → Option CallFrameFault → Table → Table → Type 0
Runs c count address items fault t last =
    RunsWhole c count address (record { items = items; fault = fault }) t last ⊎ RunsUntil c count address (record { items = items; fault = fault }) t last

end_ok : (fault : Option CallFrameFault) (t last : Table) → ended fault t ≡ Ok last → (fault ≡ None) × (last ≡ t)
end_ok None t last h = let e : last ≡ t = cc in (refl, e)
end_ok (Some fault) t last h = let h2 = h in cc

run_step : (c : CommonInformation) (count : ℕ) (address : Option ℕ) (instruction : Instruction) (items : List Instruction) (fault : Option CallFrameFault) (t next last : Table) (b : Bool)
    → applied c count instruction t ≡ Ok next → is_past address next ≡ b
    → (fold_until (applied c count) (is_past address) items fault next ≡ Ok last → Runs c count address items fault next last)
    → cond b (Ok next) (fold_until (applied c count) (is_past address) items fault next) ≡ Ok last
    → Runs c count address (instruction ∷ items) fault t last
run_step c count address instruction items fault t next last true goes past rest h =
    let same : next ≡ last = cc in
    inr (record {
      front = [];
      instruction = instruction;
      behind = items;
      stands = refl;
      before = t;
      carried = refl;
      goes = goes ∙ ap Ok same;
      past = ap (is_past address) (sym same) ∙ past;
    })
run_step c count address instruction items fault t next last false goes past rest h =
    elim (rest h) [
      | inl whole ↦ inl (record { ends = whole.ends; carried = (next, goes, past, whole.carried) })
      | inr until ↦ inr (record {
        front = instruction ∷ until.front;
        instruction = until.instruction;
        behind = until.behind;
        stands = ap (λ (xs : List Instruction). instruction ∷ xs) until.stands;
        before = until.before;
        carried = (next, goes, past, until.carried);
        goes = until.goes;
        past = until.past;
      })
    ]

run_by : (c : CommonInformation) (count : ℕ) (address : Option ℕ) (items : List Instruction) (fault : Option CallFrameFault) (t last : Table)
    → fold_until (applied c count) (is_past address) items fault t ≡ Ok last → Runs c count address items fault t last
run_by c count address [] fault t last h =
    let e = end_ok fault t last h in
    inl (record { ends = e.0; carried = e.1 })
run_by c count address (instruction ∷ items) fault t last h =
    let first = bind_ok (applied c count instruction t) (go_on c count address items fault) last h in
    run_step c count address instruction items fault t first.0 last (is_past address first.0) first.1 refl (run_by c count address items fault first.0 last) first.2

pub run_found : (c : CommonInformation) (count : ℕ) (address : Option ℕ) (list : Listed Instruction) (t last : Table)
    → run_until (applied c count) (is_past address) list t ≡ Ok last
    → RunsWhole c count address list t last ⊎ RunsUntil c count address list t last
run_found c count address list t last h = run_by c count address list.items list.fault t last h

-- and no other front does
carried_on : (c : CommonInformation) (count : ℕ) (address : Option ℕ) (front items : List Instruction) (fault : Option CallFrameFault) (t before : Table)
    → Carried c count address front t before
    → fold_until (applied c count) (is_past address) (front ++ items) fault t ≡ fold_until (applied c count) (is_past address) items fault before
carried_on c count address [] items fault t before h = ap (fold_until (applied c count) (is_past address) items fault) (sym h)
carried_on c count address (instruction ∷ front) items fault t before h =
    rw h.1 (rw h.2 (carried_on c count address front items fault h.0 before h.3))

all_carried : (c : CommonInformation) (count : ℕ) (address : Option ℕ) (items : List Instruction) (fault : Option CallFrameFault) (t last : Table)
    → Carried c count address items t last → fold_until (applied c count) (is_past address) items fault t ≡ ended fault last
all_carried c count address [] fault t last h = ap (ended fault) (sym h)
all_carried c count address (instruction ∷ items) fault t last h =
    rw h.1 (rw h.2 (all_carried c count address items fault h.0 last h.3))

pub whole_found : (c : CommonInformation) (count : ℕ) (address : Option ℕ) (list : Listed Instruction) (t last : Table)
    → RunsWhole c count address list t last → run_until (applied c count) (is_past address) list t ≡ Ok last
whole_found c count address list t last h = all_carried c count address list.items list.fault t last h.carried ∙ ap (λ (f : Option CallFrameFault). ended f last) h.ends

pub until_found : (c : CommonInformation) (count : ℕ) (address : Option ℕ) (list : Listed Instruction) (t last : Table)
    → RunsUntil c count address list t last → run_until (applied c count) (is_past address) list t ≡ Ok last
until_found c count address list t last h =
    ap (λ (xs : List Instruction). fold_until (applied c count) (is_past address) xs list.fault t) h.stands
    ∙ carried_on c count address h.front (h.instruction ∷ h.behind) list.fault t h.before h.carried
    ∙ rw h.goes (rw h.past refl)

-- faults
abbrev Fails : CommonInformation → ℕ → Option ℕ → List Instruction → Option CallFrameFault → Table → CallFrameFault → Type 0
Fails c count address items fault t e =
    StopsBehind c count address (record { items = items; fault = fault }) t e ⊎ FailsAt c count address (record { items = items; fault = fault }) t e

end_err : (fault : Option CallFrameFault) (t : Table) (e : CallFrameFault) → ended fault t ≡ Err e → fault ≡ Some e
end_err None t e h = let h2 = h in cc
end_err (Some fault) t e h = let same : fault ≡ e = cc in ap (λ (k : CallFrameFault). let s : Option CallFrameFault = Some k in s) same

fail_step : (c : CommonInformation) (count : ℕ) (address : Option ℕ) (instruction : Instruction) (items : List Instruction) (fault : Option CallFrameFault) (t next : Table) (e : CallFrameFault) (b : Bool)
    → applied c count instruction t ≡ Ok next → is_past address next ≡ b
    → (fold_until (applied c count) (is_past address) items fault next ≡ Err e → Fails c count address items fault next e)
    → cond b (Ok next) (fold_until (applied c count) (is_past address) items fault next) ≡ Err e
    → Fails c count address (instruction ∷ items) fault t e
fail_step c count address instruction items fault t next e true goes past rest h = let h2 = h in cc
fail_step c count address instruction items fault t next e false goes past rest h =
    elim (rest h) [
      | inl stops ↦ inl (record { last = stops.last; stops = stops.stops; carried = (next, goes, past, stops.carried) })
      | inr fails ↦ inr (record {
        front = instruction ∷ fails.front;
        instruction = fails.instruction;
        behind = fails.behind;
        stands = ap (λ (xs : List Instruction). instruction ∷ xs) fails.stands;
        before = fails.before;
        carried = (next, goes, past, fails.carried);
        fails = fails.fails;
      })
    ]

fail_by : (c : CommonInformation) (count : ℕ) (address : Option ℕ) (items : List Instruction) (fault : Option CallFrameFault) (t : Table) (e : CallFrameFault)
    → fold_until (applied c count) (is_past address) items fault t ≡ Err e → Fails c count address items fault t e
fail_by c count address [] fault t e h = inl (record { last = t; stops = end_err fault t e h; carried = refl })
fail_by c count address (instruction ∷ items) fault t e h =
    elim (bind_err (applied c count instruction t) (go_on c count address items fault) e h) [
      | inl here ↦ inr (record { front = []; instruction = instruction; behind = items; stands = refl; before = t; carried = refl; fails = here })
      | inr first ↦ fail_step c count address instruction items fault t first.0 e (is_past address first.0) first.1 refl (fail_by c count address items fault first.0 e) first.2
    ]

pub fault_found : (c : CommonInformation) (count : ℕ) (address : Option ℕ) (list : Listed Instruction) (t : Table) (e : CallFrameFault)
    → run_until (applied c count) (is_past address) list t ≡ Err e
    → StopsBehind c count address list t e ⊎ FailsAt c count address list t e
fault_found c count address list t e h = fail_by c count address list.items list.fault t e h

pub stop_found : (c : CommonInformation) (count : ℕ) (address : Option ℕ) (list : Listed Instruction) (t : Table) (e : CallFrameFault)
    → StopsBehind c count address list t e → run_until (applied c count) (is_past address) list t ≡ Err e
stop_found c count address list t e h = all_carried c count address list.items list.fault t h.last h.carried ∙ ap (λ (f : Option CallFrameFault). ended f h.last) h.stops

pub fail_found : (c : CommonInformation) (count : ℕ) (address : Option ℕ) (list : Listed Instruction) (t : Table) (e : CallFrameFault)
    → FailsAt c count address list t e → run_until (applied c count) (is_past address) list t ≡ Err e
fail_found c count address list t e h =
    ap (λ (xs : List Instruction). fold_until (applied c count) (is_past address) xs list.fault t) h.stands
    ∙ carried_on c count address h.front (h.instruction ∷ h.behind) list.fault t h.before h.carried
    ∙ rw h.fails refl
