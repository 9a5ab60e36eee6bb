-- The rules of registers, number by number.
use Rattle.std.proofs.Common.{◌≡◌, ◌<◌, ℕ, suc, ◌+◌, List, [], ◌∷◌, length, drop, slice_index_or, Option, None, Ok, Err, Result, refl, ap, ◌∙◌, arith}
use Rattle.std.proofs.Math.Seq.{drop-cons}
use Rattle.plcr_base.specs.Chains.{◌>>=◌}
use Rattle.plcr_memory.specs.Regions.{Contents}
use Rattle.plcr_regs.specs.declared.registers.Registers.{Registers}
use Rattle.plcr_dwarf_cfi.specs.declared.fault.CallFrameFault.{CallFrameFault}
use Rattle.plcr_dwarf_cfi.specs.declared.row.RegisterRule.{RegisterRule}
use Rattle.plcr_dwarf_cfi.specs.Caller.{replaced, replaced_by}

-- what the rules from a number on make of the values
unfoldable pub replaced_from : Contents → Registers → ℕ → List (Option RegisterRule) → ℕ → List (Option ℕ) → Result (List (Option ℕ)) CallFrameFault
replaced_from memory state cfa rules number values = replaced memory state cfa number (drop number rules) values

pub replaced_start : (memory : Contents) (state : Registers) (cfa : ℕ) (rules : List (Option RegisterRule)) (values : List (Option ℕ))
    → replaced_from memory state cfa rules 0 values ≡ replaced memory state cfa 0 rules values
unfolding replaced_from
replaced_start memory state cfa rules values = refl

at_number : (memory : Contents) (state : Registers) (cfa : ℕ) (rules : List (Option RegisterRule)) (number : ℕ) (values : List (Option ℕ)) → number < length rules
    → replaced_from memory state cfa rules number values
    ≡ (replaced_by memory state cfa number (slice_index_or rules number None) values >>= λ next. replaced memory state cfa (number + 1) (drop (number + 1) rules) next)
unfolding replaced_from
at_number memory state cfa rules number values h =
    let e : suc number ≡ number + 1 = omega arith in
    ap (λ rest. replaced memory state cfa number rest values) (drop-cons rules number None h)
    ∙ ap (λ (k : ℕ). replaced_by memory state cfa number (slice_index_or rules number None) values >>= λ next. replaced memory state cfa (number + 1) (drop k rules) next) e

pub replaced_goes : (memory : Contents) (state : Registers) (cfa : ℕ) (rules : List (Option RegisterRule)) (number : ℕ) (values next : List (Option ℕ)) → number < length rules
    → replaced_by memory state cfa number (slice_index_or rules number None) values ≡ Ok next
    → replaced_from memory state cfa rules number values ≡ replaced_from memory state cfa rules (number + 1) next
unfolding replaced_from
replaced_goes memory state cfa rules number values next h goes = at_number memory state cfa rules number values h ∙ rw goes refl

pub replaced_fails : (memory : Contents) (state : Registers) (cfa : ℕ) (rules : List (Option RegisterRule)) (number : ℕ) (values : List (Option ℕ)) (fault : CallFrameFault) → number < length rules
    → replaced_by memory state cfa number (slice_index_or rules number None) values ≡ Err fault
    → replaced_from memory state cfa rules number values ≡ Err fault
unfolding replaced_from
replaced_fails memory state cfa rules number values fault h fails = at_number memory state cfa rules number values h ∙ rw fails refl

drop_all : {A : Type 0} (xs : List A) (n : ℕ) → n ≡ length xs → drop n xs ≡ []
drop_all [] n h = rw h refl
drop_all (x ∷ xs) n h = rw h (drop_all xs (length xs) refl)

pub replaced_all : (memory : Contents) (state : Registers) (cfa : ℕ) (rules : List (Option RegisterRule)) (number : ℕ) (values : List (Option ℕ)) → number ≡ length rules
    → replaced_from memory state cfa rules number values ≡ Ok values
unfolding replaced_from
replaced_all memory state cfa rules number values h = ap (λ rest. replaced memory state cfa number rest values) (drop_all rules number h)
