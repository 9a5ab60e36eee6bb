-- Runs, operation by operation.
use Rattle.std.proofs.Common.{◌≡◌, ◌≢◌, ◌<◌, ℕ, zero, suc, ◌+◌, ◌-◌, ◌==◌, true, false, List, Option, Ok, Err, refl, ap, ◌∙◌, arith}
use Rattle.std.proofs.lemmas.Bool.Decides.{nat_tests}
use Rattle.std.specs.Prelude.{◌≤◌, ◌^◌, Some}
use Rattle.plcr_base.proofs.Plain.{not_equal, is_equal}
use Rattle.plcr_memory.specs.Regions.{Contents, bytes_at}
use Rattle.plcr_regs.specs.declared.registers.Registers.{Registers}
use Rattle.plcr_leb128.specs.Cells.{Source, list_bytes}
use Rattle.plcr_leb128.proofs.Fixed.{stored_bytes}
use Rattle.plcr_dwarf_expr.specs.declared.limits.TheConstants.{MOST_OPERATIONS}
use Rattle.plcr_dwarf_expr.specs.declared.fault.ExprFault.{ExprFault}
use Rattle.plcr_dwarf_expr.specs.declared.fault.ExprFault.TheVariants.{Budget}
use Rattle.plcr_dwarf_expr.specs.Effects.{Moment, moment}
use Rattle.plcr_dwarf_expr.specs.Runs.{Setting, step_from, top_of, started, run_from, value_of, setting_at}

-- how many operations are left after so many
unfoldable pub left : ℕ → ℕ
left done = MOST_OPERATIONS - done

left_more : (done : ℕ) → done < MOST_OPERATIONS → left done ≡ suc (left (done + 1))
unfolding left
left_more done h = omega arith

left_none : left MOST_OPERATIONS ≡ zero
unfolding left
left_none = omega arith

run_whole : (s : Setting) (start : Option ℕ) (n : ℕ) → n ≡ MOST_OPERATIONS → run_from s n (moment 0 (started start)) ≡ value_of s start
unfolding value_of
run_whole s start n e = ap (λ k. run_from s k (moment 0 (started start))) e

-- the whole run
pub run_start : (s : Setting) (start : Option ℕ) → run_from s (left 0) (moment 0 (started start)) ≡ value_of s start
unfolding left
run_start s start = run_whole s start (MOST_OPERATIONS - 0) (omega arith)

-- at the end of the code
pub run_ends : (s : Setting) (n place : ℕ) (stack : List ℕ) → place ≡ s.size → run_from s n (moment place stack) ≡ top_of stack
run_ends s zero place stack h = rw (is_equal place s.size h) refl
run_ends s (suc n) place stack h = rw (is_equal place s.size h) refl

-- elsewhere, where the operation is carried out
pub run_goes : (s : Setting) (done place : ℕ) (stack : List ℕ) (next : Moment) → done < MOST_OPERATIONS → place ≢ s.size → step_from s (moment place stack) ≡ Ok next
    → run_from s (left done) (moment place stack) ≡ run_from s (left (done + 1)) next
run_goes s done place stack next more h goes =
    ap (λ k. run_from s k (moment place stack)) (left_more done more) ∙ rw (not_equal place s.size h, goes) refl

-- where it isn't
pub run_fails : (s : Setting) (done place : ℕ) (stack : List ℕ) (fault : ExprFault) → done < MOST_OPERATIONS → place ≢ s.size → step_from s (moment place stack) ≡ Err fault
    → run_from s (left done) (moment place stack) ≡ Err fault
run_fails s done place stack fault more h fails =
    ap (λ k. run_from s k (moment place stack)) (left_more done more) ∙ rw (not_equal place s.size h, fails) refl

-- and after as many operations as there may be
pub run_out : (s : Setting) (place : ℕ) (stack : List ℕ) → place ≢ s.size → run_from s (left MOST_OPERATIONS) (moment place stack) ≡ Err Budget
run_out s place stack h = ap (λ k. run_from s k (moment place stack)) left_none ∙ rw (not_equal place s.size h) refl

-- code that stands in a file as it stands in memory
pub stored_value : (memory : Contents) (registers : Registers) (at size : ℕ) (bytes : List ℕ) (start : Option ℕ) → bytes_at memory at size ≡ Some bytes → at + size ≤ 2 ^ 64
    → value_of (record { code = list_bytes bytes; size = size; memory = memory; registers = registers }) start ≡ value_of (setting_at memory registers at size) start
stored_value memory registers at size bytes start there within =
    ap (λ (code : Source). value_of (record { code = code; size = size; memory = memory; registers = registers }) start) (stored_bytes memory at size bytes within there)
