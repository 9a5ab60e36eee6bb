-- The value of an expression, and its runs.
use Rattle.std.proofs.Common.{◌≡◌, ◌≢◌, ◌≤◌, inl, inr, ℕ, zero, suc, List, [], ◌∷◌, length, Option, None, Ok, Err, refl, sym, ap, ◌∙◌, arith}
use Rattle.std.proofs.lemmas.Bool.{cases_eq}
use Rattle.plcr_base.proofs.Chained.{bind_ok, bind_err}
use Rattle.plcr_base.proofs.Plain.{not_equal}
use Rattle.plcr_memory.specs.Regions.{Contents}
use Rattle.plcr_regs.specs.declared.registers.Registers.{Registers}
use Rattle.plcr_leb128.specs.Cells.{bytes_of}
use Rattle.plcr_leb128.proofs.Fixed.{piece_end}
use Rattle.plcr_dwarf_expr.specs.declared.limits.TheConstants.{MOST_OPERATIONS}
use Rattle.plcr_dwarf_expr.specs.declared.fault.ExprFault.{ExprFault}
use Rattle.plcr_dwarf_expr.specs.declared.fault.ExprFault.TheVariants.{Truncated, Budget}
use Rattle.plcr_dwarf_expr.specs.Effects.{Moment, moment}
use Rattle.plcr_dwarf_expr.specs.Runs.{Setting, step_from, top_of, started, run_from, value_of, setting_at, Follows, last_of, Stops, HasValue, HasFault}
use Rattle.plcr_dwarf_expr.proofs.Running.{run_ends}

-- the code has no byte at its end
record Closed (s : Setting) : Type 0 where
  pub none : bytes_of s.code s.size ≡ None

-- so no operation stands there
no_step : (s : Setting) → Closed s → (m next : Moment) → step_from s m ≡ Ok next → m.place ≢ s.size
no_step s closed m next goes at_end =
    let none : bytes_of s.code m.place ≡ None = ap (bytes_of s.code) at_end ∙ closed.none in
    let fails : step_from s m ≡ Err Truncated = rw none refl in
    cc

-- a run of at most so many operations that ends at the end of the code
record Ends (s : Setting) (most : ℕ) (m : Moment) (value : ℕ) : Type 0 where
  pub moments : List Moment
  pub fewer : length moments ≤ most
  pub follows : Follows s m moments
  pub at_end : (last_of m moments).place ≡ s.size
  pub top : top_of (last_of m moments).stack ≡ Ok value

ends_here : (s : Setting) (most : ℕ) (m : Moment) (value : ℕ) → m.place ≡ s.size → run_from s most m ≡ Ok value → Ends s most m value
ends_here s most m value at_end h =
    let top : top_of m.stack ≡ Ok value = sym (run_ends s most m.place m.stack at_end) ∙ h in
    record { moments = []; fewer = omega arith; follows = tt; at_end = at_end; top = top }

value_run : (s : Setting) (most : ℕ) (m : Moment) (value : ℕ) → run_from s most m ≡ Ok value → Ends s most m value
value_run s zero m value h =
    elim (cases_eq m.place s.size) [
      | inl at_end ↦ ends_here s zero m value at_end h
      | inr elsewhere ↦ let budget = rw (not_equal m.place s.size elsewhere) at h in cc
    ]
value_run s (suc most) m value h =
    elim (cases_eq m.place s.size) [
      | inl at_end ↦ ends_here s (suc most) m value at_end h
      | inr elsewhere ↦
          let goes = rw (not_equal m.place s.size elsewhere) at h in
          let first = bind_ok (step_from s m) (λ next. run_from s most next) value goes in
          let rest = value_run s most first.0 value first.2 in
          record { moments = first.0 ∷ rest.moments; fewer = omega (arith, rest.fewer); follows = (first.1, rest.follows); at_end = rest.at_end; top = rest.top }
    ]

run_value : (s : Setting) → Closed s → (most : ℕ) (m : Moment) (moments : List Moment) (value : ℕ) → length moments ≤ most → Follows s m moments
    → (last_of m moments).place ≡ s.size → top_of (last_of m moments).stack ≡ Ok value → run_from s most m ≡ Ok value
run_value s closed most m [] value fewer follows at_end top = run_ends s most m.place m.stack at_end ∙ top
run_value s closed zero m (next ∷ moments) value fewer follows at_end top = absurd (omega arith)
run_value s closed (suc most) m (next ∷ moments) value fewer follows at_end top =
    rw (not_equal m.place s.size (no_step s closed m next follows.0), follows.0) (run_value s closed most next moments value (omega arith) follows.1 at_end top)

-- a run of at most so many operations that stops without a value
record Fails (s : Setting) (most : ℕ) (m : Moment) (fault : ExprFault) : Type 0 where
  pub moments : List Moment
  pub fewer : length moments ≤ most
  pub follows : Follows s m moments
  pub stops : Stops s most (length moments) (last_of m moments) fault

fails_here : (s : Setting) (most : ℕ) (m : Moment) (fault : ExprFault) → m.place ≡ s.size → run_from s most m ≡ Err fault → Fails s most m fault
fails_here s most m fault at_end h =
    let top : top_of m.stack ≡ Err fault = sym (run_ends s most m.place m.stack at_end) ∙ h in
    record { moments = []; fewer = omega arith; follows = tt; stops = inl (at_end, top) }

more_stops : (s : Setting) (most count : ℕ) (m : Moment) (fault : ExprFault) → Stops s most count m fault → Stops s (suc most) (suc count) m fault
more_stops s most count m fault (inl h) = inl h
more_stops s most count m fault (inr (e, inl b)) = inr (e, inl (omega (arith, b.0), b.1))
more_stops s most count m fault (inr (e, inr f)) = inr (e, inr (omega (arith, f.0), f.1))

fewer_stops : (s : Setting) (most count : ℕ) (m : Moment) (fault : ExprFault) → Stops s (suc most) (suc count) m fault → Stops s most count m fault
fewer_stops s most count m fault (inl h) = inl h
fewer_stops s most count m fault (inr (e, inl b)) = inr (e, inl (omega (arith, b.0), b.1))
fewer_stops s most count m fault (inr (e, inr f)) = inr (e, inr (omega (arith, f.0), f.1))

fault_run : (s : Setting) (most : ℕ) (m : Moment) (fault : ExprFault) → run_from s most m ≡ Err fault → Fails s most m fault
fault_run s zero m fault h =
    elim (cases_eq m.place s.size) [
      | inl at_end ↦ fails_here s zero m fault at_end h
      | inr elsewhere ↦
          let budget = rw (not_equal m.place s.size elsewhere) at h in
          let is : Budget ≡ fault = cc in
          record { moments = []; fewer = omega arith; follows = tt; stops = inr (elsewhere, inl (refl, is)) }
    ]
fault_run s (suc most) m fault h =
    elim (cases_eq m.place s.size) [
      | inl at_end ↦ fails_here s (suc most) m fault at_end h
      | inr elsewhere ↦
          elim (bind_err (step_from s m) (λ next. run_from s most next) fault (rw (not_equal m.place s.size elsewhere) at h)) [
            | inl here ↦ record { moments = []; fewer = omega arith; follows = tt; stops = inr (elsewhere, inr (omega arith, here)) }
            | inr first ↦
                let rest = fault_run s most first.0 fault first.2 in
                record {
                  moments = first.0 ∷ rest.moments;
                  fewer = omega (arith, rest.fewer);
                  follows = (first.1, rest.follows);
                  stops = more_stops s most (length rest.moments) (last_of first.0 rest.moments) fault rest.stops;
                }
          ]
    ]

stop_fault : (s : Setting) (most : ℕ) (m : Moment) (fault : ExprFault) → Stops s most 0 m fault → run_from s most m ≡ Err fault
stop_fault s most m fault (inl h) = run_ends s most m.place m.stack h.0 ∙ h.1
stop_fault s zero m fault (inr (e, inl b)) = rw (not_equal m.place s.size e) (ap Err b.1)
stop_fault s zero m fault (inr (e, inr f)) = absurd (omega (arith, f.0))
stop_fault s (suc most) m fault (inr (e, inl b)) = absurd (omega (arith, b.0))
stop_fault s (suc most) m fault (inr (e, inr f)) = rw (not_equal m.place s.size e, f.1) refl

run_fault : (s : Setting) → Closed s → (most : ℕ) (m : Moment) (moments : List Moment) (fault : ExprFault) → length moments ≤ most → Follows s m moments
    → Stops s most (length moments) (last_of m moments) fault → run_from s most m ≡ Err fault
run_fault s closed most m [] fault fewer follows stops = stop_fault s most m fault stops
run_fault s closed zero m (next ∷ moments) fault fewer follows stops = absurd (omega arith)
run_fault s closed (suc most) m (next ∷ moments) fault fewer follows stops =
    rw (not_equal m.place s.size (no_step s closed m next follows.0), follows.0)
    (run_fault s closed most next moments fault (omega arith) follows.1 (fewer_stops s most (length moments) (last_of next moments) fault stops))

closed_at : (memory : Contents) (registers : Registers) (at size : ℕ) → Closed (setting_at memory registers at size)
closed_at memory registers at size = record { none = piece_end memory at size size (omega arith) }

pub value_has_run : (memory : Contents) (registers : Registers) (at size : ℕ) (start : Option ℕ) (value : ℕ)
    → value_of (setting_at memory registers at size) start ≡ Ok value → HasValue (setting_at memory registers at size) start value
unfolding value_of
value_has_run memory registers at size start value h =
    let r = value_run (setting_at memory registers at size) MOST_OPERATIONS (moment 0 (started start)) value h in
    record { run = record { moments = r.moments; most = r.fewer; follows = r.follows }; at_end = r.at_end; top = r.top }

pub run_has_value : (memory : Contents) (registers : Registers) (at size : ℕ) (start : Option ℕ) (value : ℕ)
    → HasValue (setting_at memory registers at size) start value → value_of (setting_at memory registers at size) start ≡ Ok value
unfolding value_of
run_has_value memory registers at size start value h =
    run_value (setting_at memory registers at size) (closed_at memory registers at size) MOST_OPERATIONS (moment 0 (started start)) h.run.moments value h.run.most h.run.follows h.at_end h.top

pub fault_has_run : (memory : Contents) (registers : Registers) (at size : ℕ) (start : Option ℕ) (fault : ExprFault)
    → value_of (setting_at memory registers at size) start ≡ Err fault → HasFault (setting_at memory registers at size) start fault
unfolding value_of
fault_has_run memory registers at size start fault h =
    let r = fault_run (setting_at memory registers at size) MOST_OPERATIONS (moment 0 (started start)) fault h in
    record { run = record { moments = r.moments; most = r.fewer; follows = r.follows }; stops = r.stops }

pub run_has_fault : (memory : Contents) (registers : Registers) (at size : ℕ) (start : Option ℕ) (fault : ExprFault)
    → HasFault (setting_at memory registers at size) start fault → value_of (setting_at memory registers at size) start ≡ Err fault
unfolding value_of
run_has_fault memory registers at size start fault h =
    run_fault (setting_at memory registers at size) (closed_at memory registers at size) MOST_OPERATIONS (moment 0 (started start)) h.run.moments fault h.run.most h.run.follows h.stops
