-- The turns of a run one after the other: what was done for them so far, and where they stop.
use Rattle.std.proofs.Common.{inl, inr, ◌≡◌, ℕ, zero, suc, ◌+◌, ◌⊎◌, List, [], ◌∷◌, ◌++◌, Some, Result, Ok, Err, length, take, drop, refl, sym, ap, subst, ◌∙◌, append-nil, take-append-drop}
use Rattle.std.specs.Prelude.{slice_get}
use Rattle.std.specs.Option.{option_map}
use Rattle.std.proofs.Math.Seq.{take-length}
use Rattle.std.proofs.lemmas.Grind.{flat_map-append}
use Rattle.plcr_base.specs.Told.{Gains}
use Rattle.plcr_script.specs.declared.statements.Statement.{Statement}
use Rattle.plcr_script.specs.declared.statements.NumberedStatement.{NumberedStatement}
use Rattle.plcr_script.specs.Scripts.{ScriptValue, line_at, statement_at}
use Rattle.plcr_script.specs.Places.{in_behind, is_in_behind}
use Rattle.plcr_script.specs.Meanings.{Meanings}
use Rattle.plcr_script.specs.RunStates.{State, is_in, first_state}
use Rattle.plcr_script.specs.RunTurns.{turn_of}
use Rattle.plcr_script.specs.Run.{NumberedTurn, turns_from, run_of, state_after, kept_by, log_of}
use Rattle.plcr_script.specs.RunLaws.{state_behind}
use Rattle.plcr_script.proofs.PrefixRuns.{states_go_on}
use Rattle.plcr_script.proofs.Insides.{in_behind_more}
use Rattle.plcr_command.specs.Seen.{Seen}
use Rattle.plcr_command.specs.Endings.{GoesOn, HasKept, CannotPrint}
use Rattle.plcr_command.proofs.Kept.{kept_none, kept_twice, goes_none, goes_twice, unwritten_after, unprinted_after}
use Rattle.plcr_command.proofs.Numbered.{parts_at, take_next}
use Rattle.plcr_run.specs.declared.stepping.Stop.{Stop}
use Rattle.plcr_run.specs.declared.stepping.Stop.TheVariants.{Unwritten, Unprinted}
use Rattle.plcr_run.specs.declared.slots.Slot.{Slot}
use Rattle.plcr_run.specs.declared.writing.Writing.{Writing}
use Rattle.plcr_run.specs.inner.Slots.{slot_at}
use Rattle.plcr_run.specs.inner.Tokens.{writer_of, IsAll, place_in, StateIs}
use Rattle.plcr_run.specs.inner.Stepping.{IsUnwritten, StepEnds, StepIs, Steps, MovesOnly, will_change}
use Rattle.plcr_run.specs.inner.Running.{IsFresh, RunDone, RunStopped, StoppedBehind}
use Rattle.plcr_run.specs.Runs.{run_behind, IsDone, IsStopped, CannotKeep, CannotLog, line_of}

-- the files and the log of turns and of one more
kept_more : (run : List NumberedTurn) (x : NumberedTurn) → kept_by (run ++ x ∷ []) ≡ kept_by run ++ x.turn.kept
kept_more run x = flat_map-append (λ (t : NumberedTurn). t.turn.kept) run (x ∷ []) ∙ ap (λ l. kept_by run ++ l) (append-nil x.turn.kept)

log_more : (run : List NumberedTurn) (x : NumberedTurn) → log_of (run ++ x ∷ []) ≡ log_of run ++ line_of x
log_more run x = flat_map-append line_of run (x ∷ []) ∙ ap (λ l. log_of run ++ l) (append-nil (line_of x))

pub so_far_more : (run : List NumberedTurn) (i : ℕ) (x : NumberedTurn) (old mid new : Seen) → slice_get run i ≡ Some x → IsDone (take i run) old mid → HasKept x.turn.kept (line_of x) mid new → IsDone (take (i + 1) run) old new
so_far_more run i x old mid new is before one =
    let all = kept_twice (kept_by (take i run)) x.turn.kept (log_of (take i run)) (line_of x) old mid new before one in
    let P : List NumberedTurn → Type 0 = λ l. IsDone l old new in
    subst P (sym (take_next run i x is)) (rw (kept_more (take i run) x, log_more (take i run) x) all)

-- the turns stop at this one
pub stops : (run : List NumberedTurn) (i : ℕ) (x : NumberedTurn) (old mid new : Seen) → slice_get run i ≡ Some x → IsDone (take i run) old mid → GoesOn old mid → IsUnwritten x.turn.kept mid new ⊎ CannotPrint x.turn.kept [] (line_of x) mid new → IsStopped run old new
stops run i x old mid new is before goes (inl write) =
    let stop = unwritten_after (kept_by (take i run)) (log_of (take i run)) write.name write.bytes old mid new before goes write.stop in
    let keep : CannotKeep (take i run) x old new = record { name = write.name; bytes = write.bytes; file = write.file; stop = stop } in
    record { before = take i run; at = x; after = drop (i + 1) run; parts = parts_at run i x is; how = inl keep }
stops run i x old mid new is before goes (inr print) =
    let stop = unprinted_after (kept_by (take i run)) x.turn.kept (log_of (take i run)) (line_of x) old mid new before goes print in
    let log : CannotLog (take i run) x old new = rw (kept_more (take i run) x) stop in
    record { before = take i run; at = x; after = drop (i + 1) run; parts = parts_at run i x is; how = inr log }

-- the state behind the first statements of a script
abbrev pub state_at : Meanings → ScriptValue → ℕ → State
state_at process script i = state_behind process script (take i script.statements)

-- the turn of a statement, among those of several
found_turn : (process : Meanings) (nodes passes : ℕ) (xs : List NumberedStatement) (s : State) (k number : ℕ) (statement : Statement) → Some number ≡ option_map (λ (x : NumberedStatement). x.line) (slice_get xs k) → Some statement ≡ option_map (λ (x : NumberedStatement). x.statement) (slice_get xs k)
    → slice_get (turns_from process nodes passes s xs) k ≡ Some (record { line = number; turn = turn_of process nodes passes (state_after process nodes passes s (take k xs)) statement })
found_turn process nodes passes [] s k number statement line stated = cc
found_turn process nodes passes (x ∷ xs) s zero number statement line stated =
    let a : number ≡ x.line = cc in
    let b : statement ≡ x.statement = cc in
    rw (a, b) refl
found_turn process nodes passes (x ∷ xs) s (suc k) number statement line stated =
    found_turn process nodes passes xs (turn_of process nodes passes s x.statement).state k number statement line stated

-- the turn of a statement of a script
pub turn_at : (process : Meanings) (script : ScriptValue) (i number : ℕ) (statement : Statement) → Some number ≡ line_at script i → Some statement ≡ statement_at script i
    → slice_get (run_of process script) i ≡ Some (record { line = number; turn = turn_of process script.nodes script.passes (state_at process script i) statement })
unfolding run_of
turn_at process script i number statement line stated = found_turn process script.nodes script.passes script.statements first_state i number statement line stated

-- the statement itself
found_at : (xs : List NumberedStatement) (i number : ℕ) (statement : Statement) → Some number ≡ option_map (λ (x : NumberedStatement). x.line) (slice_get xs i) → Some statement ≡ option_map (λ (x : NumberedStatement). x.statement) (slice_get xs i)
    → slice_get xs i ≡ Some (record { line = number; statement = statement })
found_at [] i number statement line stated = cc
found_at (x ∷ xs) zero number statement line stated =
    let a : number ≡ x.line = cc in
    let b : statement ≡ x.statement = cc in
    λ j. Some (record { line = sym a j; statement = sym b j })
found_at (x ∷ xs) (suc i) number statement line stated = found_at xs i number statement line stated

pub numbered_at : (script : ScriptValue) (i number : ℕ) (statement : Statement) → Some number ≡ line_at script i → Some statement ≡ statement_at script i → slice_get script.statements i ≡ Some (record { line = number; statement = statement })
numbered_at script i number statement line stated = found_at script.statements i number statement line stated

-- and the state behind it
pub state_more : (process : Meanings) (script : ScriptValue) (i number : ℕ) (statement : Statement) → slice_get script.statements i ≡ Some (record { line = number; statement = statement })
    → state_at process script (i + 1) ≡ (turn_of process script.nodes script.passes (state_at process script i) statement).state
state_more process script i number statement is =
    ap (state_behind process script) (take_next script.statements i (record { line = number; statement = statement }) is)
    ∙ states_go_on process script.nodes script.passes first_state (take i script.statements) (record { line = number; statement = statement } ∷ [])

-- what is known behind the first statements
pub record SoFar (process : Meanings) (script : ScriptValue) (i : ℕ) (old : Seen) (writing : Writing) (slots : List Slot) (now : Seen) : Type 0 where
  pub nodes : (writer_of writing).nodes ≡ script.nodes
  pub passes : (writer_of writing).passes ≡ script.passes
  pub done : IsAll writing slots → IsDone (take i (run_of process script)) old now
  pub state : IsAll writing slots → StateIs writing slots (state_at process script i)
  pub places : (k : ℕ) → is_in (place_in (slot_at slots k)) ≡ is_in_behind k (take i script.statements)
  pub goes : GoesOn old now

pub so_far_none : (process : Meanings) (script : ScriptValue) (old : Seen) (writing : Writing) (slots : List Slot) → IsFresh script writing slots → SoFar process script 0 old writing slots old
unfolding is_in_behind
so_far_none process script old writing slots fresh = record {
  nodes = fresh.nodes;
  passes = fresh.passes;
  done = λ all. kept_none old;
  state = λ all. fresh.state;
  places = fresh.out;
  goes = goes_none old;
}

-- one statement more
step_at : (process : Meanings) (script : ScriptValue) (i number : ℕ) (statement : Statement) (old mid new : Seen) (writing next : Writing) (slots nexts : List Slot) (result : Result (Unit {0}) Stop) → SoFar process script i old writing slots mid
    → Steps process number statement writing slots mid next nexts new result → IsAll next nexts → StepIs (turn_of process script.nodes script.passes (state_at process script i) statement) number (state_at process script i) mid new next nexts result
step_at process script i number statement old mid new writing next slots nexts result before steps all =
    let is = steps.is all (state_at process script i) (before.state (steps.back all)) in
    subst (λ n. StepIs (turn_of process n script.passes (state_at process script i) statement) number (state_at process script i) mid new next nexts result) before.nodes
    (subst (λ p. StepIs (turn_of process (writer_of writing).nodes p (state_at process script i) statement) number (state_at process script i) mid new next nexts result) before.passes is)

pub so_far_next : (process : Meanings) (script : ScriptValue) (i number : ℕ) (statement : Statement) (old mid new : Seen) (writing next : Writing) (slots nexts : List Slot) → Some number ≡ line_at script i → Some statement ≡ statement_at script i
    → SoFar process script i old writing slots mid → Steps process number statement writing slots mid next nexts new (Ok tt) → MovesOnly statement slots nexts → GoesOn mid new → SoFar process script (i + 1) old next nexts new
so_far_next process script i number statement old mid new writing next slots nexts line stated before steps moves goes =
    let at = numbered_at script i number statement line stated in
    let turn = turn_at process script i number statement line stated in
    record {
      nodes = steps.sizes.0 ∙ before.nodes;
      passes = steps.sizes.1 ∙ before.passes;
      done = λ all. so_far_more (run_of process script) i _ old mid new turn (before.done (steps.back all)) (step_at process script i number statement old mid new writing next slots nexts (Ok tt) before steps all).ends;
      state = λ all. subst (λ (s : State). StateIs next nexts s) (sym (state_more process script i number statement at)) (step_at process script i number statement old mid new writing next slots nexts (Ok tt) before steps all).leaves;
      places = λ k. moves k ∙ ap (λ b. in_behind k b statement) (before.places k)
          ∙ sym (ap (is_in_behind k) (take_next script.statements i (record { line = number; statement = statement }) at) ∙ in_behind_more k (take i script.statements) (record { line = number; statement = statement }));
      goes = goes_twice old mid new before.goes goes;
    }

-- there are as many turns as statements
length-turns : (process : Meanings) (nodes passes : ℕ) (s : State) (xs : List NumberedStatement) → length (turns_from process nodes passes s xs) ≡ length xs
length-turns process nodes passes s [] = refl
length-turns process nodes passes s (x ∷ xs) = ap (λ n. suc n) (length-turns process nodes passes (turn_of process nodes passes s x.statement).state xs)

length-run_of : (process : Meanings) (script : ScriptValue) → length (run_of process script) ≡ length script.statements
unfolding run_of
length-run_of process script = length-turns process script.nodes script.passes first_state script.statements

-- all statements
pub all_done : (process : Meanings) (script : ScriptValue) (i : ℕ) (old now : Seen) (writing : Writing) (slots : List Slot) → i ≡ length script.statements → SoFar process script i old writing slots now → RunDone process script old writing slots now
all_done process script i old now writing slots all so = record {
  nodes = so.nodes;
  passes = so.passes;
  done = λ a. subst (λ (l : List NumberedTurn). IsDone l old now) (ap (λ n. take n (run_of process script)) (all ∙ sym (length-run_of process script)) ∙ take-length (run_of process script)) (so.done a);
  state = λ a. subst (λ (l : List NumberedStatement). StateIs writing slots (state_behind process script l)) (ap (λ n. take n script.statements) all ∙ take-length script.statements) (so.state a);
}

-- the first turns are those of the first statements
first_turns : (process : Meanings) (nodes passes : ℕ) (s : State) (i : ℕ) (xs : List NumberedStatement) → take i (turns_from process nodes passes s xs) ≡ turns_from process nodes passes s (take i xs)
first_turns process nodes passes s zero xs = refl
first_turns process nodes passes s (suc i) [] = refl
first_turns process nodes passes s (suc i) (x ∷ xs) = ap (λ l. record { line = x.line; turn = turn_of process nodes passes s x.statement } ∷ l) (first_turns process nodes passes (turn_of process nodes passes s x.statement).state i xs)

first_run : (process : Meanings) (script : ScriptValue) (i : ℕ) → take i (run_of process script) ≡ run_behind process script (take i script.statements)
unfolding run_of
first_run process script i = first_turns process script.nodes script.passes first_state i script.statements

-- what was kept where the run stops: all files before the turn, and its own where only its line wasn't printed
unwritten_kept : (run : List NumberedTurn) (i : ℕ) (x : NumberedTurn) (old mid new : Seen) → IsDone (take i run) old mid → GoesOn old mid → IsUnwritten x.turn.kept mid new → Gains old.desk.kept new.desk.kept (kept_by (take i run))
unwritten_kept run i x old mid new before goes write =
    (unwritten_after (kept_by (take i run)) (log_of (take i run)) write.name write.bytes old mid new before goes write.stop).kept

unprinted_kept : (run : List NumberedTurn) (i : ℕ) (x : NumberedTurn) (old mid new : Seen) → slice_get run i ≡ Some x → IsDone (take i run) old mid → GoesOn old mid → CannotPrint x.turn.kept [] (line_of x) mid new → Gains old.desk.kept new.desk.kept (kept_by (take (i + 1) run))
unprinted_kept run i x old mid new is before goes print =
    let P : List NumberedTurn → Type 0 = λ l. Gains old.desk.kept new.desk.kept (kept_by l) in
    let all = (unprinted_after (kept_by (take i run)) x.turn.kept (log_of (take i run)) (line_of x) old mid new before goes print).kept in
    subst P (sym (take_next run i x is)) (rw (kept_more (take i run) x) all)

-- the run stops at a statement
stop_left : (process : Meanings) (script : ScriptValue) (i number : ℕ) (statement : Statement) (stop : Stop) (old mid new : Seen) (next : Writing) (nexts : List Slot) → slice_get script.statements i ≡ Some (record { line = number; statement = statement })
    → slice_get (run_of process script) i ≡ Some (record { line = number; turn = turn_of process script.nodes script.passes (state_at process script i) statement })
    → IsDone (take i (run_of process script)) old mid → GoesOn old mid
    → StepIs (turn_of process script.nodes script.passes (state_at process script i) statement) number (state_at process script i) mid new next nexts (Err stop) → StoppedBehind process script old next nexts new
stop_left process script i number statement Unprinted old mid new next nexts at turn before goes step = record {
  done = take (i + 1) script.statements;
  others = drop (i + 1) script.statements;
  parts = sym (take-append-drop (i + 1) script.statements);
  kept = subst (λ (l : List NumberedTurn). Gains old.desk.kept new.desk.kept (kept_by l)) (first_run process script (i + 1)) (unprinted_kept (run_of process script) i _ old mid new turn before goes step.ends);
  state = (turn_of process script.nodes script.passes (state_at process script i) statement).state;
  is = step.leaves;
  changes = ap will_change (sym (state_more process script i number statement at));
  went = ([], ap (λ (s : State). s.events) (sym (state_more process script i number statement at)));
}
stop_left process script i number statement Unwritten old mid new next nexts at turn before goes step =
    let x : NumberedTurn = record { line = number; turn = turn_of process script.nodes script.passes (state_at process script i) statement } in
    record {
      done = take i script.statements;
      others = drop i script.statements;
      parts = sym (take-append-drop i script.statements);
      kept = subst (λ (l : List NumberedTurn). Gains old.desk.kept new.desk.kept (kept_by l)) (first_run process script i) (unwritten_kept (run_of process script) i x old mid new before goes step.ends);
      state = step.leaves.0;
      is = step.leaves.1;
      changes = step.leaves.2;
      went = step.leaves.3;
    }

stop_how : (stop : Stop) (files : List (List ℕ × List ℕ)) (line : List ℕ) (old new : Seen) → StepEnds (Err stop) files line old new → IsUnwritten files old new ⊎ CannotPrint files [] line old new
stop_how Unwritten files line old new ends = inl ends
stop_how Unprinted files line old new ends = inr ends

pub stopped_at : (process : Meanings) (script : ScriptValue) (i number : ℕ) (statement : Statement) (old mid new : Seen) (writing next : Writing) (slots nexts : List Slot) (stop : Stop) → Some number ≡ line_at script i → Some statement ≡ statement_at script i
    → SoFar process script i old writing slots mid → Steps process number statement writing slots mid next nexts new (Err stop) → RunStopped process script old next nexts new
stopped_at process script i number statement old mid new writing next slots nexts stop line stated before steps =
    let at = numbered_at script i number statement line stated in
    let turn = turn_at process script i number statement line stated in
    record {
      nodes = steps.sizes.0 ∙ before.nodes;
      passes = steps.sizes.1 ∙ before.passes;
      stopped = λ all. let s = step_at process script i number statement old mid new writing next slots nexts (Err stop) before steps all in
          stops (run_of process script) i _ old mid new turn (before.done (steps.back all)) before.goes (stop_how stop _ _ mid new s.ends);
      behind = λ all. stop_left process script i number statement stop old mid new next nexts at turn (before.done (steps.back all)) before.goes (step_at process script i number statement old mid new writing next slots nexts (Err stop) before steps all);
    }
