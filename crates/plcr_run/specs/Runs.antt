-- What a run of a script did to the desk and to the lines, turn by turn.
use Rattle.std.specs.Prelude.{◌≡◌, ◌⊎◌, ℕ, List, [], ◌∷◌, ◌++◌, None}
use Rattle.plcr_script.specs.declared.statements.NumberedStatement.{NumberedStatement}
use Rattle.plcr_script.specs.Log.{log_line}
use Rattle.plcr_script.specs.Scripts.{ScriptValue}
use Rattle.plcr_script.specs.Meanings.{Meanings}
use Rattle.plcr_script.specs.RunStates.{first_state}
use Rattle.plcr_script.specs.Run.{NumberedTurn, turns_from, kept_by, log_of}
use Rattle.plcr_command.specs.Seen.{Seen}
use Rattle.plcr_command.specs.Endings.{HasKept, CannotWrite, CannotPrint}

-- the turns of the first statements of a script
abbrev pub run_behind : Meanings → ScriptValue → List NumberedStatement → List NumberedTurn
run_behind process script statements =
    turns_from process script.nodes script.passes first_state statements

-- the line of the log for a turn
abbrev pub line_of : NumberedTurn → List ℕ
line_of turn = log_line None turn.line turn.turn.outcome

-- each file of these turns was kept and each of their lines printed, in order
abbrev pub IsDone : List NumberedTurn → Seen → Seen → Type 0
IsDone run old new = HasKept (kept_by run) (log_of run) old new

-- the turns before this one were done, and its file wasn't kept
pub record CannotKeep (before : List NumberedTurn) (at : NumberedTurn) (old new : Seen) : Type 0
  where
    pub name : List ℕ
    pub bytes : List ℕ
    pub file : at.turn.kept ≡ (name, bytes) ∷ []
    pub stop : CannotWrite (kept_by before) (log_of before) name bytes old new

-- the turns before this one were done and its file, if it has one, was kept, and the sink of the
-- lines didn't take its line whole
abbrev pub CannotLog : List NumberedTurn → NumberedTurn → Seen → Seen → Type 0
CannotLog before at old new =
    CannotPrint (kept_by (before ++ at ∷ [])) (log_of before) (line_of at) old new

-- the run stopped at one of its turns
pub record IsStopped (run : List NumberedTurn) (old new : Seen) : Type 0 where
  pub before : List NumberedTurn
  pub at : NumberedTurn
  pub after : List NumberedTurn
  pub parts : run ≡ before ++ at ∷ after
  pub how : CannotKeep before at old new ⊎ CannotLog before at old new
