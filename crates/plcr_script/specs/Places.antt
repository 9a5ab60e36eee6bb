-- Which passes are in behind some statements of a script, and where statements may stand.
use Rattle.std.specs.Prelude.{◌≡◌, ℕ, ◌<◌, Bool, true, false, not, List, Option, Some, None, ◌==◌, fold, take, slice_get, IfSome, IsFalse, if◌then◌else◌}
use Rattle.plcr_script.specs.declared.statements.Statement.{Statement}
use Rattle.plcr_script.specs.declared.statements.Statement.TheVariants.{Enter, Walk, Leave, Report}
use Rattle.plcr_script.specs.declared.statements.NumberedStatement.{NumberedStatement}

-- the pass that a statement names, if it names one
abbrev pub pass_of : Statement → Option ℕ
pass_of (Enter pass) = Some pass
pass_of (Walk pass most) = Some pass
pass_of (Leave pass) = Some pass
pass_of (Report pass file) = Some pass
pass_of other = None

-- whether a pass is in behind a statement, by whether it was in before
abbrev pub in_behind : ℕ → Bool → Statement → Bool
in_behind pass was (Enter p) = if p == pass then true else was
in_behind pass was (Leave p) = if p == pass then false else was
in_behind pass was (Report p file) = if p == pass then false else was
in_behind pass was other = was

-- whether a pass is in behind statements, which find it out at first
unfoldable pub is_in_behind : ℕ → List NumberedStatement → Bool
is_in_behind pass statements = fold (λ was s. in_behind pass was s.statement) false statements

-- whether a statement finds its pass where it may not be, behind others: one that goes in is in, or
-- one that walks or comes out is out
abbrev pub is_misplaced : List NumberedStatement → Statement → Bool
is_misplaced earlier (Enter pass) = is_in_behind pass earlier
is_misplaced earlier (Walk pass most) = not (is_in_behind pass earlier)
is_misplaced earlier (Leave pass) = not (is_in_behind pass earlier)
is_misplaced earlier other = false

-- a statement names one of so many passes, if it names one
abbrev pub HasPass : ℕ → Statement → Type 0
HasPass passes statement = IfSome (pass_of statement) (λ pass. pass < passes)

-- each statement names one of so many passes and finds it where it may be
abbrev pub AreInPlace : ℕ → List NumberedStatement → Type 0
AreInPlace passes statements = (i : ℕ) (s : NumberedStatement) → slice_get statements i ≡ Some s →
    HasPass passes s.statement × IsFalse (is_misplaced (take i statements) s.statement)
