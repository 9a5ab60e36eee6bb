-- What is true of each script that is read.
use Rattle.std.specs.Prelude.{ℕ, ◌≤◌, ◌<◌, ◌^◌, All, IsTrue, length}
use Rattle.plcr_regs.specs.declared.arch.Arch.{Arch}
use Rattle.plcr_machine.specs.declared.limits.TheConstants.{MOST_NODES, MOST_PASSES}
use Rattle.plcr_encode.specs.Conditions.{IsWritable}
use Rattle.plcr_script.specs.declared.statements.Statement.{Statement}
use Rattle.plcr_script.specs.declared.statements.Statement.TheVariants.{Load, BeginLoad, Report}
use Rattle.plcr_script.specs.declared.statements.NumberedStatement.{NumberedStatement}
use Rattle.plcr_script.specs.Scripts.{ScriptValue}
use Rattle.plcr_script.specs.Sayings.{is_file_name}
use Rattle.plcr_script.specs.Places.{AreInPlace}
use Rattle.plcr_script.specs.Contexts.{context_of}

-- a list has a node and a pass at least, and each within its limit
abbrev pub AreSizes : ℕ → ℕ → Type 0
AreSizes nodes passes = (1 ≤ nodes) × (nodes ≤ MOST_NODES) × (1 ≤ passes) × (passes ≤ MOST_PASSES)

-- a header of an image that is loaded has 64 bits and its name fewer than 2^32 bytes, and a file
-- has a lawful name
abbrev pub IsFitStatement : Statement → Type 0
IsFitStatement (Load header name) = (header < 2 ^ 64) × (length name < 2 ^ 32)
IsFitStatement (BeginLoad header name) = (header < 2 ^ 64) × (length name < 2 ^ 32)
IsFitStatement (Report pass file) = IsTrue (is_file_name file)
IsFitStatement other = Unit {0}

-- a script within its limits, whose statements stand in their places and whose descriptive values
-- can be written in reports
pub record IsLawful (script : ScriptValue) : Type 0 where
  pub sizes : AreSizes script.nodes script.passes
  pub places : AreInPlace script.passes script.statements
  pub statements : All (λ (s : NumberedStatement). IsFitStatement s.statement) script.statements
  pub writable : (arch : Arch) → IsWritable (context_of script arch)
