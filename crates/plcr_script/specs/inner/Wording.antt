-- What a line says as it is written, before its texts are owned.
use Rattle.std.specs.Prelude.{◌≡◌, Result, Ok, Err}
use Rattle.plcr_script.specs.declared.faults.Kind.{Kind}
use Rattle.plcr_script.specs.declared.statements.Statement.{Statement}
use Rattle.plcr_script.specs.declared.statements.Statement.TheVariants as statements
use Rattle.plcr_script.specs.declared.stating.Stating.{Stating}
use Rattle.plcr_script.specs.declared.stating.Stating.TheVariants as statings
use Rattle.plcr_script.specs.declared.wording.Wording.{Wording}
use Rattle.plcr_script.specs.declared.wording.Wording.TheVariants as wordings
use Rattle.plcr_script.specs.Sayings.{Saying, Sizes, Number, Words, States}

-- the statement of one as it is written
abbrev pub stated : Stating → Statement
stated (statings.Load header name) = statements.Load header name.now
stated (statings.Unload header) = statements.Unload header
stated (statings.BeginLoad header name) = statements.BeginLoad header name.now
stated (statings.BeginUnload header) = statements.BeginUnload header
stated (statings.Step most) = statements.Step most
stated statings.End = statements.End
stated (statings.Enter pass) = statements.Enter pass
stated (statings.Walk pass most) = statements.Walk pass most
stated (statings.Leave pass) = statements.Leave pass
stated (statings.Report pass file) = statements.Report pass file.now

-- what a wording says
abbrev pub said : Wording → Saying
said (wordings.Sizes nodes passes) = Sizes nodes passes
said (wordings.Number key number) = Number key number
said (wordings.Words key text) = Words key text.now
said (wordings.States stating) = States (stated stating)

-- an answer is what reading gives, or its fault
abbrev pub IsWorded : Result Wording Kind → Result Saying Kind → Type 0
IsWorded (Ok wording) read = read ≡ Ok (said wording)
IsWorded (Err kind) read = read ≡ Err kind

-- and so is one that is a statement
abbrev pub IsStated : Result Stating Kind → Result Saying Kind → Type 0
IsStated (Ok stating) read = read ≡ Ok (States (stated stating))
IsStated (Err kind) read = read ≡ Err kind
