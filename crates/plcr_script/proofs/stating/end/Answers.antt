use Rattle.std.proofs.Common.{rules}
use Rattle.plcr_script.proofs.Steps.{more_than_none}
use Rattle.plcr_script.proofs.stating.end.Goals as goal

pub returns-then-is_some-clause-worded : goal.returns-then-is_some-clause-worded
returns-then-is_some-clause-worded c = more_than_none c.args.arguments (search rules)
