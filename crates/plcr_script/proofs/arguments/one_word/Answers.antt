use Rattle.std.proofs.Common.{refl, rules}
use Rattle.plcr_script.proofs.Steps.{more_than_one}
use Rattle.plcr_script.proofs.arguments.one_word.Goals as goal

pub returns-then-is_some : goal.returns-then-is_some
returns-then-is_some c = rw (c.in-Some.is, c.first_word.ensures.parts, more_than_one c.first_word.result.0.now c.first_word.result.1 (search rules)) refl
