use Rattle.std.proofs.Common.{refl, rules}
use Rattle.plcr_script.proofs.Steps.{more_than_two}
use Rattle.plcr_script.proofs.arguments.two_words.Goals as goal

pub returns-then-is_some : goal.returns-then-is_some
returns-then-is_some c = rw (c.in-Some.is, c.first_word.ensures.parts, c.in-Some-others.is, c.first_word-2.ensures.parts, more_than_two c.first_word.result.0.now c.first_word-2.result.0.now c.first_word-2.result.1 (search rules)) refl
