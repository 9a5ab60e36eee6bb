use Rattle.std.proofs.Common.{◌≡◌, ◌+◌, ◌*◌, ◌++◌, length, drop}
use Rattle.std.specs.Prelude.{pos, ◌+ℤ◌}
use Rattle.plcr_compact.specs.Callers.{register_words}
use Rattle.plcr_compact.proofs.calling.push_registers.Given as goal

abbrev pub invariant-loop-register : goal.invariant-loop-register
invariant-loop-register l = record {
  words : l.words.items ++ register_words l.at (drop l.register-index l.registers) ≡ l.fn.words.items ++ register_words l.fn.at l.registers;
  at : l.at ≡ l.fn.at +ℤ pos (8 * l.register-index);
  size : length l.words.items ≡ length l.fn.words.items + l.register-index;
}
