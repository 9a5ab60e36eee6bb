use Rattle.std.proofs.Common.{◌≡◌, drop}
use Rattle.plcr_compact.specs.Callers.{filled}
use Rattle.plcr_compact.proofs.carrying.fill.Given as goal

abbrev pub invariant-loop-word : goal.invariant-loop-word
invariant-loop-word l = record {
  filled : filled l.memory l.registers.value (drop l.word-index l.words) ≡ filled l.fn.memory l.fn.registers.value l.words;
  arch : l.registers.arch ≡ l.fn.registers.arch;
}
