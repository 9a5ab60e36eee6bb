use Rattle.std.proofs.Common.{◌≡◌, length, drop}
use Rattle.plcr_compact.specs.Permutations.{all_registers, named}
use Rattle.plcr_compact.proofs.Naming.{named_on}
use Rattle.plcr_compact.proofs.permutation.named.Given as goal

abbrev pub invariant-loop-digit : goal.invariant-loop-digit
invariant-loop-digit l = record {
  size : length l.found.items ≡ l.digit-index;
  rest : named_on l.found.items l.left.items (drop l.digit-index l.digits) ≡ named all_registers l.digits;
}
