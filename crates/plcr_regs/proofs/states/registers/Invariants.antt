use Rattle.std.proofs.Common.{◌≡◌, ◌<◌, ℕ, get_or, length, None}
use Rattle.plcr_regs.specs.States.{value_in}
use Rattle.plcr_regs.specs.declared.limits.TheConstants.{MOST_REGISTERS}
use Rattle.plcr_regs.proofs.states.registers.Given as goal

abbrev pub invariant-loop-i : goal.invariant-loop-i
invariant-loop-i l = record {
  size : length l.value ≡ MOST_REGISTERS;
  filled : (k : ℕ) → k < l.i → get_or l.value k None ≡ value_in l.arch l.bytes k;
}
