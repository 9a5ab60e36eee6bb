use Rattle.std.proofs.Common.{◌≡◌, ◌<◌, ℕ, get_or, length, None}
use Rattle.plcr_regs.specs.Frames.{kept_value}
use Rattle.plcr_regs.specs.declared.limits.TheConstants.{MOST_REGISTERS}
use Rattle.plcr_regs.proofs.registers.Registers.keep_into.Given as goal

abbrev pub invariant-loop-place : goal.invariant-loop-place
invariant-loop-place l = record {
  size : length l.room.value ≡ MOST_REGISTERS;
  filled : (k : ℕ) → k < l.place → get_or l.room.value k None ≡ kept_value l.self k;
  arch : l.room.arch ≡ l.self.arch;
}
