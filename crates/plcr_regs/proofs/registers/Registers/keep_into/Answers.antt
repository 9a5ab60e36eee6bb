use Rattle.std.proofs.Common.{◌<◌, ap, None, ℕ, length, List, Option, arith, ◌∙◌, length-set}
use Rattle.std.proofs.lemmas.List.Edits.{fill_by_more}
use Rattle.std.proofs.lemmas.List.FromFn.{fill_by_all}
use Rattle.plcr_regs.specs.declared.limits.TheConstants.{MOST_REGISTERS}
use Rattle.plcr_regs.specs.declared.arch.Arch.{Arch}
use Rattle.plcr_regs.specs.declared.registers.Registers.{Registers}
use Rattle.plcr_regs.specs.Frames.{kept_of, kept_value}
use Rattle.plcr_regs.proofs.registers.Registers.keep_into.Goals as goal

pub loop-place-preserved : goal.loop-place-preserved
loop-place-preserved c =
    let room : c.loop-place.place < length c.loop-place.room.value = omega (arith, c.loop-place.invariant.size) in
    record {
      size = length-set c.loop-place.room.value c.loop-place.place _ ∙ c.loop-place.invariant.size;
      filled =
          rw c.kept_at.ensures
          (fill_by_more (kept_value c.args.self.now) c.loop-place.room.value c.loop-place.place None room c.loop-place.invariant.filled);
      arch = c.loop-place.invariant.arch;
    }

pub returns : goal.returns
unfolding kept_of
returns c =
    ap (λ (arch : Arch). let r : Registers = record { arch = arch; value = c.loop-place.room.value } in r) c.loop-place.invariant.arch
    ∙ ap (λ (value : List (Option ℕ)). let r : Registers = record { arch = c.args.self.now.arch; value = value } in r)
    (fill_by_all (kept_value c.args.self.now) c.loop-place.room.value MOST_REGISTERS None c.loop-place.invariant.size (λ k h. c.loop-place.invariant.filled k (omega arith)))
