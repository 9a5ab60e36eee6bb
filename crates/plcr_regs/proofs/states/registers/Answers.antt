use Rattle.std.proofs.Common.{◌<◌, ap, None, ℕ, length, List, Option, arith, ◌∙◌, length-set}
use Rattle.std.proofs.lemmas.List.Edits.{fill_by_more}
use Rattle.std.proofs.lemmas.List.FromFn.{fill_by_all}
use Rattle.plcr_regs.specs.declared.limits.TheConstants.{MOST_REGISTERS}
use Rattle.plcr_regs.specs.declared.registers.Registers.{Registers}
use Rattle.plcr_regs.specs.States.{registers_in, value_in}
use Rattle.plcr_regs.proofs.states.registers.Goals as goal

pub loop-i-preserved : goal.loop-i-preserved
loop-i-preserved c =
    let room : c.loop-i.i < length c.loop-i.value = omega (arith, c.loop-i.invariant.size) in
    record {
      size = length-set c.loop-i.value c.loop-i.i _ ∙ c.loop-i.invariant.size;
      filled =
          rw c.value_at.ensures
          (fill_by_more (value_in c.args.arch c.args.bytes.now) c.loop-i.value c.loop-i.i None room c.loop-i.invariant.filled);
    }

pub returns : goal.returns
unfolding registers_in
returns c =
    ap (λ (value : List (Option ℕ)). let r : Registers = record { arch = c.args.arch; value = value } in r)
    (fill_by_all (value_in c.args.arch c.args.bytes.now) c.loop-i.value MOST_REGISTERS None c.loop-i.invariant.size (λ k h. c.loop-i.invariant.filled k (omega arith)))
