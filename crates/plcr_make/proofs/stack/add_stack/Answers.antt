use Rattle.plcr_make.proofs.Joining.{joined_none, joined_on, joined_all}
use Rattle.std.specs.Int.{w64, to_le_bytes}
use Rattle.plcr_make.specs.Stacks.{stack_word}
use Rattle.plcr_make.proofs.stack.add_stack.Goals as goal

pub loop-i-init : goal.loop-i-init
loop-i-init c = joined_none (λ i. to_le_bytes w64 (stack_word c.args.images c.args.t i)) c.args.bytes.now.items

pub loop-i-preserved : goal.loop-i-preserved
loop-i-preserved c = joined_on (λ i. to_le_bytes w64 (stack_word c.args.images c.args.t i)) c.loop-i.i c.args.bytes.now.items c.loop-i.bytes.items c.extend_from_slice.new.self.items c.loop-i.invariant (rw (c.to_le_bytes.ensures, c.stack_word-word.ensures) at c.in_ok-extend_from_slice.ensures.items)

pub returns : goal.returns
returns c = joined_all (λ i. to_le_bytes w64 (stack_word c.args.images c.args.t i)) c.loop-i.i 512 c.args.bytes.now.items c.loop-i.bytes.items c.loop-i.auto.i-end c.loop-i-test.false c.loop-i.invariant
