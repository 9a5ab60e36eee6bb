use Rattle.plcr_make.proofs.Joining.{joined_none, joined_on, joined_all}
use Rattle.plcr_make.specs.Stacks.{stack_bytes}
use Rattle.plcr_make.specs.declared.constants.TheConstants.{THREADS}
use Rattle.plcr_make.proofs.stack.add_stacks.Goals as goal

pub loop-t-init : goal.loop-t-init
loop-t-init c = joined_none (stack_bytes c.args.images) c.args.bytes.now.items

pub loop-t-preserved : goal.loop-t-preserved
loop-t-preserved c = joined_on (stack_bytes c.args.images) c.loop-t.t c.args.bytes.now.items c.loop-t.bytes.items c.add_stack.new.bytes.items c.loop-t.invariant c.in_ok-add_stack.ensures

pub returns : goal.returns
returns c = joined_all (stack_bytes c.args.images) c.loop-t.t THREADS c.args.bytes.now.items c.loop-t.bytes.items c.loop-t.auto.t-end c.loop-t-test.false c.loop-t.invariant
