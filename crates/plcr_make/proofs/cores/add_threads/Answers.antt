use Rattle.plcr_make.proofs.Joining.{joined_none, joined_on, joined_all}
use Rattle.plcr_make.specs.Stacks.{thread_command}
use Rattle.plcr_make.specs.declared.constants.TheConstants.{THREADS}
use Rattle.plcr_make.proofs.cores.add_threads.Goals as goal

pub loop-t-init : goal.loop-t-init
loop-t-init c = joined_none (thread_command c.args.images) c.args.bytes.now.items

pub loop-t-preserved : goal.loop-t-preserved
loop-t-preserved c = joined_on (thread_command c.args.images) c.loop-t.t c.args.bytes.now.items c.loop-t.bytes.items c.add_thread.new.bytes.items c.loop-t.invariant c.in_ok-add_thread.ensures

pub returns : goal.returns
returns c = joined_all (thread_command c.args.images) c.loop-t.t THREADS c.args.bytes.now.items c.loop-t.bytes.items c.loop-t.auto.t-end c.loop-t-test.false c.loop-t.invariant
