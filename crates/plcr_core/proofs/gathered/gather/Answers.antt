use Rattle.std.proofs.Common.{arith}
use Rattle.plcr_core.specs.inner.Gathering.{gains}
use Rattle.plcr_core.proofs.SoFar.{starts, kept, moves, breaks, ends}
use Rattle.plcr_core.proofs.gathered.gather.Goals as goal

pub loop-index-init : goal.loop-index-init
loop-index-init c = starts c.args.file.now c.args.header.now (gains c.new-found.result) c.new-found.ensures

pub add-requires : goal.add-requires
add-requires c = record {
  few = omega (arith, c.loop-index.invariant.few);
  kept = kept c.args.file.now c.args.header.now c.loop-index.index c.loop-index.at (gains c.loop-index.found) c.loop-index.invariant;
}

pub loop-index-preserved : goal.loop-index-preserved
loop-index-preserved c =
    moves c.args.file.now c.args.header.now c.loop-index.index c.loop-index.at (gains c.loop-index.found) (gains c.add.new.self) c.gain_at.new.room
    c.loop-index.invariant c.loop-index-test.true c.in-Ok.ensures.gain c.in_ok-add.ensures c.in-Ok.ensures.backed

pub returns-in-Err-clause-exact : goal.returns-in-Err-clause-exact
returns-in-Err-clause-exact c =
    rw c.fault_from.ensures
    (breaks c.args.file.now c.args.header.now c.loop-index.index c.loop-index.at (gains c.loop-index.found) c.in-Err.trouble
    c.loop-index.invariant c.loop-index-test.true c.in-Err.ensures.trouble)

pub returns-clause-exact : goal.returns-clause-exact
returns-clause-exact c =
    ends c.args.file.now c.args.header.now c.loop-index.index c.loop-index.at (gains c.loop-index.found) c.loop-index.invariant c.loop-index-test.false
