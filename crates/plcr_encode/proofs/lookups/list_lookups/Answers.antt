use Rattle.std.proofs.Common.{arith}
use Rattle.plcr_encode.proofs.Spread.{lookups_fit, lookups_more}
use Rattle.plcr_encode.proofs.lookups.list_lookups.Goals as goal

pub push-requires : goal.push-requires
push-requires c = (omega arith, let fits = lookups_fit c.args.rows.now c.loop-frame.lookups.items c.loop-frame.frame c.loop-frame-test.true c.loop-frame.invariant in omega arith)

pub loop-frame-preserved : goal.loop-frame-preserved
loop-frame-preserved c =
    lookups_more c.args.rows.now c.loop-frame.lookups.items c.push.new.self.items c.loop-frame.frame c.loop-frame-test.true c.loop-frame.invariant c.push.ensures.items
