use Rattle.std.proofs.Common.{◌<◌, length, arith}
use Rattle.plcr_script.proofs.Numbering.{numbers_more, grown}
use Rattle.plcr_script.proofs.outcomes.add_numbers.Goals as goal

pub loop-count-preserved : goal.loop-count-preserved
loop-count-preserved c =
    let within : c.loop-count.count-index < length c.args.counts.now = omega arith in
    record {
      items = rw (c.add_decimal.ensures.items, c.add_bytes.ensures.items, c.loop-count.invariant.items, numbers_more c.args.counts.now c.loop-count.count-index within) (grown _ _ _);
      len = omega (arith, c.add_decimal.ensures.len, c.add_bytes.ensures.len, c.loop-count.invariant.len);
    }
