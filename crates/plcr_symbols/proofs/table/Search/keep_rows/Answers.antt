use Rattle.std.proofs.Common.{arith}
use Rattle.plcr_symbols.proofs.Rows.{rows_more}
use Rattle.plcr_symbols.proofs.table.Search.keep_rows.Goals as goal

pub loop-rest-preserved : goal.loop-rest-preserved
loop-rest-preserved c =
    let s = c.args.self.now in (
      rows_more s.image.now s.table s.addresses.now c.args.rows.now c.loop-rest.rest.now c.split_at.result.0.now c.split_at.result.1.now c.args.found.now c.loop-rest.found c.keep_row.new.found
          c.loop-rest.invariant.0 c.loop-rest-test.true c.split_at.ensures.front c.split_at.ensures.back c.keep_row.ensures.gains,
      omega (arith, c.loop-rest.invariant.1, c.keep_row.ensures.size),
    )
