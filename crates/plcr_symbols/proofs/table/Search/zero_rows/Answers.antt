use Rattle.std.proofs.Common.{arith}
use Rattle.plcr_symbols.proofs.Zeroed.{none_skipped}
use Rattle.plcr_symbols.proofs.table.Search.zero_rows.Goals as goal

pub returns-then-is_mapped-clause-skipped : goal.returns-then-is_mapped-clause-skipped
returns-then-is_mapped-clause-skipped c k =
    let s = c.args.self.now in
    none_skipped s.memory.now s.image.now s.table s.addresses.now k c.row_address-at.result c.zeros_from.result c.min-rows.result c.args.left c.args.index c.row_address-at.ensures c.zeros_from.ensures.zeros
    (omega (arith, c.min-rows.ensures)) (omega (arith, c.min-rows.ensures)) c.if-is_mapped.ensures.within
