use Rattle.std.proofs.Common.{arith}
use Rattle.plcr_leb128.specs.Cells.{Source}
use Rattle.plcr_compact.proofs.Emptied.{zeros_from}
use Rattle.plcr_compact.proofs.search.zero_entries.Goals as goal

pub returns-clause-empty : goal.returns-clause-empty
returns-clause-empty g c k lt =
    let section : Source = g.C.Cells.cells c.args.section.now in
    zeros_from section c.args.table.now c.args.index k c.place.result c.zeros-zeros.result c.place.ensures.place (omega (arith, c.min.ensures, lt)) c.zeros-zeros.ensures
