use Rattle.std.proofs.Common.{◌≡◌}
use Rattle.plcr_base.specs.Chains.{result_map}
use Rattle.plcr_compact.specs.Tables.{falls}
use Rattle.plcr_compact.specs.inner.Searches.{entries_in}
use Rattle.plcr_compact.proofs.Searched.{falls_on, rest_in}
use Rattle.plcr_compact.proofs.search.check.Given as goal

abbrev pub invariant-loop-index : goal.invariant-loop-index
invariant-loop-index g l =
    result_map (falls_on l.fell l.before) (rest_in (g.C.Cells.cells l.section) l.kind l.table l.index)
    ≡ result_map falls (entries_in (g.C.Cells.cells l.section) l.kind l.table)
