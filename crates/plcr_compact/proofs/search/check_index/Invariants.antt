use Rattle.std.proofs.Common.{◌≡◌, ◌-◌}
use Rattle.plcr_base.specs.Chains.{result_map}
use Rattle.plcr_compact.specs.declared.entry_kind.EntryKind.TheVariants as kinds
use Rattle.plcr_compact.specs.Tables.{falls}
use Rattle.plcr_compact.specs.inner.Searches.{entries_in}
use Rattle.plcr_compact.proofs.Searched.{falls_on, rest_in}
use Rattle.plcr_compact.proofs.search.check_index.Given as goal

abbrev pub invariant-loop-index : goal.invariant-loop-index
invariant-loop-index g l =
    result_map (falls_on l.fell l.before) (rest_in (g.C.Cells.cells l.section) kinds.Index l.table l.index)
    ≡ result_map falls (entries_in (g.C.Cells.cells l.section) kinds.Index l.table)

abbrev pub decreases-loop-index : goal.decreases-loop-index
decreases-loop-index g l = l.table.count - l.index
