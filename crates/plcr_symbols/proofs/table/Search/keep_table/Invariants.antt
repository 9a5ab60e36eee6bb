use Rattle.std.specs.Prelude.{◌≡◌, ◌≤◌, ◌<◌, ◌+◌, ◌-◌, ◌^◌, length}
use Rattle.plcr_symbols.specs.declared.limits.TheConstants.{PIECE_ROWS}
use Rattle.plcr_symbols.specs.inner.Gaps.{Gathers, gathered}
use Rattle.plcr_symbols.proofs.table.Search.keep_table.Given as goal

abbrev pub invariant-loop-index : goal.invariant-loop-index
invariant-loop-index l =
    Gathers l.self.addresses.now l.initial.found (gathered l.self.memory.now l.self.image.now l.self.table l.self.addresses.now l.self.table.rows 0)
    l.found (gathered l.self.memory.now l.self.image.now l.self.table l.self.addresses.now (l.rows - l.index) l.index)
    × (length l.found ≡ length l.self.addresses.now) × (1 ≤ l.size) × (l.size ≤ PIECE_ROWS) × (l.index ≤ l.rows) × (l.rows < 2 ^ 32) × (l.rows ≡ l.self.table.rows)

abbrev pub decreases-loop-index : goal.decreases-loop-index
decreases-loop-index l = (l.rows - l.index) + l.size
