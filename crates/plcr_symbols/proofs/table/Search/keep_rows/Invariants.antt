use Rattle.std.specs.Prelude.{◌≡◌, length}
use Rattle.plcr_symbols.specs.inner.Gaps.{Gathers}
use Rattle.plcr_symbols.proofs.Rows.{piece_symbols}
use Rattle.plcr_symbols.proofs.table.Search.keep_rows.Given as goal

abbrev pub invariant-loop-rest : goal.invariant-loop-rest
invariant-loop-rest l =
    Gathers l.self.addresses.now l.initial.found (piece_symbols l.self.image.now l.self.table l.self.addresses.now l.rows) l.found (piece_symbols l.self.image.now l.self.table l.self.addresses.now l.rest)
    × (length l.found ≡ length l.self.addresses.now)

abbrev pub decreases-loop-rest : goal.decreases-loop-rest
decreases-loop-rest l = length l.rest
