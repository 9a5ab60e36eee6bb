use Rattle.std.proofs.Common.{◌≡◌, ◌≤◌, ◌-◌, List, Ok}
use Rattle.std.specs.Prelude.{IfSome}
use Rattle.plcr_compact.specs.declared.section.Entry.{Entry}
use Rattle.plcr_compact.specs.inner.Searches.{IsSmall, lawful_in}
use Rattle.plcr_compact.proofs.Searched.{Halved}
use Rattle.plcr_compact.proofs.search.entry_for.Given as goal

abbrev pub invariant-loop-low : goal.invariant-loop-low
invariant-loop-low g l = record {
  ordered : l.low ≤ l.high;
  within : l.high ≤ l.count;
  halved : (es : List Entry) → lawful_in (g.C.Cells.cells l.section) l.kind l.table ≡ Ok es → Halved l.offset l.count es l.low l.high l.best;
  small : IfSome l.best (IsSmall l.kind);
}

abbrev pub decreases-loop-low : goal.decreases-loop-low
decreases-loop-low g l = l.high - l.low
