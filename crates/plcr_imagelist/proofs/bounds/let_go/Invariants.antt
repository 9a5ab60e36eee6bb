use Rattle.std.proofs.Common.{◌≡◌, ◌+◌, ◌-◌, ◌≤◌, ◌++◌, drop, length}
use Rattle.plcr_imagelist.specs.inner.Keeping.{let_go_below}
use Rattle.plcr_imagelist.proofs.bounds.let_go.Given as goal

abbrev pub invariant-loop-gone : goal.invariant-loop-gone
invariant-loop-gone l =
    (l.free.items ++ let_go_below l.bound (drop l.gone-index l.gone-items) ≡ l.fn.free.items ++ let_go_below l.bound l.gone-items)
    × (l.free.len + (length l.gone-items - l.gone-index) ≤ l.free.cap)
    × (l.fn.free.cap ≤ l.free.cap)
    × (l.gone-items ≡ l.fn.removed.items)
