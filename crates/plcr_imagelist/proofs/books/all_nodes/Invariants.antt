use Rattle.std.proofs.Common.{◌≡◌, ◌≤◌, ℕ}
use Rattle.plcr_imagelist.specs.inner.Keeping.{times, is_node, once_where}
use Rattle.plcr_imagelist.proofs.books.all_nodes.Given as goal

abbrev pub invariant-loop-node : goal.invariant-loop-node
invariant-loop-node l = ((n : ℕ) → times n l.all.items ≡ once_where (is_node l.node n)) × (l.all.len ≡ l.node) × (l.nodes ≤ l.all.cap)
