use Rattle.std.proofs.Common.{◌≡◌, ◌++◌, All, map, reverse, vec_len}
use Rattle.plcr_imagelist.specs.inner.Holding.{walker_state, IsReady}
use Rattle.plcr_imagelist.proofs.hold.Pass.open_all.Given as goal

abbrev pub invariant-loop-pass : goal.invariant-loop-pass
invariant-loop-pass l = All (IsReady l.nodes) l.rest.items × (l.opened.items ++ map walker_state (reverse l.rest.items) ≡ map walker_state l.fn.all.items)

abbrev pub decreases-loop-pass : goal.decreases-loop-pass
decreases-loop-pass l = vec_len l.rest
