use Rattle.std.proofs.Common.{◌≡◌, ◌≤◌, length, take, vec_len, vec_capacity}
use Rattle.plcr_workers.specs.inner.Hired.{totals_in}
use Rattle.plcr_workers.proofs.crew.totals_of.Given as goal

abbrev pub invariant-loop-script : goal.invariant-loop-script
invariant-loop-script l = (l.totals.items ≡ totals_in (take l.script-index l.scripts)) × (vec_len l.totals ≡ l.script-index) × (length l.scripts ≤ vec_capacity l.totals)
