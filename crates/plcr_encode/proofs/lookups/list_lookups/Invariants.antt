use Rattle.std.proofs.Common.{◌≡◌, ◌++◌, map, drop}
use Rattle.std.specs.List.{enumerate_from}
use Rattle.plcr_encode.specs.inner.Lookups.{lookup_for, lookups_for}
use Rattle.plcr_encode.proofs.lookups.list_lookups.Given as goal

-- the lookups that are listed and those to come make up all
abbrev pub invariant-loop-frame : goal.invariant-loop-frame
invariant-loop-frame l = l.lookups.items ++ map lookup_for (enumerate_from l.frame (drop l.frame l.rows)) ≡ lookups_for l.rows
