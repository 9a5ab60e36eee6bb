use Rattle.std.proofs.Common.{◌≡◌, length}
use Rattle.plcr_io.specs.MemFiles.{last_named}
use Rattle.plcr_io.proofs.mem_files.find_kept.Given as goal

abbrev pub invariant-loop-last : goal.invariant-loop-last
invariant-loop-last l = last_named l.name l.rest ≡ last_named l.name l.kept

abbrev pub decreases-loop-last : goal.decreases-loop-last
decreases-loop-last l = length l.rest
