use Rattle.std.proofs.Common.{◌≡◌, ◌++◌, map, reverse, vec_len}
use Rattle.plcr_run.specs.declared.slots.Slot.TheVariants.{Out}
use Rattle.plcr_run.proofs.scripts.slots_of.Given as goal

-- what was made so far, and what is left, are those of the passes in their order
abbrev pub invariant-loop-pass : goal.invariant-loop-pass
invariant-loop-pass l = l.slots.items ++ map Out (reverse l.rest.items) ≡ map Out l.fn.all.items

abbrev pub decreases-loop-pass : goal.decreases-loop-pass
decreases-loop-pass l = vec_len l.rest
