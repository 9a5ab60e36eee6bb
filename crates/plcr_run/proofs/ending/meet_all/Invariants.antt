use Rattle.std.proofs.Common.{◌≡◌, ◌<◌, ◌≤◌, length, take, vec_len}
use Rattle.plcr_imagelist.specs.States.{IsAtRest}
use Rattle.plcr_run.specs.inner.Ending.{HasMet}
use Rattle.plcr_run.proofs.ending.meet_all.Given as goal

-- those from a number on have met the writer, and the others are left
abbrev pub invariant-loop-slot : goal.invariant-loop-slot
invariant-loop-slot l = record {
  met : HasMet l.fn.writer l.fn.slots.items (λ k. (length l.rest.items ≤ k) × (k < length l.fn.slots.items)) l.writer;
  left : l.rest.items ≡ take (length l.rest.items) l.fn.slots.items;
  list : l.writer.table ≡ l.list;
  rest : IsAtRest l.writer;
}

abbrev pub decreases-loop-slot : goal.decreases-loop-slot
decreases-loop-slot l = vec_len l.rest
