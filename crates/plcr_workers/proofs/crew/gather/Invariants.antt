use Rattle.std.proofs.Common.{◌≤◌, ◌+◌, All, length, vec_len, vec_capacity}
use Rattle.crossbeam_queue.specs.Passes.{view, IsSamePass}
use Rattle.plcr_workers.specs.inner.Hired.{IsGone, KnowsSameSizes}
use Rattle.plcr_workers.proofs.Crews.{AreSome}
use Rattle.plcr_workers.proofs.crew.gather.Given as goal

abbrev pub invariant-loop-worker : goal.invariant-loop-worker
invariant-loop-worker g l = record {
  same : IsSamePass l.fn.chief l.chief;
  sizes : KnowsSameSizes (view l.fn.chief) (view l.chief);
  gone : All (λ w. IsGone l.queue.table.shared.table_id l.list l.scripts w) l.workers.items;
  are_in : AreSome (length l.scripts) l.list l.fn.workers.items l.workers.items (view l.chief) l.left.images.items l.left.drafts.items l.left.others.items;
  images_room : vec_len l.left.images + vec_len l.workers ≤ vec_capacity l.left.images;
  drafts_room : vec_len l.left.drafts + vec_len l.workers ≤ vec_capacity l.left.drafts;
  others_room : vec_len l.left.others + vec_len l.workers ≤ vec_capacity l.left.others;
}

abbrev pub decreases-loop-worker : goal.decreases-loop-worker
decreases-loop-worker g l = vec_len l.workers
