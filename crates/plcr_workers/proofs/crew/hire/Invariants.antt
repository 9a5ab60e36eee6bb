use Rattle.std.proofs.Common.{◌≡◌, ◌≤◌, ◌+◌, All, length, vec_len, vec_capacity}
use Rattle.crossbeam_queue.specs.Passes.{view, IsSamePass}
use Rattle.plcr_turns.specs.Gathering.{HasHanded}
use Rattle.plcr_workers.specs.inner.Hired.{IsHired, AreNew, AreFromTheLast, AreUntouched, totals_in, KnowsSameSizes}
use Rattle.plcr_workers.proofs.crew.hire.Given as goal

abbrev pub invariant-loop-script : goal.invariant-loop-script
invariant-loop-script g l = record {
  same : IsSamePass l.fn.chief l.chief;
  handed : HasHanded l.script l.list (totals_in l.scripts) (view l.chief);
  sizes : KnowsSameSizes (view l.fn.chief) (view l.chief);
  images_are : AreFromTheLast (length l.scripts) l.list l.images.items;
  many : length l.images.items + l.script ≡ length l.scripts;
  untouched : AreUntouched l.images.items;
  hired : All (λ w. IsHired l.queue.table.shared.table_id l.list l.scripts w) l.workers.items;
  new : AreNew l.scripts l.workers.items;
  count : vec_len l.workers ≡ l.script;
  room : length l.scripts ≤ vec_capacity l.workers;
}
