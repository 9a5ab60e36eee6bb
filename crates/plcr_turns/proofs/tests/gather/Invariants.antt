use Rattle.std.proofs.Common.{◌≡◌, All, None, Some, vec_len}
use Rattle.crossbeam_queue.specs.Passes.{view, IsSamePass, IsPassOf}
use Rattle.plcr_imagelist.specs.Holds.{WalkerState}
use Rattle.plcr_turns.specs.declared.tests.Runner.{Runner}
use Rattle.plcr_turns.specs.declared.view.Role.TheVariants.{Chief, Worker}
use Rattle.plcr_turns.proofs.tests.gather.Given as goal

abbrev pub invariant-loop-runner : goal.invariant-loop-runner
invariant-loop-runner l =
    IsSamePass l.fn.pass l.pass × ((view l.pass).role ≡ Chief) × ((view l.pass).turn ≡ None) × ((view l.pass).list ≡ Some l.list)
    × All (λ (r : Runner). IsPassOf l.queue r.turns × ((view r.turns).role ≡ Worker) × ((view r.turns).turn ≡ None) × (r.image.table ≡ l.list)) l.runners.items
    × All (λ (i : WalkerState). i.table ≡ l.list) l.images.items

abbrev pub decreases-loop-runner : goal.decreases-loop-runner
decreases-loop-runner l = vec_len l.runners
