use Rattle.std.proofs.Common.{◌≡◌, ◌≤◌, ◌<◌, All, length, vec_len, vec_capacity}
use Rattle.crossbeam_queue.specs.Passes.{view, IsSamePass, IsPassOf}
use Rattle.plcr_imagelist.specs.Holds.{WalkerState}
use Rattle.plcr_turns.specs.declared.tests.Runner.{Runner}
use Rattle.plcr_turns.specs.declared.tests.TheConstants.{LINES}
use Rattle.plcr_turns.specs.Gathering.{HasHanded}
use Rattle.plcr_turns.specs.inner.Ready.{IsReady}
use Rattle.plcr_turns.proofs.tests.hire.Given as goal

abbrev pub invariant-loop-script : goal.invariant-loop-script
invariant-loop-script l =
    IsSamePass l.fn.pass l.pass × HasHanded l.script l.list l.totals (view l.pass)
    × All (λ (i : WalkerState). i.table ≡ l.list) l.images.items
    × All (λ (r : Runner). IsPassOf l.queue r.turns × (r.script < 64) × IsReady l.list r.script 0 LINES (view r.turns) r.image) l.runners.items
    × (vec_len l.runners ≡ l.script) × (length l.totals ≤ vec_capacity l.runners)
