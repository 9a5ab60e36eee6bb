use Rattle.std.proofs.Common.{◌≡◌}
use Rattle.crossbeam_queue.specs.Passes.{view, IsSamePass}
use Rattle.plcr_turns.specs.declared.tests.TheConstants.{LINES}
use Rattle.plcr_turns.specs.inner.Ready.{IsReady}
use Rattle.plcr_turns.proofs.tests.Runner.run.Given as goal

abbrev pub invariant-loop-applied : goal.invariant-loop-applied
invariant-loop-applied g l = IsSamePass l.fn.self.turns l.self.turns × (l.self.script ≡ l.fn.self.script) × IsReady l.list l.self.script l.applied LINES (view l.self.turns) l.self.image
