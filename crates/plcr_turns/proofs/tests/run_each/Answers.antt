use Rattle.std.proofs.Common.{◌≡◌, None, All, drop, length, sym, subst, arith}
use Rattle.crossbeam_queue.specs.Passes.{view, IsPassOf}
use Rattle.plcr_turns.specs.declared.tests.Runner.{Runner}
use Rattle.plcr_turns.specs.declared.view.Role.TheVariants.{Worker}
use Rattle.plcr_turns.proofs.Fronts.{take_front}
use Rattle.plcr_turns.proofs.tests.run_each.Goals as goal

pub returns : goal.returns
returns g c = record {
  done = subst (All (λ (r : Runner). IsPassOf c.args.queue.now r.turns × ((view r.turns).role ≡ Worker) × ((view r.turns).turn ≡ None) × (r.image.table ≡ c.args.list.now)))
      (sym (take_front c.args.runners.len c.run_all.new.runners (drop (length c.run_all.new.runners) c.args.runners.items) (let a = c.run_all.auto.runners in let o = c.args.runners.ok.0 in omega arith)))
      c.run_all.ensures.done;
}
