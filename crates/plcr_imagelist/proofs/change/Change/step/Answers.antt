use Rattle.std.proofs.Common.{subst, rules}
use Rattle.plcr_machine.specs.Histories.{IsHistory}
use Rattle.plcr_imagelist.specs.declared.change.Progress.TheVariants.{More, Done}
use Rattle.plcr_imagelist.specs.States.{ChangeState}
use Rattle.plcr_imagelist.proofs.Changed.{stepped_adds}
use Rattle.plcr_imagelist.proofs.change.Change.step.Goals as goal

pub returns-then-self-change_step-clause-step :
    goal.returns-then-self-change_step-clause-step
returns-then-self-change_step-clause-step c = search rules

pub returns-else-self-change_step-clause-step :
    goal.returns-else-self-change_step-clause-step
returns-else-self-change_step-clause-step c = search rules

pub returns-then-self-change_step-clause-changes :
    goal.returns-then-self-change_step-clause-changes
returns-then-self-change_step-clause-changes c =
    let known = subst (λ (s : ChangeState). IsHistory s.writer.nodes s.writer.passes s.writer.history s.writer.names) c.self.view_is c.self.invariant.0.known in
    stepped_adds c.args.self (Done c.count.result) known (returns-then-self-change_step-clause-step c)

pub returns-else-self-change_step-clause-changes :
    goal.returns-else-self-change_step-clause-changes
returns-else-self-change_step-clause-changes c =
    let known = subst (λ (s : ChangeState). IsHistory s.writer.nodes s.writer.passes s.writer.history s.writer.names) c.self.view_is c.self.invariant.0.known in
    stepped_adds c.args.self (More c.advance.new.self) known (returns-else-self-change_step-clause-step c)
