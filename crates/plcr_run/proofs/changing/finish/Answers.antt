use Rattle.std.proofs.Common.{refl, ◌∙◌, suc, ap, arith}
use Rattle.plcr_imagelist.specs.States.{Doing, steps_of}
use Rattle.plcr_run.proofs.changing.finish.Goals as goal

pub loop-next-init : goal.loop-next-init
loop-next-init c = record { steps = (0, refl); list = c.requires.list; doing = refl }

pub loop-next-preserved : goal.loop-next-preserved
loop-next-preserved c = record {
  steps = (suc c.loop-next.invariant.steps.0, (c.loop-next.change, c.loop-next.invariant.steps.1, c.in-More.ensures.step));
  list = c.in-More.ensures.list ∙ c.loop-next.invariant.list;
  doing = c.in-More.ensures.step.1.doing ∙ c.loop-next.invariant.doing;
}

pub loop-next-smaller : goal.loop-next-smaller
loop-next-smaller c =
    let fewer = c.in-More.ensures.step.0 in
    let more = c.in-More.ensures.step.1.made in
    let same = ap (λ (d : Doing). steps_of d) c.loop-next.invariant.doing in
    omega arith
