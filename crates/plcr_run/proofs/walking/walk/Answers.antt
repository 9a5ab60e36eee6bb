use Rattle.std.proofs.Common.{refl, ◌∙◌, add-one}
use Rattle.plcr_imagelist.proofs.Sees.{sees_again}
use Rattle.plcr_run.proofs.Walked.{walk_starts}
use Rattle.plcr_run.proofs.walking.walk.Goals as goal

pub loop-turn-init : goal.loop-turn-init
loop-turn-init c = record { meeting = refl; sees = walk_starts c.args.hold.now c.requires.walking; walking = c.requires.walking; list = c.requires.list }

pub loop-turn-preserved : goal.loop-turn-preserved
loop-turn-preserved c = record {
  meeting = rw add-one (c.loop-turn.hold, c.loop-turn.invariant.meeting, c.if-not-next.ensures.next);
  sees = sees_again _ _ _ c.loop-turn.invariant.sees c.next.ensures.sees;
  walking = c.next.ensures.walking;
  list = c.next.ensures.list ∙ c.loop-turn.invariant.list;
}

pub returns-then-not-next-clause-sees : goal.returns-then-not-next-clause-sees
returns-then-not-next-clause-sees c = sees_again _ _ _ c.loop-turn.invariant.sees c.next.ensures.sees

pub returns-clause-sees : goal.returns-clause-sees
returns-clause-sees c = c.loop-turn.invariant.sees
