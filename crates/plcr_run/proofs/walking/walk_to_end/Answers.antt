use Rattle.std.proofs.Common.{refl, ◌∙◌, suc, ap, arith}
use Rattle.plcr_imagelist.specs.Holds.{WalkerState}
use Rattle.plcr_imagelist.proofs.Sees.{sees_again}
use Rattle.plcr_run.proofs.Walked.{walk_starts, met_more}
use Rattle.plcr_run.proofs.walking.walk_to_end.Goals as goal

pub loop-init : goal.loop-init
loop-init c = record { meeting = (0, refl); sees = walk_starts c.args.hold.now c.requires.walking; walking = c.requires.walking; list = c.requires.list }

pub loop-preserved : goal.loop-preserved
loop-preserved c = record {
  meeting = (suc c.loop.invariant.meeting.0, (c.loop.hold, c.loop.invariant.meeting.1, c.loop-test.ensures.next));
  sees = sees_again _ _ _ c.loop.invariant.sees c.next.ensures.sees;
  walking = c.next.ensures.walking;
  list = c.next.ensures.list ∙ c.loop.invariant.list;
}

pub loop-smaller : goal.loop-smaller
loop-smaller c =
    let more = met_more c.loop.hold c.next.new.self c.loop-test.ensures.next in
    let few = c.next.ensures.walking.few in
    let same = ap (λ (w : WalkerState). w.nodes) c.next.ensures.sees.now in
    let before = ap (λ (w : WalkerState). w.nodes) c.loop.invariant.sees.now in
    omega arith

pub returns-clause-sees : goal.returns-clause-sees
returns-clause-sees c = sees_again _ _ _ c.loop.invariant.sees c.next.ensures.sees
