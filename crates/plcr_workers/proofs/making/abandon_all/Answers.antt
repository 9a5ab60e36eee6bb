use Rattle.std.proofs.Common.{ℕ, length, refl, subst, arith}
use Rattle.plcr_workers.specs.inner.Outputs.{HasOpenFor, in_order}
use Rattle.plcr_workers.proofs.Opened.{still_open}
use Rattle.plcr_workers.proofs.Settled.{dropped_none, dropped_twice, order_long}
use Rattle.plcr_workers.proofs.making.abandon_all.Goals as goal

pub loop-drafts-init : goal.loop-drafts-init
loop-drafts-init g c = record { dropped = dropped_none (g.D.Desk.told c.args.desk.now); left = c.requires.«open» }

pub abandon_each-requires : goal.abandon_each-requires
abandon_each-requires g c =
    let long = order_long c.loop-drafts.all.items c.pop.new.self.items c.in-Some.drafts c.in-Some.ensures.items in
    record { «open» = still_open (length (in_order c.loop-drafts.all.items)) (length c.in-Some.drafts.items) (g.D.Desk.told c.loop-drafts.desk) (g.D.Desk.told c.loop-drafts.desk) (omega (arith, long)) c.loop-drafts.invariant.left refl refl refl }

pub loop-drafts-preserved : goal.loop-drafts-preserved
loop-drafts-preserved g c =
    let long = order_long c.loop-drafts.all.items c.pop.new.self.items c.in-Some.drafts c.in-Some.ensures.items in
    record {
      dropped = dropped_twice (g.D.Desk.told c.args.desk.now) (g.D.Desk.told c.loop-drafts.desk) (g.D.Desk.told c.abandon_each.new.desk) c.loop-drafts.invariant.dropped c.abandon_each.ensures.dropped;
      left = c.abandon_each.ensures.«open» (length (in_order c.pop.new.self.items)) (subst (λ (n : ℕ). HasOpenFor n (g.D.Desk.told c.loop-drafts.desk)) long c.loop-drafts.invariant.left);
    }
