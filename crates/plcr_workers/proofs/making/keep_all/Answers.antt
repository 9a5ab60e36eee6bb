use Rattle.std.proofs.Common.{◌≡◌, [], Result, length, rules, subst}
use Rattle.std.specs.Prelude.{OnOk, IfErr, reverse}
use Rattle.plcr_workers.specs.declared.making.Unwritten.{Unwritten}
use Rattle.plcr_workers.specs.inner.Outputs.{HasKeptAll, HasKeptUpTo, in_order}
use Rattle.plcr_workers.proofs.Settled.{all_none, last_are, last_done, last_open, both_open, all_one, all_cut, all_all}
use Rattle.plcr_workers.proofs.making.keep_all.Goals as goal

pub loop-drafts-init : goal.loop-drafts-init
loop-drafts-init g c = all_none g.D.Out.Sink.written g.D.Out.Sink.faults c.args.scripts.now c.args.all.items (g.D.Desk.told c.args.desk.now) (g.D.Desk.told c.args.desk.now) c.requires.drafts c.requires.done c.requires.«open»

pub keep_each-requires-clause-drafts : goal.keep_each-requires-clause-drafts
keep_each-requires-clause-drafts g c = last_are g.D.Out.Sink.written g.D.Out.Sink.faults c.args.scripts.now c.args.all.items (g.D.Desk.told c.args.desk.now) (g.D.Desk.told c.loop-drafts.desk) c.loop-drafts.all.items c.pop.new.self.items c.in-Some.drafts c.in-Some.ensures.items c.loop-drafts.invariant

pub keep_each-requires-clause-done : goal.keep_each-requires-clause-done
keep_each-requires-clause-done g c = last_done g.D.Out.Sink.written g.D.Out.Sink.faults c.args.scripts.now c.args.all.items (g.D.Desk.told c.args.desk.now) (g.D.Desk.told c.loop-drafts.desk) c.loop-drafts.all.items c.pop.new.self.items c.in-Some.drafts c.in-Some.ensures.items c.loop-drafts.invariant

pub keep_each-requires-clause-open : goal.keep_each-requires-clause-open
keep_each-requires-clause-open g c = last_open g.D.Out.Sink.written g.D.Out.Sink.faults c.args.scripts.now c.args.all.items (g.D.Desk.told c.args.desk.now) (g.D.Desk.told c.loop-drafts.desk) c.loop-drafts.all.items c.pop.new.self.items c.in-Some.drafts c.in-Some.ensures.items c.loop-drafts.invariant

pub abandon_all-requires : goal.abandon_all-requires
abandon_all-requires g c = record { «open» = c.keep_each.ensures.«open» (length (in_order c.pop.new.self.items)) (both_open g.D.Out.Sink.written g.D.Out.Sink.faults c.args.scripts.now c.args.all.items (g.D.Desk.told c.args.desk.now) (g.D.Desk.told c.loop-drafts.desk) c.loop-drafts.all.items c.pop.new.self.items c.in-Some.drafts c.in-Some.ensures.items c.loop-drafts.invariant) }

pub loop-drafts-preserved : goal.loop-drafts-preserved
loop-drafts-preserved g c =
    let P : Result (Unit {0}) Unwritten → Type 0 = λ r. OnOk r (HasKeptAll g.D.Out.Sink.written c.args.scripts.now (reverse c.in-Some.drafts.items) (g.D.Desk.told c.loop-drafts.desk) (g.D.Desk.told c.keep_each.new.desk)) in
    all_one g.D.Out.Sink.written g.D.Out.Sink.faults c.args.scripts.now c.args.all.items (g.D.Desk.told c.args.desk.now) (g.D.Desk.told c.loop-drafts.desk) c.loop-drafts.all.items c.pop.new.self.items c.in-Some.drafts c.in-Some.ensures.items c.loop-drafts.invariant (g.D.Desk.told c.keep_each.new.desk) (subst P c.in_default-keep_each.is c.keep_each.ensures.ok) c.keep_each.ensures.«open»

pub returns-in-Err-clause-err : goal.returns-in-Err-clause-err
returns-in-Err-clause-err g c =
    let P : Result (Unit {0}) Unwritten → Type 0 = λ r. IfErr r (λ u. HasKeptUpTo g.D.Out.Sink.written c.args.scripts.now (reverse c.in-Some.drafts.items) u.script u.at (g.D.Desk.told c.loop-drafts.desk) (g.D.Desk.told c.keep_each.new.desk)) in
    all_cut g.D.Out.Sink.written g.D.Out.Sink.faults c.args.scripts.now c.args.all.items (g.D.Desk.told c.args.desk.now) (g.D.Desk.told c.loop-drafts.desk) c.loop-drafts.all.items c.pop.new.self.items c.in-Some.drafts c.in-Some.ensures.items c.loop-drafts.invariant c.in-Err.unwritten.script c.in-Err.unwritten.at (g.D.Desk.told c.keep_each.new.desk) (g.D.Desk.told c.abandon_all.new.desk) (subst P c.in-Err.is c.keep_each.ensures.err) c.abandon_all.ensures.dropped

pub returns-clause-ok : goal.returns-clause-ok
returns-clause-ok g c =
    let none : c.loop-drafts.all.items ≡ [] = search rules in
    all_all g.D.Out.Sink.written g.D.Out.Sink.faults c.args.scripts.now c.args.all.items (g.D.Desk.told c.args.desk.now) (g.D.Desk.told c.loop-drafts.desk) c.loop-drafts.all.items none c.loop-drafts.invariant
