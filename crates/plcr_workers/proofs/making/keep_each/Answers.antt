use Rattle.std.proofs.Common.{◌≡◌, ◌∷◌, [], ◌+◌, Result, length, rules, subst, arith}
use Rattle.std.specs.Prelude.{OnOk, IfErr}
use Rattle.plcr_workers.specs.declared.making.Unwritten.{Unwritten}
use Rattle.plcr_workers.specs.inner.Outputs.{HasKeptAll, HasKeptUpTo}
use Rattle.plcr_workers.proofs.Opened.{has_open}
use Rattle.plcr_workers.proofs.Settled.{from_none, to_none, each_none, last_left, each_one, each_cut, each_all, each_open}
use Rattle.plcr_workers.proofs.making.keep_each.Goals as goal

pub loop-draft-init : goal.loop-draft-init
loop-draft-init g c = each_none g.D.Out.Sink.written g.D.Out.Sink.faults c.args.scripts.now c.args.drafts.items (g.D.Desk.told c.args.desk.now) (g.D.Desk.told c.args.desk.now) c.requires.drafts c.requires.done

pub keep-requires-clause-draft : goal.keep-requires-clause-draft
keep-requires-clause-draft g c = (last_left g.D.Out.Sink.written g.D.Out.Sink.faults c.args.scripts.now c.args.drafts.items (g.D.Desk.told c.args.desk.now) (g.D.Desk.told c.loop-draft.desk) c.loop-draft.drafts.items c.pop.new.self.items c.in-Some.draft c.in-Some.ensures.items c.loop-draft.invariant).is

pub keep-requires-clause-done : goal.keep-requires-clause-done
keep-requires-clause-done g c = (last_left g.D.Out.Sink.written g.D.Out.Sink.faults c.args.scripts.now c.args.drafts.items (g.D.Desk.told c.args.desk.now) (g.D.Desk.told c.loop-draft.desk) c.loop-draft.drafts.items c.pop.new.self.items c.in-Some.draft c.in-Some.ensures.items c.loop-draft.invariant).done

pub keep-requires-clause-open : goal.keep-requires-clause-open
keep-requires-clause-open g c =
    let l = last_left g.D.Out.Sink.written g.D.Out.Sink.faults c.args.scripts.now c.args.drafts.items (g.D.Desk.told c.args.desk.now) (g.D.Desk.told c.loop-draft.desk) c.loop-draft.drafts.items c.pop.new.self.items c.in-Some.draft c.in-Some.ensures.items c.loop-draft.invariant in
    has_open ((0 + length c.pop.new.self.items) + 1) (g.D.Desk.told c.loop-draft.desk) (omega arith) (l.opened 0 (c.loop-draft.invariant.«open» 0 (from_none (length c.args.drafts.items) (g.D.Desk.told c.args.desk.now) c.requires.«open»)))

pub abandon_each-requires : goal.abandon_each-requires
abandon_each-requires g c =
    let l = last_left g.D.Out.Sink.written g.D.Out.Sink.faults c.args.scripts.now c.args.drafts.items (g.D.Desk.told c.args.desk.now) (g.D.Desk.told c.loop-draft.desk) c.loop-draft.drafts.items c.pop.new.self.items c.in-Some.draft c.in-Some.ensures.items c.loop-draft.invariant in
    record { «open» = to_none (length c.pop.new.self.items) (g.D.Desk.told c.keep.new.desk) (c.keep.ensures.«open» (0 + length c.pop.new.self.items) (l.opened 0 (c.loop-draft.invariant.«open» 0 (from_none (length c.args.drafts.items) (g.D.Desk.told c.args.desk.now) c.requires.«open»)))) }

pub loop-draft-preserved : goal.loop-draft-preserved
loop-draft-preserved g c =
    let P : Result (Unit {0}) Unwritten → Type 0 = λ r. OnOk r (HasKeptAll g.D.Out.Sink.written c.args.scripts.now (c.in-Some.draft ∷ []) (g.D.Desk.told c.loop-draft.desk) (g.D.Desk.told c.keep.new.desk)) in
    each_one g.D.Out.Sink.written g.D.Out.Sink.faults c.args.scripts.now c.args.drafts.items (g.D.Desk.told c.args.desk.now) (g.D.Desk.told c.loop-draft.desk) c.loop-draft.drafts.items c.pop.new.self.items c.in-Some.draft (g.D.Desk.told c.keep.new.desk) c.in-Some.ensures.items c.loop-draft.invariant (subst P c.in_default-keep.is c.keep.ensures.ok) c.keep.ensures.«open»

pub returns-in-Err-clause-err : goal.returns-in-Err-clause-err
returns-in-Err-clause-err g c =
    let P : Result (Unit {0}) Unwritten → Type 0 = λ r. IfErr r (λ u. HasKeptUpTo g.D.Out.Sink.written c.args.scripts.now (c.in-Some.draft ∷ []) u.script u.at (g.D.Desk.told c.loop-draft.desk) (g.D.Desk.told c.keep.new.desk)) in
    each_cut g.D.Out.Sink.written g.D.Out.Sink.faults c.args.scripts.now c.args.drafts.items (g.D.Desk.told c.args.desk.now) (g.D.Desk.told c.loop-draft.desk) c.loop-draft.drafts.items c.pop.new.self.items c.in-Some.draft c.in-Err.unwritten.script c.in-Err.unwritten.at (g.D.Desk.told c.keep.new.desk) (g.D.Desk.told c.abandon_each.new.desk) c.in-Some.ensures.items c.loop-draft.invariant (subst P c.in-Err.is c.keep.ensures.err) c.abandon_each.ensures.dropped

pub returns-in-Err-clause-open : goal.returns-in-Err-clause-open
returns-in-Err-clause-open g c = λ count h.
    let l = last_left g.D.Out.Sink.written g.D.Out.Sink.faults c.args.scripts.now c.args.drafts.items (g.D.Desk.told c.args.desk.now) (g.D.Desk.told c.loop-draft.desk) c.loop-draft.drafts.items c.pop.new.self.items c.in-Some.draft c.in-Some.ensures.items c.loop-draft.invariant in
    c.abandon_each.ensures.«open» count (c.keep.ensures.«open» (count + length c.pop.new.self.items) (l.opened count (c.loop-draft.invariant.«open» count h)))

pub returns-clause-ok : goal.returns-clause-ok
returns-clause-ok g c =
    let none : c.loop-draft.drafts.items ≡ [] = search rules in
    each_all g.D.Out.Sink.written g.D.Out.Sink.faults c.args.scripts.now c.args.drafts.items (g.D.Desk.told c.args.desk.now) (g.D.Desk.told c.loop-draft.desk) c.loop-draft.drafts.items none c.loop-draft.invariant

pub returns-clause-open : goal.returns-clause-open
returns-clause-open g c =
    let none : c.loop-draft.drafts.items ≡ [] = search rules in
    each_open g.D.Out.Sink.written g.D.Out.Sink.faults c.args.scripts.now c.args.drafts.items (g.D.Desk.told c.args.desk.now) (g.D.Desk.told c.loop-draft.desk) c.loop-draft.drafts.items none c.loop-draft.invariant
