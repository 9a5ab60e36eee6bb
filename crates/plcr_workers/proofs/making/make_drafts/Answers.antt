use Rattle.std.proofs.Common.{◌≡◌, ◌+◌, List, [], length, refl, sym, ap, ◌∙◌, subst, arith}
use Rattle.plcr_base.specs.Told.{IfTold, add}
use Rattle.plcr_script.specs.Reading.{file_of}
use Rattle.plcr_turns.proofs.Fronts.{all_more}
use Rattle.plcr_workers.specs.Log.{file_in}
use Rattle.plcr_workers.specs.inner.Outputs.{AreEmpty}
use Rattle.plcr_workers.specs.declared.drafts.Draft.{Draft}
use Rattle.plcr_workers.specs.declared.drafts.Progress.TheVariants.{Waiting}
use Rattle.plcr_workers.proofs.Worked.{none_all}
use Rattle.plcr_workers.proofs.Made.{MakingEach, stands_at, not_report, making_none, making_same, making_one, making_cut, making_room, made_one}
use Rattle.plcr_workers.proofs.making.make_drafts.Goals.{in-Report+in-Ok, in_default}
use Rattle.plcr_workers.proofs.making.make_drafts.Goals as goal

pub loop-at-init : goal.loop-at-init
loop-at-init g c =
    let none : length c.args.drafts.now.items ≡ 0 = sym c.args.drafts.now.ok.0 ∙ c.requires.none in
    (making_none g.D.Out.Sink.faults c.args.number c.args.script.now.statements c.args.drafts.now.items (g.D.Desk.told c.args.desk.now) none, refl, none_all (λ (d : Draft g.row.D-Out.Denot). (d.progress ≡ Waiting) × IfTold (g.D.Out.Sink.written d.out) (λ bytes. bytes ≡ [])) c.args.drafts.now.items none)

pub returns-in-Err-clause-err : goal.returns-in-Err-clause-err
returns-in-Err-clause-err g c =
    let e = c.in-Err.ensures in
    let file = c.as_slice.ensures in
    making_cut g.D.Out.Sink.faults c.args.number c.args.script.now.statements c.loop-at.at c.statement.result.now c.in-Report.file c.loop-at.drafts.items (g.D.Desk.told c.args.desk.now) (g.D.Desk.told c.loop-at.desk) (g.D.Desk.told c.make.new.self)
    (stands_at c.args.script.now.statements c.loop-at.at c.statement.result.now c.statement.ensures) (ap file_of c.in-Report.is) (ap file_in c.in-Report.is)
    e.unlisted e.kept e.dropped (record { files = e.files; taken = e.taken; take_faults = e.take_faults; out_faults = e.later }) e.failed c.loop-at.invariant.0

pub push_reserved-requires : goal.push_reserved-requires
push_reserved-requires g c =
    let fits = making_room g.D.Out.Sink.faults c.args.number c.args.script.now.statements c.loop-at.at c.statement.result.now c.in-Report.file c.loop-at.drafts.items (g.D.Desk.told c.args.desk.now) (g.D.Desk.told c.loop-at.desk)
    (stands_at c.args.script.now.statements c.loop-at.at c.statement.result.now c.statement.ensures) (ap file_of c.in-Report.is) c.loop-at.invariant.0 in
    let room = c.requires.room in let same = c.loop-at.invariant.1 in let len = c.loop-at.drafts.ok.0 in omega (arith, fits, room, same, len)

pub loop-at-preserved : goal.loop-at-preserved
loop-at-preserved g c = elim c.match-statement.branch [
  | in-Report+in-Ok w ↦
      let e = w.in-Ok.ensures in
      rw (w.desk-is, w.drafts-is) (
        subst (λ (l : List (Draft g.row.D-Out.Denot)). MakingEach g.D.Out.Sink.faults c.args.number c.args.script.now.statements (c.loop-at.at + 1) l (g.D.Desk.told c.args.desk.now) (g.D.Desk.told w.make.new.self)) (sym w.push_reserved.ensures.items)
            (making_one g.D.Out.Sink.faults c.args.number c.args.script.now.statements c.loop-at.at c.statement.result.now w.in-Report.file c.loop-at.drafts.items _ (g.D.Desk.told c.args.desk.now) (g.D.Desk.told c.loop-at.desk) (g.D.Desk.told w.make.new.self)
            (stands_at c.args.script.now.statements c.loop-at.at c.statement.result.now c.statement.ensures) (ap file_of w.in-Report.is) (ap file_in w.in-Report.is)
            (refl, (omega arith), e.faultless) refl
            (made_one w.in-Report.file (g.D.Desk.told c.loop-at.desk) (g.D.Desk.told w.make.new.self) (e.listed ∙ ap (add (g.D.Desk.told c.loop-at.desk).made) (w.file_name.ensures ∙ w.as_slice.ensures)) e.kept e.dropped (record { files = e.files; taken = e.taken; take_faults = e.take_faults; out_faults = e.later }))
            c.loop-at.invariant.0),
        w.push_reserved.ensures.capacity ∙ c.loop-at.invariant.1,
        subst (AreEmpty g.D.Out.Sink.written) (sym w.push_reserved.ensures.items) (all_more (λ (d : Draft g.row.D-Out.Denot). (d.progress ≡ Waiting) × IfTold (g.D.Out.Sink.written d.out) (λ bytes. bytes ≡ [])) c.loop-at.drafts.items _ c.loop-at.invariant.2 (refl, e.empty)),
      )
  | in_default w ↦
      rw (w.desk-is, w.drafts-is) (
        making_same g.D.Out.Sink.faults c.args.number c.args.script.now.statements c.loop-at.at c.statement.result.now c.loop-at.drafts.items (g.D.Desk.told c.args.desk.now) (g.D.Desk.told c.loop-at.desk)
            (stands_at c.args.script.now.statements c.loop-at.at c.statement.result.now c.statement.ensures) (not_report c.statement.result.now w.in_default.not-Report) c.loop-at.invariant.0,
        c.loop-at.invariant.1,
        c.loop-at.invariant.2,
      )
]

pub returns-in-Err-clause-empty : goal.returns-in-Err-clause-empty
returns-in-Err-clause-empty g c = c.loop-at.invariant.2

pub returns-clause-empty : goal.returns-clause-empty
returns-clause-empty g c = c.loop-at.invariant.2
