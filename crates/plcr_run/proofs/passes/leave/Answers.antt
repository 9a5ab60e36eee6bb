use Rattle.std.proofs.Common.{ap, ◌∙◌, subst}
use Rattle.plcr_nodes.specs.Tokens.{NoteState}
use Rattle.plcr_imagelist.specs.Holds.{WalkerState}
use Rattle.plcr_imagelist.specs.Tellings.{IsWriterTold, IsHoldTold, note_of_walker}
use Rattle.plcr_run.specs.declared.slots.Slot.TheVariants.{Out}
use Rattle.plcr_run.specs.declared.writing.Writing.{Writing}
use Rattle.plcr_run.specs.inner.Slots.{IsPut}
use Rattle.plcr_run.specs.inner.Tokens.{writer_of, with_writer}
use Rattle.plcr_run.proofs.Turned.{LeaveSteps, leave_tokens, leave_goes, leave_tells, put_twice}
use Rattle.plcr_run.proofs.passes.leave.Goals as goal

steps_of : (c : goal.After-slots-2-1) → LeaveSteps c.args.list.now c.args.writing.now c.args.slots.now c.args.pass c.take_hold-hold.result c.told.new.self c.leave-outside.result.0 c.leave-outside.result.1.low c.leave-outside.result.1.high c.told-2.new.self c.put.new.slots
steps_of c = record {
  tokens = c.requires.tokens;
  within = c.requires.place;
  was = c.take_hold-hold.ensures.was;
  hears = subst (λ (n : NoteState). IsHoldTold c.take_hold-hold.result n c.told.new.self) c.note.ensures.note c.told.ensures.told;
  sees = c.told.ensures.sees;
  released = c.leave-outside.ensures.released;
  tells = subst (λ (w : Writing). IsWriterTold (writer_of w) (note_of_walker c.leave-outside.result.0) (writer_of c.told-2.new.self)) c.note.ensures.same
      (subst (λ (n : NoteState). IsWriterTold (writer_of c.note.new.self) n (writer_of c.told-2.new.self)) c.note-2.ensures.note c.told-2.ensures.told);
  goes = c.told-2.ensures.going;
  same = c.told-2.ensures.same ∙ ap (λ (w : Writing). with_writer w (writer_of c.told-2.new.self)) c.note.ensures.same;
  put = put_twice _ _ _ _ _ _ c.take_hold-hold.ensures.left (subst (λ (p : WalkerState). IsPut c.take_hold-hold.new.slots c.put.new.slots c.args.pass (Out p)) c.note-2.ensures.same c.put.ensures);
}

pub returns-clause-tokens : goal.returns-clause-tokens
returns-clause-tokens c = leave_tokens _ _ _ _ _ _ _ _ _ _ _ (steps_of c)

pub returns-clause-goes : goal.returns-clause-goes
returns-clause-goes c = leave_goes _ _ _ _ _ _ _ _ _ _ _ (steps_of c)

pub returns-clause-told : goal.returns-clause-told
returns-clause-told c = leave_tells _ _ _ _ _ _ _ _ _ _ _ c.met-met.result (steps_of c) c.met-met.ensures
