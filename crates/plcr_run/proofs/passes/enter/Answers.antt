use Rattle.std.proofs.Common.{◌≡◌, ap, ◌∙◌, subst}
use Rattle.plcr_nodes.specs.Tokens.{NoteState}
use Rattle.plcr_imagelist.specs.Holds.{HoldState}
use Rattle.plcr_imagelist.specs.Tellings.{IsWriterTold, IsWalkerTold, note_of_walker}
use Rattle.plcr_run.specs.declared.slots.Slot.TheVariants.{In}
use Rattle.plcr_run.specs.declared.writing.Writing.{Writing}
use Rattle.plcr_run.specs.inner.Slots.{IsPut}
use Rattle.plcr_run.specs.inner.Tokens.{writer_of, with_writer}
use Rattle.plcr_run.proofs.Turned.{EnterSteps, enter_tokens, enter_goes, put_twice}
use Rattle.plcr_run.proofs.passes.enter.Goals as goal

steps_of : (c : goal.After-slots-2-1) → EnterSteps c.args.list.now c.args.writing.now c.args.slots.now c.args.pass c.take_pass-outside.result c.told.new.self c.enter-hold.result c.told-2.new.self c.put.new.slots
steps_of c =
    let hold : c.keep.result ≡ c.enter-hold.result = c.keep.ensures ∙ c.note-2.ensures.same in
    record {
      tokens = c.requires.tokens;
      within = c.requires.place;
      was = c.take_pass-outside.ensures.was;
      hears = subst (λ (n : NoteState). IsWalkerTold c.take_pass-outside.result n c.told.new.self) c.note.ensures.note c.told.ensures.told;
      held = c.enter-hold.ensures.entered;
      walking = c.enter-hold.ensures.walking;
      tells = subst (λ (w : Writing). IsWriterTold (writer_of w) (note_of_walker c.enter-hold.result.walker) (writer_of c.told-2.new.self)) c.note.ensures.same
          (subst (λ (n : NoteState). IsWriterTold (writer_of c.note.new.self) n (writer_of c.told-2.new.self)) c.note-2.ensures.note c.told-2.ensures.told);
      goes = c.told-2.ensures.going;
      same = c.told-2.ensures.same ∙ ap (λ (w : Writing). with_writer w (writer_of c.told-2.new.self)) c.note.ensures.same;
      put = put_twice _ _ _ _ _ _ c.take_pass-outside.ensures.left (subst (λ (h : HoldState). IsPut c.take_pass-outside.new.slots c.put.new.slots c.args.pass (In h)) hold c.put.ensures);
    }

pub returns-clause-tokens : goal.returns-clause-tokens
returns-clause-tokens c = enter_tokens _ _ _ _ _ _ _ _ _ (steps_of c)

pub returns-clause-goes : goal.returns-clause-goes
returns-clause-goes c = enter_goes _ _ _ _ _ _ _ _ _ (steps_of c)
