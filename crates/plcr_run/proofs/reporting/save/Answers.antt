use Rattle.std.proofs.Common.{◌≡◌, ap, ◌∙◌, subst}
use Rattle.plcr_nodes.specs.Tokens.{NoteState}
use Rattle.plcr_imagelist.specs.Holds.{HoldState}
use Rattle.plcr_imagelist.specs.Carrying.{OnlySees}
use Rattle.plcr_imagelist.specs.Tellings.{IsWriterTold, IsHoldTold, note_of_walker}
use Rattle.plcr_imagelist.proofs.Sees.{sees_again, reading_sees}
use Rattle.plcr_run.specs.declared.slots.Slot.TheVariants.{In}
use Rattle.plcr_run.specs.declared.writing.Writing.{Writing}
use Rattle.plcr_run.specs.inner.Slots.{IsPut}
use Rattle.plcr_run.specs.inner.Tokens.{writer_of, with_writer}
use Rattle.plcr_run.proofs.Turned.{InsideSteps, inside_tokens, saved_goes, put_twice}
use Rattle.plcr_run.proofs.reporting.save.Given.{Over}
use Rattle.plcr_run.proofs.reporting.save.Goals as goal

reads_of : (g : Over) (c : goal.After-slots-2-1 g) → OnlySees c.walk_to_end.new.hold.walker c.save_walk-saved.new.hold.walker
reads_of g c = reading_sees c.walk_to_end.new.hold c.save_walk-saved.new.hold c.walk_to_end.ensures.walking c.save_walk-saved.ensures.same

steps_of : (g : Over) (c : goal.After-slots-2-1 g) → InsideSteps c.args.list.now c.args.writing.now c.args.slots.now c.args.pass c.take_hold-hold.result c.told.new.self c.save_walk-saved.new.hold c.told-2.new.self c.put.new.slots
steps_of g c =
    let hold : c.keep.result ≡ c.save_walk-saved.new.hold = c.keep.ensures ∙ c.note-2.ensures.same in
    record {
      tokens = c.requires.tokens;
      within = c.requires.place;
      was = c.take_hold-hold.ensures.was;
      hears = subst (λ (n : NoteState). IsHoldTold c.take_hold-hold.result n c.told.new.self) c.note.ensures.note c.told.ensures.told;
      sees = c.told.ensures.sees;
      goes_on = sees_again _ _ _ c.walk_to_end.ensures.sees (reads_of g c);
      walking = c.save_walk-saved.ensures.same.walking c.walk_to_end.ensures.walking;
      tells = subst (λ (w : Writing). IsWriterTold (writer_of w) (note_of_walker c.save_walk-saved.new.hold.walker) (writer_of c.told-2.new.self)) c.note.ensures.same
          (subst (λ (n : NoteState). IsWriterTold (writer_of c.note.new.self) n (writer_of c.told-2.new.self)) c.note-2.ensures.note c.told-2.ensures.told);
      goes = c.told-2.ensures.going;
      same = c.told-2.ensures.same ∙ ap (λ (w : Writing). with_writer w (writer_of c.told-2.new.self)) c.note.ensures.same;
      put = put_twice _ _ _ _ _ _ c.take_hold-hold.ensures.left (subst (λ (h : HoldState). IsPut c.take_hold-hold.new.slots c.put.new.slots c.args.pass (In h)) hold c.put.ensures);
    }

pub returns-clause-tokens : goal.returns-clause-tokens
returns-clause-tokens g c = inside_tokens _ _ _ _ _ _ _ _ _ (steps_of g c)

pub returns-clause-goes : goal.returns-clause-goes
returns-clause-goes g c = saved_goes _ _ _ _ _ _ _ _ _ _ (steps_of g c) c.walk_to_end.ensures.to_end c.walk_to_end.ensures.walking (reads_of g c) c.save_walk-saved.ensures.same
