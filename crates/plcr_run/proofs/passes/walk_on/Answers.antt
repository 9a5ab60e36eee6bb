use Rattle.std.proofs.Common.{◌≡◌, ap, ◌∙◌, subst, length}
use Rattle.plcr_nodes.specs.Tokens.{NoteState}
use Rattle.plcr_imagelist.specs.Holds.{HoldState}
use Rattle.plcr_imagelist.specs.Tellings.{IsWriterTold, IsHoldTold, note_of_walker}
use Rattle.plcr_run.specs.declared.slots.Slot.TheVariants.{In}
use Rattle.plcr_run.specs.declared.writing.Writing.{Writing}
use Rattle.plcr_run.specs.inner.Slots.{IsPut}
use Rattle.plcr_run.specs.inner.Tokens.{writer_of, with_writer}
use Rattle.plcr_run.proofs.Turned.{InsideSteps, inside_tokens, walk_turns, put_twice}
use Rattle.plcr_run.proofs.passes.walk_on.Goals as goal

steps_of : (c : goal.After-slots-2-1) → InsideSteps c.args.list.now c.args.writing.now c.args.slots.now c.args.pass c.take_hold-hold.result c.told.new.self c.walk.new.hold c.told-2.new.self c.put.new.slots
steps_of c =
    let hold : c.keep.result ≡ c.walk.new.hold = c.keep.ensures ∙ c.note-2.ensures.same in
    record {
      tokens = c.requires.tokens;
      within = c.requires.place;
      was = c.take_hold-hold.ensures.was;
      hears = subst (λ (n : NoteState). IsHoldTold c.take_hold-hold.result n c.told.new.self) c.note.ensures.note c.told.ensures.told;
      sees = c.told.ensures.sees;
      goes_on = c.walk.ensures.sees;
      walking = c.walk.ensures.walking;
      tells = subst (λ (w : Writing). IsWriterTold (writer_of w) (note_of_walker c.walk.new.hold.walker) (writer_of c.told-2.new.self)) c.note.ensures.same
          (subst (λ (n : NoteState). IsWriterTold (writer_of c.note.new.self) n (writer_of c.told-2.new.self)) c.note-2.ensures.note c.told-2.ensures.told);
      goes = c.told-2.ensures.going;
      same = c.told-2.ensures.same ∙ ap (λ (w : Writing). with_writer w (writer_of c.told-2.new.self)) c.note.ensures.same;
      put = put_twice _ _ _ _ _ _ c.take_hold-hold.ensures.left (subst (λ (h : HoldState). IsPut c.take_hold-hold.new.slots c.put.new.slots c.args.pass (In h)) hold c.put.ensures);
    }

pub returns-clause-tokens : goal.returns-clause-tokens
returns-clause-tokens c = inside_tokens _ _ _ _ _ _ _ _ _ (steps_of c)

pub returns-clause-turns : goal.returns-clause-turns
returns-clause-turns c =
    walk_turns _ _ _ _ c.args.most _ _ _ _ _ c.met-met.result c.has_ended-ended.result (steps_of c) c.walk.ensures.further
    (c.met-met.ensures ∙ ap (λ (h : HoldState). length h.met) c.note-2.ensures.same)
    (c.has_ended-ended.ensures ∙ ap (λ (h : HoldState). h.ended) c.note-2.ensures.same)
