use Rattle.std.proofs.Common.{sym, subst, []}
use Rattle.plcr_imagelist.proofs.Stepping.{begun}
use Rattle.plcr_machine.specs.Passes.{IsPaced}
use Rattle.plcr_imagelist.specs.States.{ChangeState, WriterState}
use Rattle.plcr_imagelist.specs.inner.Keeping.{writer_state}
use Rattle.plcr_imagelist.specs.Listing.{AddsChanges, HasLists}
use Rattle.plcr_imagelist.proofs.Changed.{made_none, has_lists}
use Rattle.plcr_imagelist.proofs.writer.Writer.begin_load.Goals as goal

pub returns-in-None-clause-begins : goal.returns-in-None-clause-begins
returns-in-None-clause-begins c = λ _ _. begun c.args.self c.self.inside.books c.find_room.new.self c.args.header c.args.name.now c.start_load.result c.self.view_is c.in-None.ensures.none c.start_load.ensures

pub returns-in-None-clause-paced : goal.returns-in-None-clause-paced
returns-in-None-clause-paced c = subst (λ (s : ChangeState). IsPaced s.writer.history) (sym c.start_load.ensures) c.find_room.ensures.rest.paced

pub returns-in-Some-clause-changes : goal.returns-in-Some-clause-changes
returns-in-Some-clause-changes c =
    let old = c.self.inside.books.owner in
    let new = writer_state c.find_room.new.self.owner in
    subst (λ (s : WriterState). AddsChanges s [] new) c.self.view_is (made_none (writer_state old) new c.self.invariant.0.known c.find_room.ensures.made)

pub returns-in-None-clause-changes : goal.returns-in-None-clause-changes
returns-in-None-clause-changes c =
    let old = c.self.inside.books.owner in
    let new = writer_state c.find_room.new.self.owner in
    subst (λ (s : ChangeState). AddsChanges c.args.self [] s.writer) (sym c.start_load.ensures)
    (subst (λ (s : WriterState). AddsChanges s [] new) c.self.view_is (made_none (writer_state old) new c.self.invariant.0.known c.find_room.ensures.made))

pub returns-in-None-clause-lists : goal.returns-in-None-clause-lists
returns-in-None-clause-lists c =
    subst (λ (s : ChangeState). HasLists s.writer) (sym c.start_load.ensures) (has_lists (writer_state c.find_room.new.self.owner) c.find_room.ensures.rest.known c.find_room.ensures.rest.first)
