use Rattle.std.proofs.Common.{subst, []}
use Rattle.plcr_nodes.specs.Tokens.{NoteState}
use Rattle.plcr_imagelist.specs.States.{WriterState}
use Rattle.plcr_imagelist.specs.inner.Keeping.{writer_state}
use Rattle.plcr_imagelist.specs.Tellings.{IsWriterTold}
use Rattle.plcr_imagelist.proofs.Told.{rest_told, writer_told}
use Rattle.plcr_imagelist.specs.Listing.{AddsChanges}
use Rattle.plcr_imagelist.proofs.Changed.{told_adds}
use Rattle.plcr_imagelist.proofs.writer.Writer.told.Goals as goal

pub invariant_of-self : goal.invariant_of-self
invariant_of-self c = (rest_told c.self.inside.books.owner c.note.inside.note c.told.new.self.owner c.told.ensures.told c.self.invariant.0, c.self.invariant.1)

pub returns-clause-told : goal.returns-clause-told
returns-clause-told c =
    let new = writer_state c.told.new.self.owner in
    subst (λ (n : NoteState). IsWriterTold c.args.self.now n new) c.note.view_is
    (subst (λ (s : WriterState). IsWriterTold s c.note.inside.note new) c.self.view_is (writer_told c.self.inside.books.owner c.note.inside.note c.told.new.self.owner c.told.ensures.told))

pub returns-clause-rest : goal.returns-clause-rest
returns-clause-rest c = rest_told c.self.inside.books.owner c.note.inside.note c.told.new.self.owner c.told.ensures.told c.self.invariant.0

pub returns-clause-changes : goal.returns-clause-changes
returns-clause-changes c =
    let old = c.self.inside.books.owner in
    let new = writer_state c.told.new.self.owner in
    subst (λ (s : WriterState). AddsChanges s [] new) c.self.view_is (told_adds (writer_state old) c.note.inside.note new c.self.invariant.0.known (writer_told old c.note.inside.note c.told.new.self.owner c.told.ensures.told))
