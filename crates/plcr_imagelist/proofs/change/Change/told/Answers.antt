use Rattle.std.proofs.Common.{sym, ap, ◌∙◌, subst, []}
use Rattle.plcr_nodes.specs.Tokens.{NoteState}
use Rattle.plcr_imagelist.specs.inner.Keeping.{BooksState, writer_state}
use Rattle.plcr_imagelist.specs.States.{ChangeState}
use Rattle.plcr_imagelist.specs.inner.Making.{IsMaking, doing_of}
use Rattle.plcr_imagelist.specs.Tellings.{IsWriterTold}
use Rattle.plcr_imagelist.proofs.Told.{making_told, writer_told}
use Rattle.plcr_imagelist.specs.Listing.{AddsChanges}
use Rattle.plcr_imagelist.proofs.Changed.{has_lists, told_adds}
use Rattle.plcr_imagelist.proofs.change.Change.told.Goals as goal

pub invariant_of-self : goal.invariant_of-self
invariant_of-self c =
    let h = c.self.inside in
    let new = c.told.new.self.owner in (
      subst (λ (b : BooksState). IsMaking b h.task h.name.items h.load h.made) (λ i. record { owner = new; spare = sym c.told.ensures.spare i })
          (making_told h.books new c.note.inside.note h.task h.name.items h.load h.made c.told.ensures.told c.self.invariant.0),
      c.self.invariant.1,
    )

pub returns-clause-told : goal.returns-clause-told
returns-clause-told c =
    let h = c.self.inside in
    let new = writer_state c.told.new.self.owner in
    let told = writer_told h.books.owner c.note.inside.note c.told.new.self.owner c.told.ensures.told in
    record {
      writer = subst (λ (n : NoteState). IsWriterTold c.args.self.now.writer n new) c.note.view_is (subst (λ (s : ChangeState). IsWriterTold s.writer c.note.inside.note new) c.self.view_is told);
      same = (λ i. record { writer = new; doing = doing_of h.task h.name.items; load = h.load; made = h.made; node = c.told.ensures.spare i }) ∙ ap (λ (s : ChangeState). record s { writer = new }) c.self.view_is;
    }

pub returns-clause-paced : goal.returns-clause-paced
returns-clause-paced c =
    let h = c.self.inside in
    (making_told h.books c.told.new.self.owner c.note.inside.note h.task h.name.items h.load h.made c.told.ensures.told c.self.invariant.0).paced

pub returns-clause-changes : goal.returns-clause-changes
returns-clause-changes c =
    let h = c.self.inside in
    let new = writer_state c.told.new.self.owner in
    let told = writer_told h.books.owner c.note.inside.note c.told.new.self.owner c.told.ensures.told in
    subst (λ (s : ChangeState). AddsChanges s.writer [] new) c.self.view_is (told_adds (writer_state h.books.owner) c.note.inside.note new c.self.invariant.0.known told)

pub returns-clause-lists : goal.returns-clause-lists
returns-clause-lists c =
    let h = c.self.inside in
    let making = making_told h.books c.told.new.self.owner c.note.inside.note h.task h.name.items h.load h.made c.told.ensures.told c.self.invariant.0 in
    has_lists (writer_state c.told.new.self.owner) making.known making.first
