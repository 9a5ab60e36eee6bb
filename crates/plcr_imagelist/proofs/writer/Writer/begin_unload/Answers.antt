use Rattle.std.proofs.Common.{sym, subst}
use Rattle.plcr_machine.specs.Passes.{IsPaced}
use Rattle.plcr_imagelist.specs.States.{ChangeState}
use Rattle.plcr_imagelist.specs.inner.Keeping.{writer_state}
use Rattle.plcr_imagelist.specs.Listing.{HasLists}
use Rattle.plcr_imagelist.proofs.Changed.{has_lists}
use Rattle.plcr_imagelist.proofs.writer.Writer.begin_unload.Goals as goal

pub returns-in-Some-clause-paced : goal.returns-in-Some-clause-paced
returns-in-Some-clause-paced c = subst (λ (s : ChangeState). IsPaced s.writer.history) (sym c.start_unload.ensures) c.self.invariant.0.paced

pub returns-in-Some-clause-lists : goal.returns-in-Some-clause-lists
returns-in-Some-clause-lists c =
    subst (λ (s : ChangeState). HasLists s.writer) (sym c.start_unload.ensures) (has_lists (writer_state c.self.inside.books.owner) c.self.invariant.0.known c.self.invariant.0.first)
