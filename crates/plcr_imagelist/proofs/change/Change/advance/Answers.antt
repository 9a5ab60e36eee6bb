use Rattle.plcr_imagelist.specs.inner.Keeping.{writer_state}
use Rattle.plcr_imagelist.proofs.Changed.{has_lists}
use Rattle.plcr_imagelist.proofs.change.Change.advance.Goals as goal

pub returns-clause-lists : goal.returns-clause-lists
returns-clause-lists c = let making = c.make_step.ensures.making in has_lists (writer_state c.make_step.new.books.owner) making.known making.first
