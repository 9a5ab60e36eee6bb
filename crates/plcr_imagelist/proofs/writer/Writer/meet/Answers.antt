use Rattle.std.proofs.Common.{subst, []}
use Rattle.plcr_imagelist.specs.States.{WriterState}
use Rattle.plcr_imagelist.specs.inner.Keeping.{writer_state}
use Rattle.plcr_imagelist.specs.Holds.{WalkerState}
use Rattle.plcr_imagelist.specs.inner.Holding.{walker_state}
use Rattle.plcr_imagelist.specs.Tellings.{IsMet}
use Rattle.plcr_imagelist.proofs.Told.{rest_joined, writer_met}
use Rattle.plcr_imagelist.specs.Listing.{AddsChanges}
use Rattle.plcr_imagelist.proofs.Changed.{met_adds}
use Rattle.plcr_imagelist.proofs.writer.Writer.meet.Goals as goal

pub invariant_of-result : goal.invariant_of-result
invariant_of-result c = (rest_joined c.self.inside.books.owner c.pass.inside.pass c.join.new.self.owner c.join.ensures.joined c.self.invariant.0, c.self.invariant.1)

pub returns-clause-rest : goal.returns-clause-rest
returns-clause-rest c = rest_joined c.self.inside.books.owner c.pass.inside.pass c.join.new.self.owner c.join.ensures.joined c.self.invariant.0

pub returns-clause-met : goal.returns-clause-met
returns-clause-met c =
    let new = writer_state c.join.new.self.owner in
    subst (λ (p : WalkerState). IsMet c.args.self p new) c.pass.view_is
    (subst (λ (s : WriterState). IsMet s (walker_state c.pass.inside.pass) new) c.self.view_is (writer_met c.self.inside.books.owner c.pass.inside.pass c.join.new.self.owner c.join.ensures.joined))

pub returns-clause-changes : goal.returns-clause-changes
returns-clause-changes c =
    let old = c.self.inside.books.owner in
    let new = writer_state c.join.new.self.owner in
    subst (λ (s : WriterState). AddsChanges s [] new) c.self.view_is (met_adds (writer_state old) (walker_state c.pass.inside.pass) new c.self.invariant.0.known (writer_met old c.pass.inside.pass c.join.new.self.owner c.join.ensures.joined))
