use Rattle.std.proofs.Common.{◌≡◌, sym, subst}
use Rattle.plcr_imagelist.specs.States.{ChangeState, change_step}
use Rattle.plcr_imagelist.specs.inner.Making.{doing_of}
use Rattle.plcr_imagelist.proofs.Resting.{rest_counted}
use Rattle.plcr_imagelist.proofs.Stepping.{making_due}
use Rattle.plcr_imagelist.specs.inner.Keeping.{writer_state}
use Rattle.plcr_imagelist.proofs.Changed.{has_lists}
use Rattle.plcr_imagelist.proofs.change.Change.count.Goals as goal

pub invariant_of-result : goal.invariant_of-result
invariant_of-result c =
    let b = c.self.inside in
    let m = c.self.invariant.0 in
    let last : b.made ≡ change_step (doing_of b.task b.name.items) = subst (λ (s : ChangeState). s.made ≡ change_step s.doing) (sym c.self.view_is) c.requires.last in
    (rest_counted b.books.owner c.count.ensures.counted.0 c.count.new.self.owner c.count.ensures.counted.1 m.paced m.first (making_due b.books b.task b.name.items b.load b.made m last), c.self.invariant.1)

pub returns-clause-rest : goal.returns-clause-rest
returns-clause-rest c =
    let b = c.self.inside in
    let m = c.self.invariant.0 in
    let last : b.made ≡ change_step (doing_of b.task b.name.items) = subst (λ (s : ChangeState). s.made ≡ change_step s.doing) (sym c.self.view_is) c.requires.last in
    rest_counted b.books.owner c.count.ensures.counted.0 c.count.new.self.owner c.count.ensures.counted.1 m.paced m.first (making_due b.books b.task b.name.items b.load b.made m last)

pub returns-clause-lists : goal.returns-clause-lists
returns-clause-lists c = let rest = returns-clause-rest c in has_lists (writer_state c.count.new.self.owner) rest.known rest.first
