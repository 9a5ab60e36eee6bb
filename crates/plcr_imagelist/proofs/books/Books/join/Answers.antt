use Rattle.std.proofs.Common.{ap, arith}
use Rattle.plcr_nodes.specs.Tokens.{OwnerState}
use Rattle.plcr_imagelist.proofs.Told.{agrees_joined}
use Rattle.plcr_imagelist.proofs.books.Books.join.Goals as goal

pub invariant_of-self : goal.invariant_of-self
invariant_of-self c =
    let b = c.self.inside in
    let nodes = ap (λ (s : OwnerState). s.nodes) c.join.ensures.joined.now in
    let room = c.self.invariant.1 in
    (agrees_joined b.owner c.args.pass c.join.new.self b.bounds.items b.free.items b.removed.items b.images.items b.changes b.loads c.join.ensures.joined c.self.invariant.0, (omega arith, omega arith, omega arith))
