use Rattle.std.proofs.Common.{◌≡◌, ◌∙◌, ◌++◌, ◌+◌, sym, ap, subst, arith, List, ℕ}
use Rattle.plcr_imagelist.specs.declared.change.Task.TheVariants.{Load}
use Rattle.plcr_imagelist.specs.inner.Making.{IsMaking}
use Rattle.plcr_imagelist.proofs.Placed.{loads_most}
use Rattle.plcr_imagelist.proofs.Stepping.{making_begun_load}
use Rattle.plcr_imagelist.proofs.writer.start_load.Goals as goal

pub overflow_add-load : goal.overflow_add-load
overflow_add-load c =
    let most = loads_most c.args.books.owner.history in let is = c.loads-load.ensures in let few = c.requires.fresh in omega arith

pub invariant_of-result : goal.invariant_of-result
invariant_of-result c =
    let is = c.loads-load.ensures in
    let kept : c.extend_from_slice.new.self.items ≡ c.args.name.now = c.in-Ok.ensures.items ∙ ap (λ (xs : List ℕ). xs ++ c.args.name.now) c.clear.ensures.items in
    let room = c.requires.room in let cleared = c.clear.ensures.capacity in let grown = c.in-Ok.ensures.capacity in (
      subst (λ (xs : List ℕ). IsMaking c.args.books (Load c.args.header) xs (c.loads-load.result + 1) 0) (sym kept)
          (making_begun_load c.args.books c.args.header c.args.name.now (c.loads-load.result + 1) c.requires.rest c.requires.fresh c.requires.free c.requires.short (λ k. let fits = c.type_inv.name k in omega arith) (omega arith)),
      omega arith,
    )
