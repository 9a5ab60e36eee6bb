use Rattle.std.proofs.Common.{sym, subst, arith, List, ℕ}
use Rattle.plcr_imagelist.specs.declared.change.Task.TheVariants.{Unload}
use Rattle.plcr_imagelist.specs.inner.Making.{IsMaking}
use Rattle.plcr_imagelist.proofs.Stepping.{making_begun_unload}
use Rattle.plcr_imagelist.proofs.writer.start_unload.Goals as goal

pub invariant_of-result : goal.invariant_of-result
invariant_of-result c =
    let room = c.requires.room in let cleared = c.clear.ensures.capacity in (
      subst (λ (xs : List ℕ). IsMaking c.args.books (Unload c.args.at c.args.image) xs c.args.image.load 0) (sym c.clear.ensures.items)
          (making_begun_unload c.args.books c.args.at c.args.image c.args.image.load c.requires.rest c.requires.fresh c.requires.image.0 c.requires.image.1 c.requires.first),
      omega arith,
    )
