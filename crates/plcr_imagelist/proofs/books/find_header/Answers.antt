use Rattle.std.proofs.Common.{◌∙◌, List, ap, sym}
use Rattle.plcr_machine.specs.declared.image.Image.{Image}
use Rattle.plcr_imagelist.specs.Finding.{first_with}
use Rattle.plcr_imagelist.proofs.Placed.{found_left, found_right, first_right}
use Rattle.plcr_imagelist.proofs.books.find_header.Goals as goal

pub returns-in-Some-clause-some : goal.returns-in-Some-clause-some
returns-in-Some-clause-some c =
    found_left c.args.header c.in-Some.found.0 c.as_slices.result.0.now c.as_slices.result.1.now c.args.images.now.items c.in-Some.found.1 c.as_slices.ensures.items c.in-Some.ensures.some

pub returns-in-Some-find_in-clause-some : goal.returns-in-Some-find_in-clause-some
returns-in-Some-find_in-clause-some c =
    found_right c.args.header c.in-Some-find_in.at c.as_slices.result.0.now c.as_slices.result.1.now c.args.images.now.items c.in-Some-find_in.image c.as_slices.ensures.items c.in_default.ensures.none c.in-Some-find_in.ensures.some

pub returns-in-None-clause-none : goal.returns-in-None-clause-none
returns-in-None-clause-none c =
    ap (λ (xs : List Image). first_with c.args.header xs) (sym c.as_slices.ensures.items) ∙ first_right c.args.header c.as_slices.result.0.now c.as_slices.result.1.now c.in_default.ensures.none ∙ c.in-None.ensures.none
