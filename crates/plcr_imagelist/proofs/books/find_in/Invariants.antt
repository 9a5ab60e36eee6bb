use Rattle.std.proofs.Common.{◌≡◌, drop}
use Rattle.plcr_imagelist.specs.Finding.{first_with}
use Rattle.plcr_imagelist.proofs.books.find_in.Given as goal

abbrev pub invariant-loop-at : goal.invariant-loop-at
invariant-loop-at l = first_with l.header (drop l.at l.images) ≡ first_with l.header l.images
