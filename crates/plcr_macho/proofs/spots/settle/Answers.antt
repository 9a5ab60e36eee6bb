use Rattle.std.proofs.Common.{◌≡◌, ◌++◌, ℕ, List, length, take, drop, sym, ap, ◌∙◌, subst, arith, length-append}
use Rattle.std.specs.List.Sorted.{IsPermutation}
use Rattle.std.proofs.Math.Seq.{take-append_seam}
use Rattle.std.proofs.lemmas.List.{length-take}
use Rattle.plcr_macho.specs.declared.spot.Spot.{Spot}
use Rattle.plcr_macho.specs.Spots.{extents_of, IsSearchable}
use Rattle.plcr_macho.proofs.Indexing.{indexes}
use Rattle.plcr_macho.proofs.spots.settle.Goals as goal

pub returns-clause-settles : goal.returns-clause-settles
returns-clause-settles c =
    let sorted : List Spot = c.sort.new.spots in
    let rest : List Spot = drop c.args.filled c.args.room.now in
    let inside = c.requires in
    let taken = length-take c.args.filled c.args.room.now in
    let room = c.sort.ensures.room in
    let size : length sorted ≡ c.args.filled = omega arith in
    let front : take c.args.filled (sorted ++ rest) ≡ sorted = ap (λ (n : ℕ). take n (sorted ++ rest)) (sym size) ∙ take-append_seam sorted rest in
    let whole = length-append sorted rest in
    λ m arch images is. indexes m arch images c.args.room.now (sorted ++ rest) c.args.filled (omega arith)
    (subst (λ (ss : List Spot). IsSearchable ss) (sym front) c.sort.ensures.searchable)
    (subst (λ (ss : List Spot). IsPermutation (extents_of (take c.args.filled c.args.room.now)) (extents_of ss)) (sym front) c.sort.ensures.same)
    is
