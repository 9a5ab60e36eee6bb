use Rattle.std.proofs.Common.{rules, sym, subst, List, ℕ}
use Rattle.std.specs.List.Sorted.{IsPermutation}
use Rattle.std.proofs.lemmas.List.Sorted.{IsPermutation-map, IsNonDecreasingBy-from_sort, answers_always}
use Rattle.plcr_macho.specs.declared.spot.Spot.{Spot}
use Rattle.plcr_macho.specs.Index.{Extent}
use Rattle.plcr_macho.specs.Spots.{extent_of, extents_of}
use Rattle.plcr_macho.proofs.Reached.{rises_again}
use Rattle.plcr_macho.proofs.spots.sort.Goals as goal

pub returns-clause-same : goal.returns-clause-same
returns-clause-same c =
    subst (λ (es : List Extent). IsPermutation (extents_of c.args.spots.now) es) (sym c.set_reaches.ensures.same)
    (IsPermutation-map extent_of c.args.spots.now c.sort_unstable_by_key.new.self c.sort_unstable_by_key.ensures.permutation)

pub returns-clause-searchable : goal.returns-clause-searchable
returns-clause-searchable c =
    let start : Spot → ℕ = λ (s : Spot). s.start in
    let sorted = IsNonDecreasingBy-from_sort start c.sort_unstable_by_key.new.self (c.sort_unstable_by_key.ensures.sorted start (answers_always _ _ _ (λ f a r g h. search rules))) in
    record { rises = rises_again c.sort_unstable_by_key.new.self c.set_reaches.new.spots c.set_reaches.ensures.same sorted; reaches = c.set_reaches.ensures.reaches }
