use Rattle.std.proofs.Common.{rules, ◌∙◌, ◌-◌, leb, get_or, Bool, arith}
use Rattle.std.proofs.lemmas.Bool.{leb-false}
use Rattle.std.proofs.lemmas.List.Sorted.{IsPartitionPoint-from_clause, IsPartitionedBy-leb}
use Rattle.plcr_macho.specs.declared.spot.Spot.{Spot}
use Rattle.plcr_macho.proofs.Searched.{none_behind, none_before}
use Rattle.plcr_macho.proofs.spots.least_in.Goals as goal

pub loop-left-init : goal.loop-left-init
loop-left-init c =
    let early : Spot → Bool = λ (s : Spot). leb s.start c.args.address in
    let parted = IsPartitionedBy-leb (λ (s : Spot). s.start) c.args.spots.now c.args.address c.requires.rises in
    let point = IsPartitionPoint-from_clause early c.args.spots.now c.partition_point-left.result c.partition_point-left.ensures.partitioned parted (λ a r f h. search rules) in
    (none_behind c.args.address c.args.spots.now c.partition_point-left.result (λ k d behind below. leb-false (get_or c.args.spots.now k d).start c.args.address (point.1 k d behind below)), c.partition_point-left.ensures.bound)

pub returns-else-spots-left : goal.returns-else-spots-left
returns-else-spots-left c =
    let last = c.if-spots-left.false in
    let some = c.loop-left-test.true in
    c.loop-left.invariant.0 ∙ none_before c.args.address c.args.spots.now c.loop-left.left c.ranges.address.fits c.loop-left.invariant.1
    (λ k d below. let most = c.requires.reaches k (c.loop-left.left - 1) d (record { start = 0; size = 0; reach = 0; position = 0 }) (omega arith) (omega arith) in omega arith)
