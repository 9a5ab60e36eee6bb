use Rattle.std.proofs.Common.{ltb, ltb-true, ltb-false, arith, rules}
use Rattle.std.proofs.lemmas.List.Sorted.{IsPartitionPoint-from_clause, IsPartitionedBy-ltb}
use Rattle.plcr_symbols.proofs.gaps.gap_of.Goals as goal

pub returns-clause-before : goal.returns-clause-before
returns-clause-before c =
    let parted = IsPartitionedBy-ltb (λ x. x) _ c.args.value c.requires in
    let point = IsPartitionPoint-from_clause (λ x. ltb x c.args.value) _ _ c.partition_point.ensures.partitioned parted (λ a r q k. search rules) in
    λ k h. ltb-true _ _ (point.0 k 0 (omega arith) h)

pub returns-clause-past : goal.returns-clause-past
returns-clause-past c =
    let parted = IsPartitionedBy-ltb (λ x. x) _ c.args.value c.requires in
    let point = IsPartitionPoint-from_clause (λ x. ltb x c.args.value) _ _ c.partition_point.ensures.partitioned parted (λ a r q k. search rules) in
    λ k h l. ltb-false _ _ (point.1 k 0 h l)
