use Rattle.std.proofs.Common.{leb, leb-true, leb-false, arith, rules}
use Rattle.std.proofs.lemmas.List.Sorted.{IsPartitionPoint-from_clause, IsPartitionedBy-leb}
use Rattle.plcr_memory.proofs.search.starts_by.Goals as goal

pub returns-clause-before : goal.returns-clause-before
returns-clause-before c =
    let parted = IsPartitionedBy-leb (λ o. o.start) _ c.args.at c.requires in
    let point = IsPartitionPoint-from_clause (λ o. leb o.start c.args.at) _ _ c.partition_point.ensures.partitioned parted (λ a r q k. search rules) in
    λ k h. leb-true _ _ (point.0 k (record { start = 0; size = 0; index = 0 }) (omega arith) h)

pub returns-clause-past : goal.returns-clause-past
returns-clause-past c =
    let parted = IsPartitionedBy-leb (λ o. o.start) _ c.args.at c.requires in
    let point = IsPartitionPoint-from_clause (λ o. leb o.start c.args.at) _ _ c.partition_point.ensures.partitioned parted (λ a r q k. search rules) in
    λ k h l. leb-false _ _ (point.1 k (record { start = 0; size = 0; index = 0 }) h l)
