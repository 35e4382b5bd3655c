use Rattle.std.proofs.Common.{arith, ltb, ltb-true, rules}
use Rattle.std.proofs.lemmas.Bool.{ltb-false}
use Rattle.std.proofs.lemmas.List.Sorted.{IsPartitionPoint-from_clause, IsPartitionedBy-ltb}
use Rattle.uncovered_table.proofs.next.first_from.Goals as goal

pub returns-clause-before : goal.returns-clause-before
returns-clause-before c =
    let parted = IsPartitionedBy-ltb (λ s. s) c.args.sets.now c.args.set c.requires in
    let point = IsPartitionPoint-from_clause (λ s. ltb s c.args.set) _ _ c.partition_point.ensures.partitioned parted (λ a r q k. search rules) in
    λ k less. ltb-true _ _ (point.0 k 0 (omega arith) less)

pub returns-clause-rest : goal.returns-clause-rest
returns-clause-rest c =
    let parted = IsPartitionedBy-ltb (λ s. s) c.args.sets.now c.args.set c.requires in
    let point = IsPartitionPoint-from_clause (λ s. ltb s c.args.set) _ _ c.partition_point.ensures.partitioned parted (λ a r q k. search rules) in
    λ k least within. ltb-false _ _ (point.1 k 0 least within)
