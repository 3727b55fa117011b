use Rattle.std.proofs.Common.{rules, arith}
use Rattle.std.proofs.lemmas.List.Sorted.{IsPartitionPoint-from_clause}
use Rattle.mem_region.proofs.Searched.{is_below, partitioned, none_below, none_at}
use Rattle.mem_region.proofs.table.index_of.Goals as goal

pub returns-then-index-table : goal.returns-then-index-table
returns-then-index-table c =
    let table = c.args.table.now in
    let index = c.partition_point-index in
    let point = IsPartitionPoint-from_clause (is_below c.args.number) _ _ index.ensures.partitioned (partitioned table c.args.number c.requires) (λ a r q k. search rules) in
    none_below table c.args.number index.result point (omega arith)

pub returns-then-table-index : goal.returns-then-table-index
returns-then-table-index c =
    let table = c.args.table.now in
    let index = c.partition_point-index in
    let point = IsPartitionPoint-from_clause (is_below c.args.number) _ _ index.ensures.partitioned (partitioned table c.args.number c.requires) (λ a r q k. search rules) in
    none_at table c.args.number index.result _ c.requires point (omega arith) c.if-table-index.true
