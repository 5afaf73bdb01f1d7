use Rattle.std.proofs.Common.{rules}
use Rattle.std.proofs.lemmas.List.Sorted.{IsPartitionPoint-from_clause}
use Rattle.std.specs.Ordering.{is_lt}
use Rattle.ct_source.proofs.Sorted.{to_value, below_parted}
use Rattle.ct_source.proofs.index.count_below.Goals as goal

pub returns-clause-parted : goal.returns-clause-parted
returns-clause-parted c =
    let at = c.args.at in let value = c.args.value.now in let rows = c.args.rows.now in
    IsPartitionPoint-from_clause (λ row. is_lt (to_value at value row)) rows c.partition_point.result c.partition_point.ensures.partitioned (below_parted at value rows c.requires) (λ a r f k. search rules)
