-- `first_from` meets its contract. The indices are parted by the key of x.
-- Assumes nothing.
use Rattle.std.proofs.Common.{rules, tests}
use Rattle.std.proofs.lemmas.List.Sorted.{IsPartitionPoint-from_clause}
use Rattle.cell_lookup.proofs.Fronts.{stands_before, keys_part, first_place}
use Rattle.cell_lookup.proofs.first_from.Goals as goal

pub returns : goal.returns
returns c =
    let x = c.args.x in
    first_place c.requires x c.partition_point.ensures.bound
    (IsPartitionPoint-from_clause (stands_before c.args.part.now x) _ _ c.partition_point.ensures.partitioned (keys_part c.requires x) (λ b r f k. search (rules, tests)))
