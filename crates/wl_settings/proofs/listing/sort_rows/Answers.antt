use Rattle.std.proofs.lemmas.List.Sorted.{IsNonDecreasingBy-from_sort, IsPermutation-trans, ties_still_rise}
use Rattle.wl_settings.specs.Rankings.{row_distance, row_rank}
use Rattle.wl_settings.proofs.listing.sort_rows.Goals as goal

pub returns-clause-rows : goal.returns-clause-rows
returns-clause-rows c =
    IsPermutation-trans c.args.rows.now.items c.sort_by_rank.new.rows.items c.sort_by_distance.new.rows.items c.in_ok-sort_by_rank.ensures.rows
    c.in_ok-sort_by_distance.ensures.rows

pub returns-clause-order : goal.returns-clause-order
returns-clause-order c = record {
  near = IsNonDecreasingBy-from_sort (row_distance c.args.wish) c.sort_by_distance.new.rows.items c.in_ok-sort_by_distance.ensures.order;
  rank = ties_still_rise row_rank (row_distance c.args.wish) c.sort_by_rank.new.rows.items c.sort_by_distance.new.rows.items
      c.in_ok-sort_by_rank.ensures.order c.in_ok-sort_by_distance.ensures.stable;
}
