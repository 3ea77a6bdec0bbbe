use Rattle.std.proofs.Common.{◌≡◌, ◌^◌, ◌-◌, min}
use Rattle.wl_respond.specs.Rows.{row_at}
use Rattle.wl_counts.specs.Counts.{sum_below}
use Rattle.wl_respond.specs.Inequalities.{window_share}
use Rattle.wl_respond.proofs.inequality.window_demand.Given as goal

abbrev pub invariant-loop-e : goal.invariant-loop-e
invariant-loop-e l = l.demand ≡ min (sum_below (λ e. window_share l.common.lead l.m.window l.m (row_at l.rows e)) l.e) (2 ^ 128 - 1)
