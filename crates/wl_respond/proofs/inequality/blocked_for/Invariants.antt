use Rattle.std.proofs.Common.{◌≡◌, ◌<◌, not}
use Rattle.std.specs.Prelude.{nat_le}
use Rattle.wl_respond.specs.Rows.{cost_limit, row_at}
use Rattle.wl_bound.specs.Terms.{greatest}
use Rattle.wl_respond.proofs.inequality.blocked_for.Given as goal

abbrev pub invariant-loop-e : goal.invariant-loop-e
invariant-loop-e l = (l.longest ≡ greatest l.e (λ e. not (nat_le (row_at l.rows e).field l.m.level)) (λ e. (row_at l.rows e).cost)) × (l.longest < cost_limit)
