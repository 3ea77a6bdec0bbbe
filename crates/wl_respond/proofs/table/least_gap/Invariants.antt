use Rattle.std.proofs.Common.{◌≡◌}
use Rattle.wl_respond.specs.Tables.{last_ready, least_gap}
use Rattle.wl_respond.proofs.table.least_gap.Given as goal

-- of the entries so far
abbrev pub invariant-loop-n : goal.invariant-loop-n
invariant-loop-n l = (l.last ≡ last_ready l.queue l.field l.n) × (l.least ≡ least_gap l.queue l.field l.n)
