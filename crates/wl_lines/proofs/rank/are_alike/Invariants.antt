use Rattle.std.proofs.Common.{◌≡◌, map, drop}
use Rattle.wl_lines.specs.Ranks.{are_alike}
use Rattle.wl_lines.proofs.rank.are_alike.Given as goal

-- the rows so far are alike, so all are if the others are
abbrev pub invariant-loop-row : goal.invariant-loop-row
invariant-loop-row l =
    are_alike l.worst (map (λ n. n.now) l.names) l.bad (map (λ r. r.now) (drop l.row-index l.rows))
    ≡ are_alike l.worst (map (λ n. n.now) l.names) l.bad (map (λ r. r.now) l.rows)
