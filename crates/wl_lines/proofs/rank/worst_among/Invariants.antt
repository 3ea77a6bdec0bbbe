use Rattle.std.proofs.Common.{◌≡◌, map, drop}
use Rattle.wl_lines.specs.Ranks.{worst_among, worst_from}
use Rattle.wl_lines.proofs.rank.worst_among.Given as goal

-- what was found, and then the rows that are left
abbrev pub invariant-loop-row : goal.invariant-loop-row
invariant-loop-row l =
    worst_from l.found l.worst (map (λ n. n.now) l.names) (map (λ r. r.now) (drop l.row-index l.rows))
    ≡ worst_among l.worst (map (λ n. n.now) l.names) (map (λ r. r.now) l.rows)
