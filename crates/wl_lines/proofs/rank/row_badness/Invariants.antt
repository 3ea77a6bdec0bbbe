use Rattle.std.proofs.Common.{◌≡◌, map, drop}
use Rattle.wl_lines.specs.Ranks.{row_badness, row_badness_from}
use Rattle.wl_lines.proofs.rank.row_badness.Given as goal

-- what was found, and then the fields that are left
abbrev pub invariant-loop-name : goal.invariant-loop-name
invariant-loop-name l =
    row_badness_from l.found l.worst (map (λ n. n.now) (drop l.name-index l.names)) l.line
    ≡ row_badness l.worst (map (λ n. n.now) l.names) l.line
