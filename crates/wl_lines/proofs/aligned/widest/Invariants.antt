use Rattle.std.proofs.Common.{◌≡◌, map, drop, length}
use Rattle.wl_lines.specs.Aligned.{widest}
use Rattle.wl_lines.proofs.aligned.widest.Given as goal

-- as wide as the rows so far, and then as those that are left
abbrev pub invariant-loop-row : goal.invariant-loop-row
invariant-loop-row l =
    widest l.name l.width (map (λ r. r.now) (drop l.row-index l.rows))
    ≡ widest l.name (length l.name) (map (λ r. r.now) l.rows)
