use Rattle.std.proofs.Common.{◌≡◌, drop, map}
use Rattle.wl_explain.specs.Remedies.{listed}
use Rattle.wl_explain.proofs.remedies.listed.Given as goal

-- the text is among the rows that are left
abbrev pub invariant-loop-row : goal.invariant-loop-row
invariant-loop-row l =
    listed (map (λ r. (r.0.now, r.1.now)) (drop l.row-index l.rows)) l.name l.other
    ≡ listed (map (λ r. (r.0.now, r.1.now)) l.rows) l.name l.other
