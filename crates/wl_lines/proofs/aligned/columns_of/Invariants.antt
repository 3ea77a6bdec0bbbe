use Rattle.std.proofs.Common.{◌≡◌, ◌++◌, map, drop}
use Rattle.wl_lines.specs.Shapes.{part_of}
use Rattle.wl_lines.specs.Aligned.{shown_head, heads}
use Rattle.wl_lines.proofs.aligned.columns_of.Given as goal

-- the columns so far, and then those of the parts that are left
abbrev pub invariant-loop-piece : goal.invariant-loop-piece
invariant-loop-piece l =
    map shown_head l.columns.items ++ heads (map part_of (drop l.piece-index l.pieces)) (map (λ r. r.now) l.rows)
    ≡ heads (map part_of l.pieces) (map (λ r. r.now) l.rows)
