use Rattle.std.proofs.Common.{◌≡◌, ◌++◌, map, drop, [], None}
use Rattle.std.specs.Prelude.{option_map}
use Rattle.wl_formats.specs.Shapes.{form_of, layout_of}
use Rattle.wl_formats.specs.Aligned.{blocks}
use Rattle.wl_formats.proofs.aligned.push_blocks.Given as goal

-- the blocks so far, and then what the rows of this form and the lines that are left give
abbrev pub invariant-loop-line : goal.invariant-loop-line
invariant-loop-line l =
    l.text.items ++ blocks l.look.paint l.look.worst (map (λ n. n.now) l.look.names.now) (layout_of l.table).forms (option_map (λ s. form_of s.now) l.shape)
    (map (λ r. r.now) l.rows.items) (map (λ r. r.now) (drop l.line-index l.lines))
    ≡ l.fn.text.items ++ blocks l.look.paint l.look.worst (map (λ n. n.now) l.look.names.now) (layout_of l.table).forms None [] (map (λ r. r.now) l.lines)
