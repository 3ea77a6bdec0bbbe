use Rattle.std.proofs.Common.{◌≡◌, map, drop}
use Rattle.wl_formats.specs.Shapes.{form_of}
use Rattle.wl_formats.specs.Matching.{form_for}
use Rattle.wl_formats.proofs.matching.shape_for.Given as goal

-- the first shape that fits is among those that are left
abbrev pub invariant-loop-shape : goal.invariant-loop-shape
invariant-loop-shape l = form_for (map form_of (drop l.shape-index l.shapes)) l.line ≡ form_for (map form_of l.shapes) l.line
