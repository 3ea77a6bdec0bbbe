use Rattle.std.proofs.Common.{◌≡◌, map, drop}
use Rattle.wl_formats.specs.Shapes.{part_of}
use Rattle.wl_formats.specs.Matching.{fits}
use Rattle.wl_formats.proofs.matching.fits.Given as goal

-- the pieces so far fit, so the line does if the others fit the rest
abbrev pub invariant-loop-piece : goal.invariant-loop-piece
invariant-loop-piece l = fits (map part_of (drop l.piece-index l.pieces)) l.rest ≡ fits (map part_of l.pieces) l.line
