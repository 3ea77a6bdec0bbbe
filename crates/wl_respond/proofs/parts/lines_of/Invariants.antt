use Rattle.std.proofs.Common.{◌≡◌, take, map}
use Rattle.wl_bound.specs.Rooms.{plain_bus}
use Rattle.wl_respond.specs.Parts.{told_line}
use Rattle.wl_respond.proofs.parts.lines_of.Given as goal

abbrev pub invariant-loop-one : goal.invariant-loop-one
invariant-loop-one l = l.lines ≡ map (told_line l.case.tick (plain_bus l.case.family.now) l.case.times l.case.rows.now l.case.windows.now l.case.shown) (take l.one-index l.asked)
