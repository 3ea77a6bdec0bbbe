use Rattle.std.proofs.Common.{◌≡◌}
use Rattle.wl_level.specs.Places.{first_place}
use Rattle.wl_respond.specs.Parts.{reaches}
use Rattle.wl_respond.proofs.parts.worst_of.Given as goal

-- the first of those so far
abbrev pub invariant-loop-j : goal.invariant-loop-j
invariant-loop-j l = l.first ≡ first_place (reaches l.case.common.lead l.case.common.wake l.case.rows.now l.case.windows.now l.m) l.j
