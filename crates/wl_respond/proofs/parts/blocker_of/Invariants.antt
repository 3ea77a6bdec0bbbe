use Rattle.std.proofs.Common.{◌≡◌}
use Rattle.wl_level.specs.Places.{first_place}
use Rattle.wl_respond.specs.Parts.{is_blocker}
use Rattle.wl_respond.proofs.parts.blocker_of.Given as goal

-- the first of those so far
abbrev pub invariant-loop-e : goal.invariant-loop-e
invariant-loop-e l = l.first ≡ first_place (is_blocker l.common.lead l.common.wake l.rows l.m) l.e
