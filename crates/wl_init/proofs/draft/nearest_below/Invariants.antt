use Rattle.std.proofs.Common.{◌≡◌}
use Rattle.wl_init.specs.Drafts.{has_setting, last_below}
use Rattle.wl_init.proofs.draft.nearest_below.Given as goal

-- the last one so far was found
abbrev pub invariant-loop-lower : goal.invariant-loop-lower
invariant-loop-lower l = l.found ≡ last_below (has_setting l.controller) l.lower
