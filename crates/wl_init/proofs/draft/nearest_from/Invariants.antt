use Rattle.std.proofs.Common.{◌≡◌}
use Rattle.wl_init.specs.Drafts.{first_passing, has_setting}
use Rattle.wl_init.proofs.draft.nearest_from.Given as goal

-- the first one so far was found
abbrev pub invariant-loop-more : goal.invariant-loop-more
invariant-loop-more l = l.found ≡ first_passing (has_setting l.controller) l.first l.more
