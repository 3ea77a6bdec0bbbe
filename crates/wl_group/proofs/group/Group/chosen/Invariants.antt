use Rattle.std.proofs.Common.{◌≡◌, ℕ, ◌&&◌, nat_lt, length}
use Rattle.wl_topology.specs.Limits.{most_places}
use Rattle.wl_group.specs.GroupValue.{belongs}
use Rattle.wl_group.specs.Chosen.{is_chosen}
use Rattle.wl_group.proofs.group.Group.chosen.Given as goal

abbrev pub invariant-loop-i : goal.invariant-loop-i
invariant-loop-i l = ((j : ℕ) → is_chosen l.chosen j ≡ (nat_lt j l.i && belongs l.self j)) × (length l.chosen ≡ most_places)
