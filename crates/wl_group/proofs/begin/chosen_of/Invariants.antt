use Rattle.std.proofs.Common.{◌≡◌, ℕ, ◌&&◌, nat_lt, length}
use Rattle.wl_topology.specs.Limits.{most_places}
use Rattle.wl_group.specs.GroupValue.{names}
use Rattle.wl_group.specs.Chosen.{is_chosen}
use Rattle.wl_group.proofs.begin.chosen_of.Given as goal

abbrev pub invariant-loop-i : goal.invariant-loop-i
invariant-loop-i l = ((j : ℕ) → is_chosen l.chosen j ≡ (nat_lt j l.i && names l.members j)) × (length l.chosen ≡ most_places)
