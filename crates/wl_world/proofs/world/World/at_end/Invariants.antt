use Rattle.std.proofs.Common.{◌≡◌, ◌<◌, ℕ, true, Some, slice_get}
use Rattle.wl_group.specs.GroupValue.{GroupValue, has_ended, belongs as has}
use Rattle.wl_world.proofs.world.World.at_end.Given as goal

abbrev pub invariant-loop-group : goal.invariant-loop-group
invariant-loop-group l = (h i : ℕ) (g : GroupValue) → h < l.group-index → slice_get l.group-items h ≡ Some g → has g i ≡ true → has_ended g i ≡ true
