use Rattle.std.proofs.Common.{◌≡◌}
use Rattle.std.specs.List.{filter, flat_map, range_with_len}
use Rattle.wl_views.specs.Picks.{is_picked}
use Rattle.wl_views.specs.TraceText.{told_at_end}
use Rattle.wl_views.proofs.told.all_told.Given as goal

-- those of the nodes so far
abbrev pub invariant-loop-i : goal.invariant-loop-i
invariant-loop-i l = l.told.items ≡ filter (is_picked l.pick) (flat_map (told_at_end l.plan) (range_with_len 0 l.i))
