use Rattle.std.proofs.Common.{◌≡◌, ◌++◌, take}
use Rattle.std.specs.List.{filter}
use Rattle.wl_views.specs.Picks.{is_picked}
use Rattle.wl_views.specs.TraceText.{told_by}
use Rattle.wl_views.proofs.told.push_told.Given as goal

-- those of the events so far that are picked stand after the others
abbrev pub invariant-loop-noted : goal.invariant-loop-noted
invariant-loop-noted l = l.told.items ≡ l.initial.told.items ++ filter (is_picked l.pick) (told_by l.clock l.i (take l.noted-index l.events))
