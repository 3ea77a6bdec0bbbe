use Rattle.std.proofs.Common.{◌≡◌, ◌++◌, take}
use Rattle.std.specs.List.{flat_map}
use Rattle.wl_views.specs.ErrorFrames.{logged_line}
use Rattle.wl_views.proofs.error_frames.push_events.Given as goal

-- the lines so far are after the text
abbrev pub invariant-loop-at : goal.invariant-loop-at
invariant-loop-at l = l.text.items ≡ l.initial.text.items ++ flat_map (logged_line l.tick l.from) (take l.at-index l.told)
