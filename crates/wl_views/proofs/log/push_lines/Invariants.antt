use Rattle.std.proofs.Common.{◌≡◌, ◌++◌, take}
use Rattle.std.specs.List.{filter, flat_map}
use Rattle.wl_views.specs.Candump.{log_line}
use Rattle.wl_views.specs.Windows.{is_within}
use Rattle.wl_views.proofs.log.push_lines.Given as goal

-- the lines so far are after the text
abbrev pub invariant-loop-at : goal.invariant-loop-at
invariant-loop-at l =
    l.text.items ≡ l.initial.text.items ++ flat_map (log_line l.tick l.from) (filter (λ s. is_within l.window s.0) (take l.at-index l.sent))
