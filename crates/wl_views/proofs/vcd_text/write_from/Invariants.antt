use Rattle.std.proofs.Common.{◌≡◌, ℕ, ◌+◌, ◌-◌, ◌<◌, ◌≤◌, ◌++◌, List}
use Rattle.std.specs.Prelude.{min}
use Rattle.std.specs.List.{flat_map, range_with_len}
use Rattle.arrayvec.specs.ArrayVec.{array_vec_len}
use Rattle.wl_device.specs.Devices.{Answer}
use Rattle.wl_device.specs.Limits.{most_calls}
use Rattle.wl_device.proofs.Runs.{SoFar}
use Rattle.wl_views.specs.Limits.{longest_piece}
use Rattle.wl_views.specs.Probe.{AllWatched, IsCalendarOf}
use Rattle.wl_views.specs.Signals.{signals}
use Rattle.wl_views.specs.Vcd.{tick_lines}
use Rattle.wl_views.proofs.vcd_text.write_from.Given as goal

-- what has gone out and what waits are the front and the lines of the ticks so far, up to the end of the span
abbrev pub invariant-loop-t : goal.invariant-loop-t
invariant-loop-t g l = (answers : List Answer) × (sent : List ℕ) × SoFar g.W.Sink.takes l.fn.writer sent l.calls l.writer answers
    × (sent ++ l.text.items ≡ l.front ++ flat_map (tick_lines l.tick (signals l.plan)) (range_with_len (l.span.from + 1) (min l.t l.span.to - (l.span.from + 1))))
    × AllWatched l.plan (l.t - 1) l.probes × (l.span.from < l.t) × (l.t - 1 ≤ l.plan.end - 1) × (array_vec_len l.text ≤ longest_piece) × (l.calls ≤ most_calls)
    × IsCalendarOf l.plan.end l.probes l.calendar

abbrev pub decreases-loop-t : goal.decreases-loop-t
decreases-loop-t g l = l.span.to - l.t
