use Rattle.std.proofs.Common.{ℕ, sym, arith}
use Rattle.wl_counts.specs.Instances.{AreEnoughByInstances}
use Rattle.wl_node.specs.declared.setup.NodeSetup.{NodeSetup}
use Rattle.wl_buses.specs.OneFrame.Stations.{AreStations, HaveRoom, Stations}
use Rattle.wl_buses.specs.FirstFrame.FirstStarts.{AreIdle}
use Rattle.wl_buses.specs.NextFrames.Frames.{HasRoomForAll}
use Rattle.wl_buses.specs.CleanLines.Lines.{FramesOfLine, HaveSegments, waiting_with}
use Rattle.wl_buses.specs.FrameTimes.Times.{TakeNoLonger, Times}
use Rattle.wl_buses.specs.TakesPart.Decisions.{AllMayDecide}
use Rattle.wl_buses.specs.BoundedWaits.LineBounds.{LineWaitsNoLonger}
use Rattle.wl_buses.specs.BoundedWaits.Messages.{AreReadyLate, DelayNoLonger, Delays, HaveMessages, Messages, terms_of}
use Rattle.wl_buses.specs.BoundedWaits.QueuedFrames.{BlockNoLonger, table_by}
use Rattle.wl_buses.proofs.BoundedWaits.Ordering.{are_handed, hands_with, line_passes}
use Rattle.wl_buses.proofs.BoundedWaits.Waits.{wait_no_longer}
use Rattle.wl_buses.proofs.bounded_waits.lines.waits_on_a_line_are_bounded.Goals as goal

bounded : goal.After-all_frames_of_a_line_get_through → (setups : ℕ → NodeSetup) (s : Stations) (bus : FramesOfLine setups (waiting_with setups s)) (t : Times) (ms : Messages) (d : Delays)
    (chase blocking whole r : ℕ → ℕ) (w : ℕ → ℕ → ℕ) → HaveSegments setups s → AreStations s → HaveRoom s → HasRoomForAll s chase → AllMayDecide s chase → AreIdle (waiting_with setups s) → TakeNoLonger s t
    → HaveMessages s setups ms → AreReadyLate s setups → DelayNoLonger s t ms d → BlockNoLonger (terms_of t ms d) blocking → AreEnoughByInstances (table_by (terms_of t ms d) blocking r) d.period whole w r
    → LineWaitsNoLonger setups s bus t ms r
bounded c setups s bus t ms d chase blocking whole r w of are room for_all decide idle take have late delays blocks enough =
    wait_no_longer setups s bus t ms d of are room idle late have delays
    (hands_with setups s of are) (are_handed c.the_winner_sends_its_next_frame.ensures.first c.the_winner_sends_its_next_frame.ensures.queued setups s bus are room idle of)
    (record { first = c.who_loses_has_begun_with_its_next_frame.ensures.first; next = c.who_loses_has_begun_with_its_next_frame.ensures.next })
    (λ s a b are room was next. c.stations_rest_after_a_frame.ensures.rest s a.outset a.bits was.chase next.which next.decides are room was.outset was.ends was.won was.answer was.room next.more)
    c.who_is_ready_takes_part.ensures.ready c.who_is_ready_takes_part.ensures.next c.who_is_ready_takes_part.ensures.first chase for_all decide c.nobody_decides_twice.ensures
    (record { own = c.a_frame_begins_before_later_ones.ensures.own; other = c.a_frame_begins_before_later_ones.ensures.other })
    (λ f b i inside. c.a_frame_lasts_no_longer.ensures.next s f t are room b take i inside) (λ f b i inside. c.a_frame_lasts_no_longer.ensures.passes s f t are room b take i inside)
    c.periods_give_a_curve.ensures c.no_frame_waits_longer_by_instances.ensures blocking whole r w blocks enough

pub returns-clause-frames : goal.returns-clause-frames
returns-clause-frames c = bounded c

pub returns-clause-line : goal.returns-clause-line
returns-clause-line c = λ l setups s t ms d chase blocking whole r w up are room for_all decide take have late delays blocks enough.
    (let all = c.all_frames_of_a_line_get_through.ensures l setups (waiting_with setups s) chase up are room for_all in
    let of : HaveSegments setups s = λ i inside. sym (up.line.segments i (let e = up.line.nodes in omega arith)) in
    let waits = bounded c setups s all.bus t ms d chase blocking whole r w of are room for_all decide up.idle take have late delays blocks enough in
    (all, waits, line_passes l setups s all t ms r waits))
