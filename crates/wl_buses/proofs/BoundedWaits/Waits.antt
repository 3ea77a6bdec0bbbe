-- No frame on a line waits longer than the bound of its message.
use Rattle.std.proofs.Common.{◌≡◌, ap, ℕ, ◌+◌, ◌*◌, ◌<◌, ◌≤◌, arith}
use Rattle.std.proofs.Math.Nat.{le_of_mul-le-mul_left}
use Rattle.wl_counts.specs.Instances.{AreEnoughByInstances}
use Rattle.wl_counts.specs.Waits.{AreSporadic, Frames, HaveWindows, Table}
use Rattle.wl_node.specs.declared.setup.NodeSetup.{NodeSetup}
use Rattle.wl_buses.specs.FrameTimes.Times.{Times}
use Rattle.wl_buses.specs.OneFrame.Stations.{AreStations, HaveRoom, Stations}
use Rattle.wl_buses.specs.FirstFrame.FirstStarts.{AreIdle, HandTheFirst}
use Rattle.wl_buses.specs.NextFrames.Frames.{HasRoomForAll}
use Rattle.wl_buses.specs.CleanLines.Lines.{FramesOfLine, HaveSegments, waiting_with}
use Rattle.wl_buses.specs.TakesPart.Decisions.{AllMayDecide}
use Rattle.wl_buses.specs.BoundedWaits.LineBounds.{LineWaitsNoLonger, line_ready, line_sent}
use Rattle.wl_buses.specs.BoundedWaits.Lasting.{LastNoLonger, PassNoLonger}
use Rattle.wl_buses.specs.BoundedWaits.Messages.{AreReadyLate, DelayNoLonger, Delays, HaveMessages, Messages, terms_of}
use Rattle.wl_buses.proofs.BoundedWaits.Parts.{parts_of, product_but}
use Rattle.wl_buses.specs.BoundedWaits.QueuedFrames.{BlockNoLonger, frames_in, table_by}
use Rattle.wl_buses.proofs.BoundedWaits.Measure.{some_parts, whole}
use Rattle.wl_buses.proofs.BoundedWaits.Offered.{BeganLaws, FirstParts, Parts, Readies}
use Rattle.wl_buses.proofs.BoundedWaits.OnBus.{ForwardLaws, Handed, Once, Rests, but_some, frames_on, lead_some, queued_on, wins}
use Rattle.wl_buses.proofs.BoundedWaits.Scaling.{blocks_in_parts, enough_in_parts, in_parts, scaled}
use Rattle.wl_buses.proofs.BoundedWaits.Windows.{Curve, have_windows}

abbrev pub NoLonger : Type 0
NoLonger = (t : Table) (x : Frames) (period whole : ℕ → ℕ) (w : ℕ → ℕ → ℕ) (r : ℕ → ℕ) (count : ℕ) → AreEnoughByInstances t period whole w r → HaveWindows t x r count
    → AreSporadic period x.message x.ready count → (k : ℕ) → k < count → x.sent k ≤ x.ready k + r (x.message k)

-- from the parts of all clocks to those of one
own_parts : (u b offset num den q p x d : ℕ) → 0 < b → den * b ≡ d → u * (b * (offset + q * num)) ≤ u * (b * (offset + p * num)) + x * d → u * (q * num) ≤ u * (p * num) + x * den
own_parts u b offset num den q p x d some e h =
    let f : x * (den * b) ≡ x * d = ap (λ y. x * y) e in
    let all : b * (u * (q * num)) ≤ b * (u * (p * num) + x * den) = omega arith in
    le_of_mul-le-mul_left all some

module _ (setups : ℕ → NodeSetup) (s : Stations) (bus : FramesOfLine setups (waiting_with setups s)) (t : Times) (ms : Messages) (d : Delays) (of : HaveSegments setups s) (are : AreStations s) (room : HaveRoom s)
    (idle_at : AreIdle (waiting_with setups s)) (late_enough : AreReadyLate s setups) (have : HaveMessages s setups ms) (delays : DelayNoLonger s t ms d)
    (hands : HandTheFirst (waiting_with setups s) setups) (handed : Handed setups s bus) (began : BeganLaws) (rests : Rests) (readies : Readies) (parts : Parts) (first : FirstParts)
    (chase : ℕ → ℕ) (for_all : HasRoomForAll s chase) (decide : AllMayDecide s chase) (once : Once) (forward : ForwardLaws) (lasts : LastNoLonger s t) (passing : PassNoLonger s t)
    (curve : Curve) (no_longer : NoLonger) (blocking widest r : ℕ → ℕ) (w : ℕ → ℕ → ℕ) (blocks : BlockNoLonger (terms_of t ms d) blocking)
    (enough : AreEnoughByInstances (table_by (terms_of t ms d) blocking r) d.period widest w r) where
  abbrev D : ℕ
  D = parts_of s

  pub wait_no_longer : LineWaitsNoLonger setups s bus t ms r
  wait_no_longer n less =
      let i = bus.by.winner n in
      let inside = wins setups s bus t ms d of are room idle_at late_enough have delays hands handed began rests readies parts first chase for_all decide once forward lasts passing n less in
      let some = some_parts s are t in
      let is = queued_on setups s bus t ms d of are room idle_at late_enough have delays hands handed began rests readies parts first chase for_all decide once forward lasts passing in
      let lead = lead_some setups s bus t ms d of are room idle_at late_enough have delays hands handed began rests readies parts first chase for_all decide once forward lasts passing (omega arith) in
      let windows =
      have_windows curve (frames_on setups s bus t ms) (scaled D (terms_of t ms d)) (in_parts (terms_of t ms d) blocking r D some delays.positive blocking)
      (in_parts (terms_of t ms d) blocking r D some delays.positive r) is lead (blocks_in_parts (terms_of t ms d) blocking r D some delays.positive blocks) in
      let h =
      no_longer
      (table_by (scaled D (terms_of t ms d)) (in_parts (terms_of t ms d) blocking r D some delays.positive blocking) (in_parts (terms_of t ms d) blocking r D some delays.positive r))
      (frames_in (frames_on setups s bus t ms)) (scaled D (terms_of t ms d)).period (in_parts (terms_of t ms d) blocking r D some delays.positive widest) (λ m j. w m j * D)
      (in_parts (terms_of t ms d) blocking r D some delays.positive r) bus.count (enough_in_parts (terms_of t ms d) blocking r D some delays.positive widest w enough) windows is.sporadic n less in
      own_parts t.unit (product_but (λ k. (s.clocks k).den) (bus.by.winner n) s.count) ((s.clocks (bus.by.winner n)).den * (s.clocks (bus.by.winner n)).offset + (s.clocks (bus.by.winner n)).part) (s.clocks (bus.by.winner n)).num
      (s.clocks (bus.by.winner n)).den (line_sent setups s bus n) (line_ready setups s bus n) (r (ms.of (bus.by.winner n) (bus.by.content n))) D
      (but_some setups s bus t ms d of are room idle_at late_enough have delays hands handed began rests readies parts first chase for_all decide once forward lasts passing (bus.by.winner n) inside)
      (whole s are t (bus.by.winner n) inside) h
