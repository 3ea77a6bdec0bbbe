-- The frame of each winner is the one that its queue hands it, in its order, and who waits no longer has sent in time.
use Rattle.std.proofs.Common.{◌≡◌, ◌∙◌, sym, ap, subst, ℕ, ◌*◌, ◌<◌, List, Some, arith}
use Rattle.std.specs.Prelude.{slice_get}
use Rattle.std.proofs.Math.Nat.{lt_of_mul-lt-mul_left, lt_of_mul-lt-mul_right}
use Rattle.wl_node.specs.declared.setup.NodeSetup.{NodeSetup}
use Rattle.wl_segments.specs.Lengths.{bit_quanta}
use Rattle.wl_plan.specs.Line.{Line}
use Rattle.wl_node.specs.declared.setup.Passed.{Passed}
use Rattle.wl_node.specs.Queues.{head_by}
use Rattle.wl_buses.specs.BothProofs.Queues.{IsFifo, first_ready, queued_contents, ready_at, unsent_after}
use Rattle.wl_buses.specs.OneFrame.Stations.{AreStations, HaveRoom, Stations}
use Rattle.wl_buses.specs.FirstFrame.FirstStarts.{AreIdle, HandTheFirst}
use Rattle.wl_buses.proofs.BothProofs.Heads.{fifo_next, fifo_unsent}
use Rattle.wl_buses.proofs.FirstFrame.Deciding as waiting
use Rattle.wl_buses.proofs.FirstFrame.Deciding.{whole_begins}
use Rattle.wl_buses.specs.SentFrames.Winners.{passed_with, won_by}
use Rattle.wl_buses.proofs.SentFrames.Counting.{sent_by}
use Rattle.wl_buses.proofs.CleanLines.Through.{handed_as}
use Rattle.wl_buses.specs.CleanLines.Lines.{FramesOfLine, HaveSegments, LineGetsThrough, decision_of, waiting_with}
use Rattle.wl_buses.specs.FrameTimes.Times.{Times}
use Rattle.wl_buses.proofs.SentFrames.Nexting.{FirstHanded, NextQueued}
use Rattle.wl_buses.specs.BoundedWaits.LineBounds.{LinePassesInTime, LineWaitsNoLonger, line_ready, line_sent}
use Rattle.wl_buses.specs.BoundedWaits.Messages.{Messages}
use Rattle.wl_buses.proofs.BoundedWaits.Leaving.{fifo_ready}
use Rattle.wl_buses.proofs.BoundedWaits.OnBus.{Handed}

-- what the queues hand first
pub hands_with : (setups : ℕ → NodeSetup) (s : Stations) → HaveSegments setups s → AreStations s → HandTheFirst (waiting_with setups s) setups
hands_with setups s of are =
    waiting.hands setups (λ i. queued_contents (setups i).queue) s of
    (λ i inside. (let low = (are.line.book i inside).lengths.low in let e = ap bit_quanta (of i inside) in omega arith)) (λ i. whole_begins (setups i))

pub are_handed : FirstHanded → NextQueued → (setups : ℕ → NodeSetup) (s : Stations) (bus : FramesOfLine setups (waiting_with setups s)) → AreStations s → HaveRoom s → AreIdle (waiting_with setups s)
    → HaveSegments setups s → Handed setups s bus
are_handed first next setups s bus are room idle of n less = handed_as first next setups (waiting_with setups s) are room idle (hands_with setups s of are) bus n less

-- The frame of a winner whose queue is first in, first out, is the next one of it, and ready with it.
pub record Ordered (setups : ℕ → NodeSetup) (s : Stations) (bus : FramesOfLine setups (waiting_with setups s)) : Type 0 where
  pub content : (n : ℕ) → n < bus.count → IsFifo (setups (bus.by.winner n)) → slice_get (queued_contents (setups (bus.by.winner n)).queue) (won_by bus.by.winner (bus.by.winner n) n) ≡ Some (bus.by.content n)
  pub ready : (n : ℕ) → n < bus.count → IsFifo (setups (bus.by.winner n)) → line_ready setups s bus n ≡ ready_at (setups (bus.by.winner n)).queue (won_by bus.by.winner (bus.by.winner n) n)

pub in_turn : (setups : ℕ → NodeSetup) (s : Stations) (bus : FramesOfLine setups (waiting_with setups s)) → Handed setups s bus → Ordered setups s bus
in_turn setups s bus handed = record {
  content = λ n less fifo.
      ap (slice_get (queued_contents (setups (bus.by.winner n)).queue)) (sym (sent_by s bus.frames bus.by.winner bus.by.content (bus.by.winner n) n))
      ∙ fifo_next (setups (bus.by.winner n)) (passed n) (decision_of setups (waiting_with setups s) bus n less) (bus.by.content n) fifo (handed n less);
  ready = λ n less fifo.
      fifo_ready (unsent_after (setups (bus.by.winner n)) (passed n)) (decision_of setups (waiting_with setups s) bus n less) (bus.by.content n)
      (sym (ap (λ o. head_by o (unsent_after (setups (bus.by.winner n)) (passed n)) (decision_of setups (waiting_with setups s) bus n less)) fifo) ∙ handed n less)
      ∙ ap first_ready (fifo_unsent (setups (bus.by.winner n)) (passed n) fifo)
      ∙ ap (ready_at (setups (bus.by.winner n)).queue) (sent_by s bus.frames bus.by.winner bus.by.content (bus.by.winner n) n);
}
  where
    passed : ℕ → List Passed
    passed n = passed_with s bus.frames bus.by.winner bus.by.content (bus.by.winner n) n

pub line_passes : (l : Line) (setups : ℕ → NodeSetup) (s : Stations) (all : LineGetsThrough l setups (waiting_with setups s)) (t : Times) (ms : Messages) (r : ℕ → ℕ)
    → LineWaitsNoLonger setups s all.bus t ms r → LinePassesInTime l setups s all t ms r
line_passes l setups s all t ms r waits n k less inside late =
    let h = waits n less in
    let wins : all.bus.by.winner n < s.count = subst (λ i. i < s.count) (all.bus.by.wins n less) (all.bus.are.each n less).won.inside in
    let m : t.unit * (line_sent setups s all.bus n * (s.clocks (all.bus.by.winner n)).num) < t.unit * (k * (s.clocks (all.bus.by.winner n)).num) = omega arith in
    let q = lt_of_mul-lt-mul_left t.unit {m = line_sent setups s all.bus n * (s.clocks (all.bus.by.winner n)).num} {n = k * (s.clocks (all.bus.by.winner n)).num} m in
    all.in_time (all.bus.by.winner n) k n wins inside less (lt_of_mul-lt-mul_right (s.clocks (all.bus.by.winner n)).num q)
