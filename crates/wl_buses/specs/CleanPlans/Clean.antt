-- A plan on whose bus all frames get through.
use Rattle.std.specs.Prelude.{◌≡◌, ◌⊎◌, ℕ, ◌<◌, ◌≤◌, List, length, filter, map, Some, slice_get}
use Rattle.wl_confine.specs.Counts.{no_counts}
use Rattle.wl_frame.specs.Grammar.{Content}
use Rattle.wl_node.specs.declared.setup.Passed.{Passed}
use Rattle.wl_node.specs.History.{History, counters_of, error_count, history_of, is_sent, unsent_of}
use Rattle.wl_plan.specs.declared.plan.Plan.{Plan}
use Rattle.wl_plan.specs.PlanLine.{line_of, setup_at}
use Rattle.wl_plan.specs.Simulation.{AreInside, seen}
use Rattle.wl_buses.specs.BothProofs.Queues.{ComeFrom, IsFifo, head_at, queued_contents}
use Rattle.wl_buses.specs.OneFrame.Expected.{expected_sample}
use Rattle.wl_buses.specs.OneFrame.Stations.{Stations}
use Rattle.wl_buses.specs.FrameEnd.Rests.{passing_bit}
use Rattle.wl_buses.specs.NextFrames.Lines.{IsBeforeLast, LineGoes}
use Rattle.wl_buses.specs.FirstFrame.FirstFrames.{queues_of}
use Rattle.wl_buses.specs.SentFrames.Sending.{unsent_with}
use Rattle.wl_buses.specs.SentFrames.Winners.{passed_with, won_by}
use Rattle.wl_buses.specs.CleanPlans.PlanFrames.{EmptyAllQueues, FramesOfPlan, plan_decision_of}

-- a node of a plan after its first k quanta
abbrev pub plan_history : Plan → (i k : ℕ) → History
plan_history plan i k = history_of (setup_at plan i) (seen (line_of plan) i k)

-- the frames that a node has sent, of those that have passed it
abbrev pub sent_contents : List Passed → List Content
sent_contents frames = map (λ p. p.frame) (filter is_sent frames)

-- The frames on the bus are one list, as computed (`FramesOfPlan`). At each quantum of each node up to the end of the plan this holds:
pub record AllGetThrough (plan : Plan) (s : Stations) : Type 0 where
  pub bus : FramesOfPlan plan s
  -- there was no error and nothing that counts,
  pub fine : (i k : ℕ) → i < s.count → AreInside (line_of plan) i k → error_count (plan_history plan i k) ≡ 0
  pub counters : (i k : ℕ) → i < s.count → AreInside (line_of plan) i k → counters_of (plan_history plan i k) ≡ no_counts
  -- what has passed the node are the first so many of these frames, each sent by the node that has won it and received by each other one,
  pub passed : (i k : ℕ) → i < s.count → AreInside (line_of plan) i k
      → (n : ℕ) × (n ≤ bus.count) × ((plan_history plan i k).frames ≡ passed_with s bus.frames bus.by.winner bus.by.content i n)
  -- each frame has passed it after its sample of the bit that is computed,
  pub in_time : (i k n : ℕ) → i < s.count → AreInside (line_of plan) i k → n < bus.count
      → expected_sample s (bus.frames n).outset (passing_bit (bus.frames n).bits i (bus.by.winner n)) i < k → n < length (plan_history plan i k).frames
  -- and what it has sent and what its queue still has are the frames of its queue.
  pub sent : (i k : ℕ) → i < s.count → AreInside (line_of plan) i k
      → ComeFrom (setup_at plan i) (sent_contents (plan_history plan i k).frames) (queued_contents (unsent_of (setup_at plan i) (plan_history plan i k)))
  -- The frame with which a node wins is the one that its queue handed it as it decided. If the queue is first in, first out, it is the next in its order.
  pub handed : (n : ℕ) (less : n < bus.count)
      → head_at (setup_at plan (bus.by.winner n)) (unsent_with s (setup_at plan) bus.frames bus.by.winner bus.by.content (bus.by.winner n) n) (plan_decision_of plan s bus n less) ≡ Some (bus.by.content n)
  pub order : (n : ℕ) → n < bus.count → IsFifo (setup_at plan (bus.by.winner n)) → slice_get (queues_of plan (bus.by.winner n)) (won_by bus.by.winner (bus.by.winner n) n) ≡ Some (bus.by.content n)
  -- All nodes drive and sample what is computed, up to the end of the plan. The list ends after that, or as all queues are empty.
  pub goes : LineGoes (line_of plan) (setup_at plan) s bus.frames bus.count bus.are (line_of plan).stop
  pub ends : IsBeforeLast (line_of plan) s bus.frames bus.count (line_of plan).stop ⊎ EmptyAllQueues plan s bus
