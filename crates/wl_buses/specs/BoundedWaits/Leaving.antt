-- Which frame leaves a queue, and since when it was ready, whatever the order of the queue is.
use Rattle.std.specs.Prelude.{◌≡◌, ℕ, List, [], ◌∷◌, Some, slice_get, if◌then◌else◌}
use Rattle.wl_frame.specs.Grammar.{Content}
use Rattle.wl_frame.specs.Same.{same_content}
use Rattle.wl_node.specs.declared.setup.NodeSetup.{NodeSetup}
use Rattle.wl_node.specs.declared.setup.Queued.{Queued}
use Rattle.wl_node.specs.declared.setup.QueueOrder.TheVariants.{Priority}
use Rattle.wl_buses.specs.OneFrame.Stations.{Stations}
use Rattle.wl_buses.specs.NextFrames.Frames.{Frame}
use Rattle.wl_buses.specs.SentFrames.Sending.{unsent_with}

-- The queue is by priority: of all frames that are ready the one that wins the arbitration goes first.
abbrev pub IsByPriority : NodeSetup → Type 0
IsByPriority setup = setup.order ≡ Priority

-- entry n of some frames
abbrev pub IsQueued : List Queued → ℕ → Queued → Type 0
IsQueued queue n entry = slice_get queue n ≡ Some entry

-- Of some frames, the quantum from which on the first with this content is ready. A queue of either order hands that one, and it leaves the queue as the content is sent.
abbrev pub entry_ready : Content → List Queued → ℕ
entry_ready frame [] = 0
entry_ready frame (q ∷ more) = if same_content q.frame frame then q.ready else entry_ready frame more

-- the quantum from which on frame n on a line is ready, of those that its winner hasn't sent before
abbrev pub ready_won : (s : Stations) (setups : ℕ → NodeSetup) (frames : ℕ → Frame) (winner : ℕ → ℕ) (content : ℕ → Content) (n : ℕ) → ℕ
ready_won s setups frames winner content n = entry_ready (content n) (unsent_with s setups frames winner content (winner n) n)
