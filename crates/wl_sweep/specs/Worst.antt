-- Frames that test the clocks (this project's profile; that no frame tests them harder: Bosch CAN 2.0 part B, sections 6 and 10).
use Rattle.std.specs.Prelude.{ℕ, zero, suc, ◌+◌, ◌*◌, ◌==◌, ◌&&◌, max, Bool, true, false, not, List, [], ◌∷◌, ◌++◌, fold, replicate, None, if◌then◌else◌}
use Rattle.std.specs.List.{list_any}
use Rattle.wl_setup.specs.declared.plan_text.PlanText.{PlanText}
use Rattle.wl_setup.specs.declared.plan_text.NodeText.{NodeText}
use Rattle.wl_setup.specs.declared.plan_text.FrameText.{FrameText}
use Rattle.wl_sweep.specs.declared.worst.TheConstants.{BYTES, FRAME_BITS, IDS, WORST_BYTE}
use Rattle.wl_sweep.specs.Family.{bit_in, capped}

-- a data frame whose data, with stuff bits, are five dominant and five recessive bits in turn
abbrev pub worst_frame : ℕ → ℕ → FrameText
worst_frame id ready = record {
  id = id;
  dlc = BYTES;
  remote = false;
  bytes = replicate BYTES WORST_BYTE;
  ready = ready;
  extended = false;
  every = None;
  count = None;
  deadline = None;
  jitter = None;
}

-- a base identifier is one of a frame of a node, or of several nodes
abbrev pub has_id : ℕ → NodeText → Bool
has_id id node = list_any (λ (f : FrameText). not f.extended && (f.id == id)) node.frame

abbrev pub some_have_id : ℕ → List NodeText → Bool
some_have_id id nodes = list_any (has_id id) nodes

-- the greatest one below another that no frame has
abbrev pub free_id : List NodeText → ℕ → ℕ
free_id nodes zero = 0
free_id nodes (suc id) = if some_have_id id nodes then free_id nodes id else id

-- from which quantum on the last frame may be sent
abbrev pub last_ready : List FrameText → ℕ
last_ready frames = fold (λ last (f : FrameText). f.ready) 0 frames

-- a node has a frame to send
abbrev pub sends_any : List FrameText → Bool
sends_any [] = false
sends_any (f ∷ fs) = true

abbrev pub sends : NodeText → Bool
sends node = sends_any node.frame

abbrev pub with_frame : ℕ → NodeText → NodeText
with_frame id node = record node { frame = node.frame ++ worst_frame id (last_ready node.frame) ∷ [] }

-- the identifier of a node's new frame
abbrev pub next_id : List NodeText → ℕ → NodeText → ℕ
next_id nodes below node = if sends node then free_id nodes below else below

abbrev pub next_frame : ℕ → NodeText → NodeText
next_frame id node = if sends node then with_frame id node else node

-- each node that sends has a frame more, with an identifier below those of the nodes before it
abbrev pub add_frames : List NodeText → ℕ → List NodeText → List NodeText
add_frames nodes below [] = []
add_frames nodes below (n ∷ ns) = next_frame (next_id nodes below n) n ∷ add_frames nodes (next_id nodes below n) ns

-- how many nodes send, and the longest bit
abbrev pub sender_count : List NodeText → ℕ
sender_count nodes = fold (λ count node. if sends node then capped (count + 1) else count) 0 nodes

abbrev pub longest_bit : List NodeText → ℕ
longest_bit nodes = fold (λ most node. max most (bit_in node)) 0 nodes

-- the plan ends later by the time that the new frames take at most
abbrev pub later_end : PlanText → ℕ
later_end plan = capped (plan.end + capped (capped (longest_bit plan.node * FRAME_BITS) * sender_count plan.node))

abbrev pub worst_text : PlanText → PlanText
worst_text plan = record plan { end = later_end plan; node = add_frames plan.node IDS plan.node }
