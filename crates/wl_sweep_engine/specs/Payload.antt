-- Whether the frames of a plan test the clocks: receivers synchronise at the edges of a frame, which are at most ten bits apart
-- (Bosch CAN 2.0 part B, sections 6 and 10).
use Rattle.std.specs.Prelude.{◌≡◌, ℕ, zero, suc, ◌+◌, ◌&&◌, ◌||◌, Bool, true, false, not, List, length, All}
use Rattle.wl_level.specs.declared.Level.{Level}
use Rattle.wl_level.specs.Levels.{is_dominant}
use Rattle.wl_level.specs.Places.{at, before}
use Rattle.wl_frame.specs.Grammar.{Content, bits_of}
use Rattle.wl_frame.specs.Laws.{up_to_ack}
use Rattle.wl_frame.specs.Stuffing.{Stuffs}
use Rattle.wl_node.specs.declared.setup.Queued.{Queued}
use Rattle.wl_node.specs.declared.setup.NodeSetup.{NodeSetup}

-- an edge from recessive to dominant
abbrev pub is_edge : List Level → ℕ → Bool
is_edge y k = not (is_dominant (before y k)) && is_dominant (at y k)

-- one of so many bits from a place on begins with an edge
abbrev pub edge_within : List Level → ℕ → ℕ → Bool
edge_within y from zero = false
edge_within y from (suc n) = edge_within y from n || is_edge y (from + n)

-- an edge, and the next one is ten bits later
abbrev pub is_far : List Level → ℕ → Bool
is_far y k = is_edge y k && not (edge_within y (k + 1) 9) && is_edge y (k + 10)

abbrev pub far_below : List Level → ℕ → Bool
far_below y zero = false
far_below y (suc n) = far_below y n || is_far y n

abbrev pub has_far_edges : List Level → Bool
has_far_edges y = far_below y (length y)

-- two edges of a frame are ten bits apart, from the start of frame to its acknowledgement
abbrev pub TestsClocks : Content → Type 0
TestsClocks c = (y : List Level) × Stuffs y (bits_of c) × (has_far_edges (up_to_ack y) ≡ true)

-- no frame of a queue does, and none of any node
abbrev pub NoFrameTests : List Queued → Type 0
NoFrameTests queue = All (λ (q : Queued). ¬ TestsClocks q.frame) queue

abbrev pub NoneTests : List NodeSetup → Type 0
NoneTests nodes = All (λ (n : NodeSetup). NoFrameTests n.queue) nodes
