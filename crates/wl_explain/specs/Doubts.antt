-- What is doubtful of a plan that can be run: arithmetic on its settings (this project's profile).
use Rattle.std.specs.Prelude.{ℕ, zero, suc, ◌+◌, ◌-◌, ◌*◌, ◌/◌, ◌&&◌, nat_lt, not, min, max, Bool, if◌then◌else◌, length, Option}
use Rattle.std.specs.Int.{abs_diff}
use Rattle.std.specs.List.{position, sum_by}
use Rattle.wl_clock.specs.Timing.{tick_of}
use Rattle.wl_segments.specs.Lengths.{Lengths, bit_quanta, least_way}
use Rattle.wl_topology.specs.Delays.{propagation_of}
use Rattle.wl_frame.specs.Grammar.{Content}
use Rattle.wl_node.specs.declared.setup.NodeSetup.{NodeSetup}
use Rattle.wl_plan.specs.declared.plan.Plan.{Plan}
use Rattle.wl_plan.specs.PlanLine.{setup_at}
use Rattle.wl_bound.specs.Verdicts.{idle_at}
use Rattle.wl_explain.specs.Figures.{mean_quantum, longest_trip, tolerance}

-- the mean length of a node's bit up to the end of a plan, in millionths of a tick
abbrev pub bit_length : ℕ → NodeSetup → ℕ
bit_length end s = bit_quanta s.segments * (mean_quantum end s.clock).num

-- by how many millionths of the shorter of two bits the longer one is longer, rounded down
abbrev pub difference : ℕ → NodeSetup → NodeSetup → ℕ
difference end s u = 1000000 * abs_diff (bit_length end s) (bit_length end u) / min (bit_length end s) (bit_length end u)

-- by how many they may differ: each of the two by what the segments of both bear
abbrev pub borne : NodeSetup → NodeSetup → ℕ
borne s u = 2 * min (tolerance s.segments) (tolerance u.segments)

-- by how many parts per million clocks of one nominal bit rate can differ: each deviates by a tenth at most
abbrev pub greatest_difference : ℕ
greatest_difference = 222222

-- what the clocks of all others leave of what the clocks of node i and each of them may differ by
abbrev pub margin_below : Plan → ℕ → ℕ → ℕ
margin_below plan i zero = 2 * tolerance (setup_at plan i).segments
margin_below plan i (suc j) =
    min (margin_below plan i j) (borne (setup_at plan i) (setup_at plan j) - difference plan.end (setup_at plan i) (setup_at plan j))

abbrev pub left : Plan → ℕ → ℕ
left plan i = margin_below plan i (length plan.nodes)

-- from node i to node j and back, in ticks
abbrev pub round_trip : Plan → ℕ → ℕ → ℕ
round_trip plan i j = propagation_of plan.topology i j + propagation_of plan.topology j i

-- the longest that is back, with a quantum, at the earlier of the two samples
abbrev pub longest_round : ℕ → NodeSetup → NodeSetup → ℕ
longest_round end s u = min (longest_trip (mean_quantum end s.clock) s.segments) (longest_trip (mean_quantum end u.clock) u.segments)

-- the bits of a frame without stuff bits, and three of intermission (Bosch CAN 2.0 part B, section 3.1)
abbrev pub frame_bits : Content → ℕ
frame_bits c = (if c.extended then 67 else 47) + 8 * length c.bytes

-- those of all frames that wait at a node
abbrev pub queue_bits : NodeSetup → ℕ
queue_bits s = sum_by (λ w. frame_bits w.frame) s.queue

-- the tick at which each of the nodes below a number has counted the 11 bits that it waits for
abbrev pub idle_below : Plan → ℕ → ℕ
idle_below plan zero = 0
idle_below plan (suc j) = max (idle_below plan j) (idle_at (setup_at plan j))

abbrev pub idle_from : Plan → ℕ
idle_from plan = idle_below plan (length plan.nodes)

-- quantum k of a node begins before a tick
abbrev pub begins_before : NodeSetup → ℕ → ℕ → Bool
begins_before s k t = nat_lt (tick_of s.clock k) t

-- the number of the first frame of a node that becomes ready before a tick, and of the first that does so there or later
abbrev pub first_early : ℕ → NodeSetup → Option ℕ
first_early t s = position (λ w. begins_before s w.ready t) s.queue

abbrev pub first_late : ℕ → NodeSetup → Option ℕ
first_late t s = position (λ w. not (begins_before s w.ready t)) s.queue

-- The least bits that a node takes until the last frame of its queue is out: the 11 that it waits for, and the frames, with intermission between two
-- and none after the last.
abbrev pub wanted_bits : NodeSetup → ℕ
wanted_bits s = 11 + queue_bits s - 3

-- The quanta of so many bits at least: from one sample to the next there are the start of a bit and the least way after it, however early edges come
-- (Bosch CAN 2.0 part B, section 10).
abbrev pub least_quanta : Lengths → ℕ → ℕ
least_quanta l bits = bits * (1 + least_way l)

-- some frames wait at a node, and the last of these quanta begins at the end or later
abbrev pub has_no_room : ℕ → NodeSetup → Bool
has_no_room end s = nat_lt 0 (length s.queue) && not (begins_before s (least_quanta s.segments (wanted_bits s) - 1) end)
