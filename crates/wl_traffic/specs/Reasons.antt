-- Why a run didn't work (this project's profile).
use Rattle.std.specs.Prelude.{ℕ, nat_lt, max, ◌&&◌, ◌||◌, Bool, true, false, not, List, codes, length, fold, if◌then◌else◌}
use Rattle.std.specs.List.{list_any}
use Rattle.wl_plan.specs.declared.plan.Plan.{Plan}
use Rattle.wl_serial.specs.declared.outcome.NodeTotals.{NodeTotals}
use Rattle.wl_serial.specs.Outcome.{outcome_of, totals_of}
use Rattle.wl_traffic.specs.Entries.{node_queues}
use Rattle.wl_traffic.specs.Bus.{any_off, bus_load}
use Rattle.wl_traffic.specs.Late.{late_messages}
use Rattle.wl_traffic.specs.declared.late.LateMessage.{LateMessage}
use Rattle.wl_traffic.specs.declared.reason.Reason.{Reason}
use Rattle.wl_traffic.specs.declared.reason.Reason.TheVariants.{Works, Errors, Overloaded, Starved, EndsTooEarly, BusOff, Deaf, Missed, TakenTwice}
use Rattle.wl_traffic.specs.declared.unequal.Unequal.{Unequal}
use Rattle.wl_traffic.specs.Unequal.{is_missing, is_twice_taken, unequal_deliveries}

abbrev pub has_errors : NodeTotals → Bool
has_errors n = nat_lt 0 n.errors

abbrev pub has_unsent : NodeTotals → Bool
has_unsent n = nat_lt 0 n.unsent

-- a node takes part if it samples before the end
abbrev pub takes_part : NodeTotals → Bool
takes_part n = nat_lt 0 n.samples

-- the most frames that passed through a node
abbrev pub most_passed : List NodeTotals → ℕ
most_passed nodes = fold (λ most n. max most (length n.frames)) 0 nodes

-- it takes part, and fewer frames passed through it than through another
abbrev pub misses_frames : ℕ → NodeTotals → Bool
misses_frames most n = if takes_part n then nat_lt (length n.frames) most else false

-- at the end a late frame waits, and the bus had no pause for longer than the frame may wait
abbrev pub is_stuck : (full : ℕ) → LateMessage → Bool
is_stuck full m = m.left && nat_lt m.allowed full

-- no other node sent while a frame of it waited, or the bus has no pause any more
abbrev pub is_overload : (full : ℕ) → LateMessage → Bool
is_overload full m = not m.beaten || is_stuck full m

-- why frames came late or not at all, the first that applies
abbrev pub waiting_reason : (overload late unsent deaf : Bool) → Reason
waiting_reason true late unsent deaf = Overloaded
waiting_reason false true unsent deaf = Starved
waiting_reason false false true deaf = EndsTooEarly
waiting_reason false false false true = Deaf
waiting_reason false false false false = Works

-- a node was bus off, misses a frame, has taken one twice, there were errors, or that
abbrev pub first_reason : (off missed twice errors : Bool) → Reason → Reason
first_reason true missed twice errors waiting = BusOff
first_reason false true twice errors waiting = Missed
first_reason false false true errors waiting = TakenTwice
first_reason false false false true waiting = Errors
first_reason false false false false waiting = waiting

abbrev pub waiting_by : (full : ℕ) → List LateMessage → List NodeTotals → Reason
waiting_by full late nodes =
    waiting_reason (list_any (is_overload full) late) (nat_lt 0 (length late)) (list_any has_unsent nodes)
    (list_any (misses_frames (most_passed nodes)) nodes)

abbrev pub reason_by : (off : Bool) → List Unequal → (full : ℕ) → List LateMessage → List NodeTotals → Reason
reason_by off unequal full late nodes =
    first_reason off (list_any is_missing unequal) (list_any is_twice_taken unequal) (list_any has_errors nodes) (waiting_by full late nodes)

abbrev pub reason_of : Plan → Reason
reason_of plan =
    reason_by (any_off plan) (unequal_deliveries (node_queues plan)) (bus_load plan).full (late_messages (node_queues plan)) (totals_of (outcome_of plan))

abbrev pub reason_word : Reason → List ℕ
reason_word Works = codes "works"
reason_word Errors = codes "errors"
reason_word Overloaded = codes "overloaded"
reason_word Starved = codes "starved"
reason_word EndsTooEarly = codes "ends too early"
reason_word BusOff = codes "bus off"
reason_word Deaf = codes "deaf"
reason_word Missed = codes "missed"
reason_word TakenTwice = codes "taken twice"
