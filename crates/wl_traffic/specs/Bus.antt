-- How busy the bus was, as all nodes together find it: at a tick it is busy if some node finds it so. The load is the share of busy time: a frame
-- counts with its intermission (Davis, Burns, Bril and Lukkien 2007, section 3). That the nodes' states tell is this project's profile.
use Rattle.std.specs.Prelude.{ℕ, zero, suc, ◌+◌, ◌*◌, ◌/◌, ◌==◌, ◌&&◌, nat_le, nat_lt, min, max, Bool, true, false, length, if◌then◌else◌}
use Rattle.std.specs.List.{range_with_len, list_any}
use Rattle.wl_machine.specs.declared.doing.Doing.{Doing}
use Rattle.wl_machine.specs.declared.doing.Doing.TheVariants as doings
use Rattle.wl_plan.specs.declared.plan.Plan.{Plan}
use Rattle.wl_traffic.specs.declared.bus.Bus.{Bus}
use Rattle.wl_traffic.specs.declared.load.Load.{Load}
use Rattle.wl_traffic.specs.declared.spans.Span.{Span}
use Rattle.wl_traffic.specs.States.{node_spans}

-- a frame, a flag, a delimiter or an intermission is there (Bosch CAN 2.0 part B, section 3); a node that integrates or is bus off can't know
abbrev pub is_busy_doing : Doing → Bool
is_busy_doing doings.Receiving = true
is_busy_doing doings.Transmitting = true
is_busy_doing doings.ActiveFlag = true
is_busy_doing doings.PassiveFlag = true
is_busy_doing doings.OverloadFlag = true
is_busy_doing doings.Waiting = true
is_busy_doing doings.Delimiting = true
is_busy_doing doings.Intermission = true
is_busy_doing doing = false

abbrev pub is_off_doing : Doing → Bool
is_off_doing doings.OffBus = true
is_off_doing doing = false

-- what a node does at tick t makes the bus busy
abbrev pub is_busy_span : ℕ → Span → Bool
is_busy_span t s = is_busy_doing s.doing && (nat_le s.from t && nat_lt t s.until)

-- node i finds the bus busy at tick t
abbrev pub finds_busy : Plan → ℕ → ℕ → Bool
finds_busy plan t i = list_any (is_busy_span t) (node_spans plan i)

-- some node does
abbrev pub is_busy_at : Plan → ℕ → Bool
is_busy_at plan t = list_any (finds_busy plan t) (range_with_len 0 (length plan.nodes))

-- with one tick more, at which the bus is busy or not
abbrev pub load_after : Load → Bool → Load
load_after l true = record { busy = l.busy + 1; pause = 0; gap = l.gap; full = l.full + 1 }
load_after l false = record { busy = l.busy; pause = l.pause + 1; gap = max l.gap (l.pause + 1); full = 0 }

-- the load by the first n ticks
abbrev pub load_below : (ℕ → Bool) → ℕ → Load
load_below busy zero = record { busy = 0; pause = 0; gap = 0; full = 0 }
load_below busy (suc n) = load_after (load_below busy n) (busy n)

abbrev pub bus_load : Plan → Load
bus_load plan = load_below (is_busy_at plan) plan.end

-- node i was bus off at some time; some node was
abbrev pub was_off : Plan → ℕ → Bool
was_off plan i = list_any (λ s. is_off_doing s.doing) (node_spans plan i)

abbrev pub any_off : Plan → Bool
any_off plan = list_any (was_off plan) (range_with_len 0 (length plan.nodes))

-- both of a run
abbrev pub bus_found : Plan → Bus
bus_found plan = record { load = bus_load plan; off = any_off plan }

-- the share of a time in the whole, in hundredths of a per cent; a time is no longer than the whole
abbrev pub share_of : ℕ → ℕ → ℕ
share_of time whole = if whole == 0 then 0 else 10000 * min time whole / whole
