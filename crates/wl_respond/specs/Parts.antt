-- How long a message waits, and for what: the parts of its bound, in thousandths of a microsecond (this project's profile; the parts are those of Davis, Burns, Bril, Lukkien 2007, section 3.1).
use Rattle.std.specs.Prelude.{ℕ, ◌+◌, ◌-◌, ◌*◌, ◌/◌, ◌^◌, ◌==◌, ◌&&◌, nat_le, not, max, min, Bool, true, false, List, [], ◌∷◌, map, length, if◌then◌else◌, Option, Some, None, unwrap_or}
use Rattle.std.specs.Int.{div_ceil}
use Rattle.wl_level.specs.Places.{first_place}
use Rattle.wl_counts.specs.Counts.{sum_below}
use Rattle.wl_bound.specs.BusTimes.{times_of}
use Rattle.wl_bound.specs.Families.{Bus}
use Rattle.wl_bound.specs.declared.times.BusTimes.{BusTimes}
use Rattle.wl_respond.specs.declared.asked.Asked.{Asked}
use Rattle.wl_respond.specs.declared.message.MessageWait.{MessageWait}
use Rattle.wl_respond.specs.declared.parts.Line.{Line}
use Rattle.wl_respond.specs.declared.parts.Met.{Met}
use Rattle.wl_respond.specs.declared.parts.Met.TheVariants.{InTime, Late, Open}
use Rattle.wl_respond.specs.declared.parts.Parts.{Parts}
use Rattle.wl_respond.specs.Asks.{once, same_truth}
use Rattle.wl_respond.specs.Inequalities.{blocked_for, head_start, instances, is_whole_enough, window_at, window_share}
use Rattle.wl_respond.specs.Rows.{MessageTerms, row_at, wait_limit}
use Rattle.wl_respond.specs.Tests.{row_for, shortest_at}

-- A time in thousandths of a microsecond, if a tick takes so many picoseconds: rounded down and up. No time is said to be longer than 2^90 millionths of a tick.
abbrev pub nanoseconds_within : (tick time : ℕ) → ℕ
nanoseconds_within tick time = min time wait_limit * tick / 1000000000

abbrev pub nanoseconds_around : (tick time : ℕ) → ℕ
nanoseconds_around tick time = div_ceil (min time wait_limit * tick) 1000000000

-- a sum as far as 128 bits count
abbrev pub counted_time : ℕ → ℕ
counted_time n = min n (2 ^ 128 - 1)

module _ (lead wake : ℕ) (rows : List MessageTerms) where
  -- How long frames of message e take in a window of m with a length of w, up to instance j of m; those of its own node, but for that instance; and those of other nodes.
  abbrev pub is_itself : (m e : MessageTerms) → Bool
  is_itself m e = (e.node == m.node) && (e.field == m.field)

  abbrev pub share_before : (m : MessageTerms) → (j w e : ℕ) → ℕ
  share_before m j w e = if is_itself m (row_at rows e) then j * m.cost else window_share lead w m (row_at rows e)

  abbrev pub share_of_node : Bool → (m : MessageTerms) → (j w e : ℕ) → ℕ
  share_of_node own m j w e = if same_truth ((row_at rows e).node == m.node) own then share_before m j w e else 0

  abbrev pub shares_of_node : Bool → (m : MessageTerms) → (j w : ℕ) → ℕ
  shares_of_node own m j w = counted_time (sum_below (share_of_node own m j w) (length rows))

  -- the message whose frame may block it so long, if it is a message
  abbrev pub is_blocker : MessageTerms → ℕ → Bool
  is_blocker m e = not (nat_le (row_at rows e).field m.level) && ((row_at rows e).cost == blocked_for lead wake rows m)

  abbrev pub blocker_of : MessageTerms → Option ℕ
  blocker_of m = first_place (is_blocker m) (length rows)

  -- All parts. Each is rounded down, but the first of them has what is left of the bound, so that they add up to that: the time in which the node may have decided not to take part yet.
  abbrev pub parts_with : (bound blocked queued others frame quanta : ℕ) → Option ℕ → Parts
  parts_with bound blocked queued others frame quanta by = record {
    bound = bound;
    quanta = quanta;
    start = bound - (blocked + queued + others + frame);
    blocked = blocked;
    queued = queued;
    others = others;
    frame = frame;
    by = by;
  }

  -- An instance that is ready late doesn't wait for what the window has before that: the frame that blocks goes first, then those of its own node, then the others.
  abbrev pub parts_late : (tick shortest : ℕ) → MessageTerms → (late blocked own others : ℕ) → Parts
  parts_late tick shortest m late blocked own others =
      parts_with (nanoseconds_around tick m.wait) (nanoseconds_within tick (blocked - late)) (nanoseconds_within tick (own - (late - blocked)))
      (nanoseconds_within tick (others - (late - blocked - own))) (nanoseconds_within tick m.tail) (m.wait / max 1 shortest) (blocker_of m)

  abbrev pub parts_at : (tick shortest : ℕ) → MessageTerms → (j w : ℕ) → Parts
  parts_at tick shortest m j w =
      parts_late tick shortest m (counted_time (j * m.period)) (blocked_for lead wake rows m) (shares_of_node true m j w) (shares_of_node false m j w)

  -- By the window that has all its frames, each is ready as early as the first.
  abbrev pub parts_whole : (tick shortest : ℕ) → MessageTerms → Parts
  parts_whole tick shortest m =
      parts_late tick shortest m 0 (blocked_for lead wake rows m) (shares_of_node true m (instances lead m - 1) m.window)
      (shares_of_node false m (instances lead m - 1) m.window)

  module _ (windows : List ℕ) where
    -- the instance that waits longest: the first whose wait is that of the bound
    abbrev pub reaches : MessageTerms → ℕ → Bool
    reaches m j = nat_le (m.wait + j * m.period) (head_start lead m m + window_at windows m j + m.tail)

    abbrev pub worst_of : MessageTerms → ℕ
    worst_of m = unwrap_or (first_place (reaches m) (min (instances lead m) (length windows))) 0

    abbrev pub parts_of : (tick shortest : ℕ) → MessageTerms → Parts
    parts_of tick shortest m =
        if is_whole_enough lead m then parts_whole tick shortest m else parts_at tick shortest m (worst_of m) (window_at windows m (worst_of m))

-- Within which time a frame of a message has to be sent, in millionths of a tick: the one that is said, else its period by the fastest clock.
abbrev pub deadline_or : Option ℕ → Option ℕ → Option ℕ
deadline_or (Some ticks) period = Some (ticks * 1000000)
deadline_or None period = period

abbrev pub deadline_of : Bus → Asked → Option ℕ
deadline_of b a = deadline_or a.deadline (if a.every == once then None else Some (a.every * shortest_at b a.message.node))

-- It counts from when the frame should be ready (Davis, Burns, Bril, Lukkien 2007, section 2: the jitter is a part of the response time).
abbrev pub met_by : (wait jitter : ℕ) → Option ℕ → Met
met_by wait jitter None = Open
met_by wait jitter (Some deadline) = if nat_le (wait + jitter * 1000000) deadline then InTime else Late

abbrev pub within_of : ℕ → Option ℕ → Option ℕ
within_of tick None = None
within_of tick (Some time) = Some (nanoseconds_within tick time)

-- what is said of a message among all in numbers, with its bound or without
abbrev pub told_line : (tick : ℕ) → Bus → BusTimes → List MessageTerms → List ℕ → Bool → Asked → Line
told_line tick b t rows windows shown a = record {
  jitter = nanoseconds_around tick (a.jitter * 1000000);
  deadline = within_of tick (deadline_of b a);
  met = if shown then met_by (row_for b t a.message).wait a.jitter (deadline_of b a) else Open;
  parts = if shown then Some (parts_of t.lead t.wake rows windows tick (shortest_at b a.message.node) (row_for b t a.message)) else None;
}

-- The share of the time that frames of a message take in the long run, in hundred-millionths: by the longest bits, and by its node's fastest clock.
abbrev pub load_of : Bus → BusTimes → MessageWait → ℕ
load_of b t x = div_ceil (min ((x.bits + 13) * t.bit) wait_limit * 100000000) (max 1 (x.every * shortest_at b x.node))

abbrev pub total_load : Bus → BusTimes → List MessageWait → ℕ
total_load b t [] = 0
total_load b t (x ∷ later) = counted_time (load_of b t x + total_load b t later)

-- in hundredths of a per cent, rounded up
abbrev pub load_at_most : Bus → List MessageWait → ℕ
load_at_most b messages = div_ceil (total_load b (times_of b) messages) 10000
