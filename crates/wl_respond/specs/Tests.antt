-- The test of a table of messages on a bus.
use Rattle.std.specs.Prelude.{ℕ, ◌+◌, ◌-◌, ◌*◌, ◌&&◌, nat_lt, max, min, Bool, true, false, List, [], ◌∷◌, map, slice_index_or, if◌then◌else◌}
use Rattle.wl_bound.specs.BusTimes.{times_of}
use Rattle.wl_bound.specs.Families.{Bus}
use Rattle.wl_bound.specs.declared.times.BusTimes.{BusTimes}
use Rattle.wl_respond.specs.declared.message.MessageWait.{MessageWait}
use Rattle.wl_respond.specs.Inequalities.{are_enough}
use Rattle.wl_respond.specs.Rows.{MessageTerms, wait_limit}

abbrev pub no_message : MessageWait
no_message = record {
  node = 0;
  frame = record { extended = false; id = 0; remote = false; dlc = 0; bytes = [] };
  field = 0;
  level = 0;
  bits = 0;
  every = 0;
  window = 0;
  wait = 0;
  first = 0;
}

abbrev pub message_at : List MessageWait → ℕ → MessageWait
message_at messages e = slice_index_or messages e no_message

-- the shortest quantum of a node that is there
abbrev pub shortest_at : Bus → ℕ → ℕ
shortest_at b i = if nat_lt i b.nodes then b.shortest i else 0

abbrev pub period_of : Bus → MessageWait → ℕ
period_of b x = x.every * shortest_at b x.node

-- A frame of so many bits up to the end of its CRC sequence takes 13 more until the next frame may begin, and is sent ten later (`frame_time`, `tail_time` of wl_buses::frame_times).
abbrev pub cost_of : BusTimes → MessageWait → ℕ
cost_of t x = (x.bits + 13) * t.bit + t.shift

abbrev pub tail_of : BusTimes → MessageWait → ℕ
tail_of t x = (x.bits + 9) * t.bit + t.sample + t.shift

-- a message in numbers
abbrev pub row_for : Bus → BusTimes → MessageWait → MessageTerms
row_for b t x = record {
  node = x.node;
  field = x.field;
  level = x.level;
  cost = cost_of t x;
  tail = tail_of t x;
  period = max 1 (period_of b x);
  window = min x.window (wait_limit - 1);
  wait = min x.wait (wait_limit - 1);
  first = x.first;
}

-- its node is there, its period isn't 0, and no number is too great
abbrev pub is_fair : Bus → MessageWait → Bool
is_fair b x = (nat_lt x.node b.nodes && nat_lt 0 (period_of b x)) && (nat_lt x.window wait_limit && nat_lt x.wait wait_limit)

abbrev pub are_fair : Bus → List MessageWait → Bool
are_fair b [] = true
are_fair b (x ∷ later) = is_fair b x && are_fair b later

-- The windows and waits of the messages pass the inequalities on the bus, with windows of their instances.
abbrev pub pass_with : Bus → BusTimes → List MessageWait → List ℕ → Bool
pass_with b t messages windows =
    are_fair b messages && are_enough t.lead t.wake (map (row_for b t) messages) windows

abbrev pub pass : Bus → List MessageWait → List ℕ → Bool
pass b messages windows = pass_with b (times_of b) messages windows
