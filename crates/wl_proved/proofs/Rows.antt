-- Worked rows: the nodes of examples/cyclic_500k.toml with their first frames pass all tests; and lists of frames on a bus.
use Rattle.std.proofs.Common.{◌≡◌, ◌*◌, ℕ, List, true, false, [], ◌∷◌, map, None, refl}
use Rattle.wl_confine.specs.Counts.{mode_of, no_counts}
use Rattle.wl_confine.specs.declared.Mode.TheVariants.{Active}
use Rattle.wl_clock.specs.declared.Rate.{Rate}
use Rattle.wl_clock.specs.Timing.{tick_of}
use Rattle.wl_segments.specs.declared.SyncRules.TheVariants.{Book}
use Rattle.wl_segments.specs.Lengths.{Lengths}
use Rattle.wl_topology.specs.declared.Place.{Place}
use Rattle.wl_frame.specs.Grammar.{Content}
use Rattle.wl_node.specs.declared.setup.NodeSetup.{NodeSetup}
use Rattle.wl_node.specs.declared.setup.QueueOrder.TheVariants.{Fifo}
use Rattle.wl_plan.specs.declared.plan.Plan.{Plan}
use Rattle.wl_bound.specs.Conditions.{first_failure_of, left_of, plain, right_of}
use Rattle.wl_bound.specs.Covered.{is_covered}
use Rattle.wl_bound.specs.Families.{Buses, delay_in, family_of, lengths_in, longest_in, sends_in, shortest_in, turns_in}
use Rattle.wl_bound.specs.Oscillators.{Pace}
use Rattle.wl_bound.specs.Terms.{ahead, answered, apart, behind, chase, drift, early, edges, jump, late, look, lost, pull, pulled, several, spread, strays, tour, trip, way}
use Rattle.wl_bound.specs.Verdicts.{outside_of}
use Rattle.wl_bound.specs.declared.condition.Senders.TheVariants.{Any, One}
use Rattle.wl_bound.specs.Rooms.{beyond_jump, distance, edges_to, gain, gathering, leaves_room, least_chase, left_over}
use Rattle.wl_margin.specs.Paces.{keep_pace}
use Rattle.wl_proved.specs.CleanRuns.{as_passing, frames_from, passing_of}
use Rattle.wl_proved.specs.Listened.{hear_all, is_covered_beside}

abbrev pub frame : ℕ → Content
frame id = record { extended = false; id = id; remote = false; dlc = 0; bytes = [] }

-- a quantum of 125 ticks, with some millionths of it
abbrev pub rate : ℕ → Rate
rate millionths = record { from = 0; num = 125 * millionths; den = 1000000 }

abbrev pub lengths : Lengths
lengths = record { prop = 6; ps1 = 6; ps2 = 3; sjw = 3; sync = Book }

abbrev pub node : (offset millionths id : ℕ) → NodeSetup
node offset millionths id = record {
  clock = record { offset = offset; rates = rate millionths ∷ [] };
  segments = lengths;
  queue = record { frame = frame id; ready = 500 } ∷ [];
  order = Fifo;
  until = None;
}

abbrev pub place : ℕ → Place
place x = record { x = x; out_delay = 120; in_delay = 130; listens = false }

abbrev pub plan_with : (millionths : ℕ) → Plan
plan_with millionths = record {
  nodes = node 300 millionths 240 ∷ node 900 999920 272 ∷ node 0 1000000 944 ∷ [];
  topology = record { places = place 0 ∷ place 25 ∷ place 40 ∷ []; per = 5 };
  disturbances = [];
  end = 5500000;
}

-- the gateway's clock is 60 ppm slow, and oscillators deviate by 100 ppm
abbrev pub cyclic : Plan
cyclic = plan_with 1000060

abbrev pub pace : Pace
pace = record { fastest = rate 1000000; slowest = rate 1000000; tolerance = 100; turns = 0 }

abbrev pub family : Buses
family = family_of cyclic (pace ∷ pace ∷ pace ∷ [])

pub in_pace : keep_pace cyclic family ≡ true
unfolding longest_in shortest_in
in_pace = refl

-- a clock that is 101 ppm slow leaves its tolerance
out_of_pace : keep_pace (plan_with 1000101) family ≡ false
unfolding longest_in shortest_in
out_of_pace = refl

pub is_law_plan : is_covered cyclic ≡ true
unfolding tick_of
is_law_plan = refl

pub has_no_cause : outside_of cyclic ≡ None
unfolding tick_of
has_no_cause = refl

pub sound_for_any : first_failure_of family plain Any ≡ None
unfolding ahead answered apart behind chase delay_in drift early edges first_failure_of jump late left_of lengths_in longest_in look lost pull pulled right_of sends_in several shortest_in spread strays tour trip turns_in way
sound_for_any = refl

sound_for_one : first_failure_of family plain One ≡ None
unfolding ahead answered apart behind chase delay_in drift early edges first_failure_of jump late left_of lengths_in longest_in look lost pull pulled right_of sends_in several shortest_in spread strays tour trip turns_in way
sound_for_one = refl

pub has_room : leaves_room family ≡ true
unfolding beyond_jump delay_in distance drift edges_to gain gathering jump least_chase left_over lengths_in longest_in look sends_in shortest_in turns_in
has_room = refl

-- the same with a third node that only listens, at a place on the cable, if all oscillators deviate by some ppm
abbrev logged : (x : ℕ) → Plan
logged x = record {
  nodes = node 300 1000060 240 ∷ node 900 999920 272 ∷ record (node 0 1000000 944) { queue = [] } ∷ [];
  topology = record { places = place 0 ∷ place 25 ∷ record (place x) { listens = true } ∷ []; per = 5 };
  disturbances = [];
  end = 5500000;
}

abbrev pace_by : (ppm : ℕ) → Pace
pace_by ppm = record { fastest = rate 1000000; slowest = rate 1000000; tolerance = ppm; turns = 0 }

abbrev logging : (x ppm : ℕ) → Buses
logging x ppm = family_of (logged x) (pace_by ppm ∷ pace_by ppm ∷ pace_by ppm ∷ [])

is_law_plan_beside : is_covered_beside (logged 40) ≡ true
unfolding tick_of
is_law_plan_beside = refl

has_no_cause_beside : outside_of (logged 40) ≡ None
unfolding tick_of
has_no_cause_beside = refl

sound_beside : first_failure_of (logging 40 100) plain Any ≡ None
unfolding ahead answered apart behind chase delay_in drift early edges first_failure_of jump late left_of lengths_in longest_in look lost pull pulled right_of sends_in several shortest_in spread strays tour trip turns_in way
sound_beside = refl

hears : hear_all (logging 40 100) ≡ true
unfolding beyond_jump delay_in distance drift edges_to gain gathering jump least_chase left_over lengths_in longest_in look sends_in shortest_in turns_in
hears = refl

-- with 2,000 ppm the room of any senders ends at 79 units of length, and that to hear at 78
room_beyond : leaves_room (logging 79 2000) ≡ true
unfolding beyond_jump delay_in distance drift edges_to gain gathering jump least_chase left_over lengths_in longest_in look sends_in shortest_in turns_in
room_beyond = refl

deaf_beyond : hear_all (logging 79 2000) ≡ false
unfolding beyond_jump delay_in distance drift edges_to gain gathering jump least_chase left_over lengths_in longest_in look sends_in shortest_in turns_in
deaf_beyond = refl

-- node 2 sends the first and the last of three frames, and node 0 the one between them
abbrev bus : List (ℕ × Content)
bus = (2, frame 944) ∷ (0, frame 240) ∷ (2, frame 945) ∷ []

from_two : frames_from 2 bus ≡ frame 944 ∷ frame 945 ∷ []
from_two = refl

from_one : frames_from 1 bus ≡ []
from_one = refl

at_zero : map (passing_of 0) bus ≡ (false, frame 944) ∷ (true, frame 240) ∷ (false, frame 945) ∷ []
at_zero = refl

-- what a report has of the second frame, at its sender
sent_one : as_passing (record { sent = true; quantum = 777; frame = frame 240 }) ≡ passing_of 0 (0, frame 240)
sent_one = refl

-- a node without errors is error active (Bosch CAN 2.0 part B, section 8)
active : mode_of no_counts ≡ Active
active = refl
