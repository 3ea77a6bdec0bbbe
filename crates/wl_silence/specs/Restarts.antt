-- A node from one of its quanta on, beside one that powers up then with the frames that it hasn't sent.
use Rattle.std.specs.Prelude.{◌≡◌, ◌⊎◌, ℕ, ◌+◌, ◌-◌, ◌≤◌, false, List, ◌++◌, length, map, fold}
use Rattle.wl_level.specs.declared.Level.{Level}
use Rattle.wl_level.specs.Levels.{is_dominant}
use Rattle.wl_confine.specs.declared.Mode.TheVariants.{Active}
use Rattle.wl_confine.specs.Counts.{Counts, mode_of, no_counts}
use Rattle.wl_sync.specs.Running.{clock_after}
use Rattle.wl_machine.specs.Stretch.{Stretch}
use Rattle.wl_machine.specs.Stretch.Sort.{Idle}
use Rattle.wl_machine.specs.Judged.{stretch_of}
use Rattle.wl_node.specs.declared.setup.NodeSetup.{NodeSetup}
use Rattle.wl_node.specs.declared.setup.Passed.{Passed}
use Rattle.wl_node.specs.declared.setup.Queued.{Queued}
use Rattle.wl_node.specs.History.{History, counters_of, error_count, history_after, staying_history, unsent_of}
use Rattle.wl_phase.specs.Clocks.{clock_from}
use Rattle.wl_plan.specs.Line.{Line}
use Rattle.wl_buses.specs.OneFrame.Stations.{Stations}

-- A frame that is ready, and one that has passed, by quanta that count from quantum p on, and from quantum 0.
abbrev pub ready_since : (p : ℕ) → Queued → Queued
ready_since p q = record { frame = q.frame; ready = q.ready - p }

abbrev pub passed_since : (p : ℕ) → Passed → Passed
passed_since p f = record { sent = f.sent; quantum = p + f.quantum; frame = f.frame }

-- a node that powers up at quantum p of another one, with the frames that this one hasn't sent
abbrev pub setup_since : NodeSetup → (p : ℕ) → (before : History) → NodeSetup
setup_since setup p before = record setup { queue = map (ready_since p) (unsent_of setup before) }

-- Two machines go on alike: in one stretch, or the bus is idle to both.
abbrev pub GoAlike : Stretch → Stretch → Type 0
GoAlike x y = (x ≡ y) ⊎ ((x.sort ≡ Idle) × (y.sort ≡ Idle))

-- a node has found no error, and its counters are 0
pub record IsUnharmed (h : History) : Type 0 where
  pub counters : counters_of h ≡ no_counts
  pub errors : error_count h ≡ 0

-- The counters of a node don't rise, and it is error active (Bosch CAN 2.0 part B, section 8).
pub record DoNotRise (before now : Counts) : Type 0 where
  pub tec : now.tec ≤ before.tec
  pub rec : now.rec ≤ before.rec
  pub active : mode_of now ≡ Active

-- A node was there before its quantum p, and is here now. A node that powered up at quantum p is where this puts it: both drive the same, and their bit clocks and machines go on alike. What has
-- passed the one since is what has passed the other one. The node has found no error since, and its counters haven't risen.
pub record GoesOnAs (setup : NodeSetup) (p : ℕ) (before fresh now : History) : Type 0 where
  pub quanta : length now.seen ≡ p + length fresh.seen
  pub clock : clock_after setup.segments now.seen ≡ clock_after setup.segments fresh.seen
  pub machine : GoAlike (stretch_of now.inputs) (stretch_of fresh.inputs)
  pub drive : now.drive ≡ fresh.drive
  pub frames : now.frames ≡ before.frames ++ map (passed_since p) fresh.frames
  pub errors : error_count now ≡ error_count before
  pub counters : DoNotRise (counters_of before) (counters_of now)

-- a node after more levels
abbrev pub history_on : NodeSetup → History → List Level → History
history_on setup h levels = fold (history_after setup) h levels

-- The line of nodes that power up so, each at its quantum `at i`. Nothing disturbs it.
abbrev pub line_since : Line → (setups : ℕ → NodeSetup) → (at : ℕ → ℕ) → Line
line_since l setups at = record {
  nodes = l.nodes;
  instant = λ i k. l.instant i (at i + k);
  drives = λ i levels. is_dominant (staying_history (setups i) levels).drive;
  quiet = λ i levels. 0;
  delay = l.delay;
  disturbed = λ i t. false;
  stop = l.stop;
}

-- and as stations
abbrev pub stations_since : Stations → (at : ℕ → ℕ) → Stations
stations_since s at = record s { clocks = λ i. clock_from (s.clocks i) (at i) }
