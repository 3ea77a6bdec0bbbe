-- A listener that goes from frame to frame.
use Rattle.std.specs.Prelude.{◌≡◌, ◌≢◌, ℕ, zero, suc, ◌+◌, ◌<◌, false, List, [], ◌∷◌, ◌++◌}
use Rattle.wl_level.specs.declared.Level.{Level}
use Rattle.wl_confine.specs.Counts.{no_counts}
use Rattle.wl_segments.specs.Lengths.{bit_quanta, sample_at}
use Rattle.wl_frame.specs.Grammar.{Content}
use Rattle.wl_node.specs.declared.setup.NodeSetup.{NodeSetup}
use Rattle.wl_node.specs.declared.setup.Passed.{Passed}
use Rattle.wl_node.specs.History.{History, counters_of, error_count}
use Rattle.wl_phase.specs.Clocks.{steady_tick}
use Rattle.wl_buses.specs.OneFrame.Expected.{expected_bits, expected_sample}
use Rattle.wl_buses.specs.OneFrame.Stations.{Stations, with_longer_ways}
use Rattle.wl_buses.specs.FirstFrame.Faults.{fault_count}
use Rattle.wl_buses.specs.FirstFrame.FirstStarts.{Waiting}
use Rattle.wl_buses.specs.NextFrames.Frames.{AreInOrder, Frame, third_sample}
use Rattle.wl_buses.specs.NextFrames.Runs.{GoesThroughInOrder}
use Rattle.wl_buses.specs.OneListener.Beside.{with_listener}
use Rattle.wl_buses.specs.OneListener.Ends.{CanBeHeard, HasRoomToRestBeside, IsUnheard, others_gathered}

-- Each frame n can be heard by the listener, with what jumps leave there (`more n`), and what the listener drives in it reaches no other station. After each there is room for it to rest, and the others rest before the next one.
pub record CanAllBeHeard (s : Stations) (frames : ℕ → Frame) (count : ℕ) (are : AreInOrder (with_listener s) frames count) (way : ℕ → ℕ → ℕ) (chase : ℕ → ℕ) (more : ℕ → ℕ → ℕ) : Type 0 where
  pub each : (n : ℕ) (less : n < count) → CanBeHeard s (are.each n less).won.station way chase (more n)
  pub unheard : (n : ℕ) → n < count → IsUnheard s (frames n).outset (frames n).bits
  pub rest : (n : ℕ) (less : n < count) → HasRoomToRestBeside s (with_longer_ways (others_gathered s (are.each n less).won.station way chase) (more n)).way
  pub others : (n i k : ℕ) → suc n < count → i < s.count → k < s.count → i ≢ k
      → steady_tick (s.clocks i) (third_sample (with_listener s) (frames n) i)
      < steady_tick (s.clocks k) ((expected_bits (with_listener s) (frames n).outset ((frames n).bits + 12)).place k + bit_quanta (s.lengths k)) + s.delay k i

-- what the listener receives with the first n frames: each by the last but one bit of its end of frame (Bosch CAN 2.0 part B, section 5)
abbrev pub received_with : (s : Stations) (frames : ℕ → Frame) (content : ℕ → Content) → ℕ → List Passed
received_with s frames content zero = []
received_with s frames content (suc n) =
    received_with s frames content n
    ++ record { sent = false; quantum = expected_sample (with_listener s) (frames n).outset ((frames n).bits + 8) s.count; frame = content n } ∷ []

-- It goes through each frame. By its third bit of the intermission of each it has received all frames so far, since it rested before the first one, and nothing else has passed it. It has found no
-- error in that time, and nothing else has happened to it that isn't fine.
pub record ReceivesAll (s : Stations) (frames : ℕ → Frame) (count : ℕ) (are : AreInOrder (with_listener s) frames count) (content : ℕ → Content) (setup : NodeSetup) (levels : ℕ → Level)
    (node : ℕ → History) (rest since : ℕ) : Type 0 where
  pub goes : (n : ℕ) (less : n < count) → GoesThroughInOrder (with_listener s) frames count are s.count since setup levels node n less
  pub received : (n : ℕ) → n < count → (node (suc (third_sample (with_listener s) (frames n) s.count))).frames
      ≡ (node (suc (rest + sample_at (s.lengths s.count)))).frames ++ received_with s frames content (suc n)
  pub errors : (n : ℕ) → n < count → error_count (node (suc (third_sample (with_listener s) (frames n) s.count))) ≡ error_count (node (suc (rest + sample_at (s.lengths s.count))))
  pub faults : (n : ℕ) → n < count → fault_count (node (suc (third_sample (with_listener s) (frames n) s.count))) ≡ fault_count (node (suc (rest + sample_at (s.lengths s.count))))

-- the stations and the listener, from their power-up on
abbrev pub waiting_with : Stations → Waiting → Waiting
waiting_with s w = record w { stations = with_listener s }

-- It goes through each frame. By its third bit of the intermission of each it has received all frames so far, and nothing else has passed it since its power-up. It has found no error, nothing else
-- has happened to it that isn't fine, and its counters are 0.
pub record ReceivesFromPowerUp (s : Stations) (frames : ℕ → Frame) (count : ℕ) (are : AreInOrder (with_listener s) frames count) (content : ℕ → Content) (setup : NodeSetup) (levels : ℕ → Level)
    (node : ℕ → History) : Type 0 where
  pub goes : (n : ℕ) (less : n < count) → GoesThroughInOrder (with_listener s) frames count are s.count 0 setup levels node n less
  pub received : (n : ℕ) → n < count → (node (suc (third_sample (with_listener s) (frames n) s.count))).frames ≡ received_with s frames content (suc n)
  pub errors : (n : ℕ) → n < count → error_count (node (suc (third_sample (with_listener s) (frames n) s.count))) ≡ 0
  pub faults : (n : ℕ) → n < count → fault_count (node (suc (third_sample (with_listener s) (frames n) s.count))) ≡ 0
  pub counters : (n : ℕ) → n < count → counters_of (node (suc (third_sample (with_listener s) (frames n) s.count))) ≡ no_counts
