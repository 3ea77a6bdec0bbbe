-- A line on which no frame follows.
use Rattle.std.specs.Prelude.{◌≡◌, ℕ, suc, ◌<◌, []}
use Rattle.wl_level.specs.declared.Level.TheVariants.{Recessive}
use Rattle.wl_node.specs.declared.setup.NodeSetup.{NodeSetup}
use Rattle.wl_node.specs.History.{History, error_count, unsent_of}
use Rattle.wl_plan.specs.Line.{Line}
use Rattle.wl_buses.specs.OneFrame.Lines.{node_after}
use Rattle.wl_buses.specs.OneFrame.Stations.{Stations}
use Rattle.wl_buses.specs.FirstFrame.Faults.{fault_count}
use Rattle.wl_buses.specs.NextFrames.Frames.{FollowOneAnother, Frame, third_sample}
use Rattle.wl_buses.specs.NextFrames.Lines.{LineGoes, finds_frames}

-- At quantum q a node is as it was at an earlier one: it drives recessive, no frame has passed it since, and it has found no error, nor has anything else happened that isn't fine.
pub record StillRests (node : ℕ → History) (earlier q : ℕ) : Type 0 where
  pub drive : (node q).drive ≡ Recessive
  pub frames : (node q).frames ≡ (node earlier).frames
  pub errors : error_count (node q) ≡ error_count (node earlier)
  pub faults : fault_count (node q) ≡ fault_count (node earlier)

-- Each node has sent all frames of its queue by its third bit of the intermission of the last frame, and no other comes with that bit.
pub record AllAreSent (l : Line) (setups : ℕ → NodeSetup) (s : Stations) (frames : ℕ → Frame) (count : ℕ) : Type 0 where
  pub before : (i n : ℕ) → i < s.count → suc n ≡ count → unsent_of (setups i) (node_after (setups i) (finds_frames l s frames count i) (third_sample s (frames n) i)) ≡ []
  pub after : (i n : ℕ) → i < s.count → suc n ≡ count → unsent_of (setups i) (node_after (setups i) (finds_frames l s frames count i) (suc (third_sample s (frames n) i))) ≡ []

-- Up to this tick the nodes go through all frames as is expected, and each rests from its third bit of the last intermission on.
pub record LineFallsSilent (l : Line) (setups : ℕ → NodeSetup) (s : Stations) (frames : ℕ → Frame) (count : ℕ) (are : FollowOneAnother s frames count) (stop : ℕ) : Type 0 where
  pub goes : LineGoes l setups s frames count are stop
  pub rests : (i n q : ℕ) → i < s.count → suc n ≡ count → third_sample s (frames n) i < q
      → StillRests (node_after (setups i) (finds_frames l s frames count i)) (suc (third_sample s (frames n) i)) q
