-- What passes a node, and what it finds, from one frame to the next.
use Rattle.std.specs.Prelude.{◌≡◌, ℕ, suc, ◌+◌, [], ◌∷◌, ◌++◌}
use Rattle.wl_segments.specs.Lengths.{sample_at}
use Rattle.wl_frame.specs.Grammar.{Content}
use Rattle.wl_node.specs.History.{History, error_count}
use Rattle.wl_buses.specs.OneFrame.Expected.{Outset, expected_sample}
use Rattle.wl_buses.specs.OneFrame.Stations.{Stations}
use Rattle.wl_buses.specs.FirstFrame.Faults.{fault_count}
use Rattle.wl_buses.specs.FrameEnd.Rests.{passed_frame}

-- One frame passes a node, sent or received, between its sample by which it rests before it and that of the third bit of the intermission. The latter leaves the frames as they are. In that
-- time it finds no error, and nothing else happens that isn't fine.
pub record PassesOne (s : Stations) (o : Outset) (end sender i rest : ℕ) (frame : Content) (node : ℕ → History) : Type 0 where
  pub frames : (node (suc (expected_sample s o (end + 12) i))).frames ≡ (node (suc (rest + sample_at (s.lengths i)))).frames ++ passed_frame s o end i sender frame ∷ []
  pub before : (node (expected_sample s o (end + 12) i)).frames ≡ (node (suc (expected_sample s o (end + 12) i))).frames
  pub errors : error_count (node (suc (expected_sample s o (end + 12) i))) ≡ error_count (node (suc (rest + sample_at (s.lengths i))))
  pub faults : fault_count (node (suc (expected_sample s o (end + 12) i))) ≡ fault_count (node (suc (rest + sample_at (s.lengths i))))
