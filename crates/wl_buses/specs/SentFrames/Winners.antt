-- Which stations have won the frames on a line, and what has passed a node with them.
use Rattle.std.specs.Prelude.{ℕ, zero, suc, ◌+◌, ◌==◌, List, [], ◌∷◌, ◌++◌, if◌then◌else◌}
use Rattle.wl_frame.specs.Grammar.{Content}
use Rattle.wl_node.specs.declared.setup.Passed.{Passed}
use Rattle.wl_buses.specs.OneFrame.Stations.{Stations}
use Rattle.wl_buses.specs.FrameEnd.Rests.{passed_frame}
use Rattle.wl_buses.specs.NextFrames.Frames.{Frame}

-- how many of the first n frames station i has won (Bosch CAN 2.0 part B, section 3.1, arbitration)
abbrev pub won_by : (winner : ℕ → ℕ) → (i n : ℕ) → ℕ
won_by winner i zero = 0
won_by winner i (suc n) = won_by winner i n + (if i == winner n then 1 else 0)

-- What has passed node i with the first n frames: it has sent those that it has won, and received each other one (Bosch CAN 2.0 part B, section 5).
abbrev pub passed_with : (s : Stations) (frames : ℕ → Frame) (winner : ℕ → ℕ) (content : ℕ → Content) (i n : ℕ) → List Passed
passed_with s frames winner content i zero = []
passed_with s frames winner content i (suc n) =
    passed_with s frames winner content i n ++ passed_frame s (frames n).outset (frames n).bits i (winner n) (content n) ∷ []
