use Rattle.std.proofs.Common.{◌≡◌, ℕ, ◌<◌, ◌≤◌, List, length, get_or}
use Rattle.wl_serial.specs.declared.running_node.Running.{Running}
use Rattle.wl_serial.specs.Guess.{AreBefore, AreLater, IsBack}
use Rattle.wl_serial.proofs.guess.back.Given as goal

-- the nodes so far are back, and the others where they were
abbrev pub invariant-loop-i : goal.invariant-loop-i
invariant-loop-i l =
    (length l.running ≡ length l.fn.running)
    × ((rs : List Running) → AreBefore rs l.marks → AreLater rs l.fn.running → (k : ℕ) (d : Running) → k < l.i → k < length rs → IsBack (get_or rs k d) (get_or l.running k d))
    × ((k : ℕ) (d : Running) → l.i ≤ k → get_or l.running k d ≡ get_or l.fn.running k d)
