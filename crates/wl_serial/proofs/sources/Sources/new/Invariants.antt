use Rattle.std.proofs.Common.{◌≡◌, ℕ, ◌^◌, ◌<◌, ◌≤◌, length, get_or}
use Rattle.wl_topology.specs.Limits.{most_places}
use Rattle.wl_serial.proofs.sources.Sources.new.Given as goal

-- the nodes so far have not been asked
abbrev pub invariant-loop-i : goal.invariant-loop-i
invariant-loop-i l =
    (length l.nexts ≡ most_places)
    × ((k : ℕ) → k < l.i → get_or l.nexts k 0 ≡ 0)
    × ((k : ℕ) → l.i ≤ k → k < most_places → 2 ^ 63 ≤ get_or l.nexts k 0)
