use Rattle.std.proofs.Common.{ℕ, ◌^◌, ◌<◌, ◌≤◌, ◌≢◌, length, get_or}
use Rattle.wl_serial.proofs.sources.Sources.others_until.Given as goal

-- from the nodes so far no change comes before then, and that tick is after each that is kept or one at which a change comes
abbrev pub invariant-loop-k : goal.invariant-loop-k
invariant-loop-k l =
    ((m : ℕ) → m ≢ l.j → m < l.k → l.until ≤ get_or l.self.nexts m 0)
    × (l.until ≤ 2 ^ 63)
    × ((t : ℕ) → t < 2 ^ 63 → ((m : ℕ) → m < length l.plan.nodes → t < get_or l.self.nexts m 0) → t < l.until)
