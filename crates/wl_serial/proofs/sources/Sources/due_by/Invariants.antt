use Rattle.std.proofs.Common.{◌≡◌, ℕ, ◌<◌, ◌≤◌, ◌⊎◌, length, get_or}
use Rattle.wl_topology.specs.Limits.{most_places}
use Rattle.wl_serial.proofs.sources.Sources.due_by.Given as goal

-- of the nodes so far each is among them, or its next change comes later
abbrev pub invariant-loop-i : goal.invariant-loop-i
invariant-loop-i l =
    (length l.due ≡ most_places)
    × (l.count ≤ l.i)
    × ((p : ℕ) → p < l.count → get_or l.due p 0 < length l.plan.nodes)
    × ((m : ℕ) → m < l.i → (l.t < get_or l.self.nexts m 0) ⊎ ((p : ℕ) × (p < l.count) × (get_or l.due p 0 ≡ m)))
