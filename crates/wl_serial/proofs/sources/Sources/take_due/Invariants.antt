use Rattle.std.proofs.Common.{◌≡◌, ℕ, ◌<◌, ◌≤◌, ◌⊎◌, length, get_or}
use Rattle.wl_serial.specs.LineAt.{AreTallied, AreSources, IsAhead}
use Rattle.wl_serial.proofs.sources.Sources.take_due.Given as goal

-- of each node something later is kept, or it is among those that are still to be asked
abbrev pub invariant-loop-k : goal.invariant-loop-k
invariant-loop-k l =
    AreTallied (length l.plan.nodes) l.self
    × AreSources l.plan l.running l.j l.t l.self
    × IsAhead l.self
    × (l.self.others ≤ l.t)
    × (l.last < length l.plan.nodes)
    × ((i : ℕ) → i < length l.plan.nodes
    → (l.t < get_or l.self.nexts i 0) ⊎ ((p : ℕ) × (l.k ≤ p) × (p < l.count) × (get_or l.due p 0 ≡ i)))
