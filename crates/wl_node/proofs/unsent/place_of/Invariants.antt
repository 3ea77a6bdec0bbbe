use Rattle.std.proofs.Common.{◌≡◌, ◌+◌, ℕ, Some, None, drop}
use Rattle.wl_node.specs.Unsent.{place_of}
use Rattle.wl_node.proofs.unsent.place_of.Given as goal

abbrev pub invariant-loop-k : goal.invariant-loop-k
invariant-loop-k l = ((p : ℕ) → place_of l.frame (drop l.k l.unsent) ≡ Some p → place_of l.frame l.unsent ≡ Some (l.k + p))
    × (place_of l.frame (drop l.k l.unsent) ≡ None → place_of l.frame l.unsent ≡ None)
