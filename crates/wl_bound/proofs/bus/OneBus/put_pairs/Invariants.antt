use Rattle.std.proofs.Common.{ℕ, ◌+◌, ◌*◌, ◌<◌, get_or}
use Rattle.wl_topology.specs.Limits.{most_places}
use Rattle.wl_bound.specs.declared.kept.PairTerms.{PairTerms}
use Rattle.wl_bound.specs.Kept.{AreOfPairs, IsOfPair}
use Rattle.wl_bound.specs.OneBuses.{the_bus}
use Rattle.wl_bound.proofs.bus.OneBus.put_pairs.Given as goal

-- the rows before, and of this row the nodes so far
abbrev pub invariant-loop-j : goal.invariant-loop-j
invariant-loop-j l =
    AreOfPairs l.i (the_bus l.self) l.pairs
    × ((k : ℕ) (d : PairTerms) → k < l.j → IsOfPair (the_bus l.self) l.i k (get_or l.pairs (most_places * l.i + k) d))
