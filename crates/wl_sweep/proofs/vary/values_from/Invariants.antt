use Rattle.std.proofs.Common.{◌≡◌}
use Rattle.std.specs.Prelude.{◌+ℤ◌, ◌*◌, map, pos}
use Rattle.std.specs.List.{range_with_len}
use Rattle.wl_sweep.proofs.vary.values_from.Given as goal

abbrev pub invariant-loop-k : goal.invariant-loop-k
invariant-loop-k l = l.values ≡ map (λ k. l.low +ℤ pos (k * l.step)) (range_with_len 0 l.k)
