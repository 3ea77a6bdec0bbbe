-- At first each way is none.
use Rattle.std.proofs.Common.{ℕ, ◌≤◌, sym, subst, arith}
use Rattle.std.proofs.lemmas.List.{length-replicate}
use Rattle.wl_topology.specs.Limits.{most_places, never}
use Rattle.wl_group.proofs.WayProofs.{nothing_in}
use Rattle.wl_group.proofs.begin.ways_to.Goals as goal

pub loop-i-init : goal.loop-i-init
loop-i-init c = (
  length-replicate {A = ℕ} most_places 0,
  (λ k none. absurd (omega (arith, none))),
  (λ k. subst (λ way. way ≤ never) (sym (nothing_in most_places k)) (omega arith)),
)
