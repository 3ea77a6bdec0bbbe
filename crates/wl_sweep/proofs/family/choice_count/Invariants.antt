use Rattle.std.proofs.Common.{◌≡◌, drop, ◌*◌}
use Rattle.std.specs.Prelude.{fold}
use Rattle.std.specs.List.{enumerate_from}
use Rattle.wl_sweep.specs.Family.{choice_count, offset_count, sign_count, widely_capped}
use Rattle.wl_sweep.proofs.family.choice_count.Given as goal

abbrev pub invariant-loop-i : goal.invariant-loop-i
invariant-loop-i l = fold (λ count m. widely_capped (widely_capped (count * offset_count l.options l.step m) * sign_count l.options m.1)) l.count (enumerate_from l.i (drop l.i l.nodes)) ≡ choice_count l.options l.step (enumerate_from 0 l.nodes)
