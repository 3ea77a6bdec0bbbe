-- The first quantum that begins when all other nodes are idle.
use Rattle.std.proofs.Common.{◌≡◌, ℕ, suc, ◌<◌, ◌≤◌, sym, ap, arith}
use Rattle.std.specs.Prelude.{unwrap_or}
use Rattle.std.proofs.lemmas.Bool.{le-leb, lt-leb}
use Rattle.wl_level.proofs.Callers.{first_found}
use Rattle.wl_clock.specs.Timing.{tick_of}
use Rattle.wl_plan.specs.declared.plan.Plan.{Plan}
use Rattle.wl_plan.specs.PlanLine.{setup_at}
use Rattle.wl_margin.specs.Reasons.{idle_but, idle_quantum, is_from}

pub first_quantum : (plan : Plan) (i k : ℕ) → idle_but plan i ≤ tick_of (setup_at plan i).clock k
    → ((j : ℕ) → j < k → tick_of (setup_at plan i).clock j < idle_but plan i) → k ≤ idle_but plan i → k ≡ idle_quantum plan i
first_quantum plan i k reached least near =
    let found = first_found (is_from plan i) (suc (idle_but plan i)) k
    (record {
      inside = omega (arith, near);
      passes = le-leb (idle_but plan i) (tick_of (setup_at plan i).clock k) reached;
      none_before = λ j less. lt-leb (idle_but plan i) (tick_of (setup_at plan i).clock j) (least j less);
    }) in
    sym (ap (λ o. unwrap_or o 0) found)
