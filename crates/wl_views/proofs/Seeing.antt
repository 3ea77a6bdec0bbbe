-- What a node saw, one quantum more at a time, up to the end.
use Rattle.std.proofs.Common.{◌≡◌, ◌∙◌, sym, ap, subst, arith, inl, inr, add-one, ℕ, ◌+◌, ◌<◌, ◌≤◌, [], ◌∷◌, ◌++◌, length}
use Rattle.std.proofs.lemmas.Bool.{cases_lt}
use Rattle.wl_level.specs.Levels.{level_of}
use Rattle.wl_clock.specs.Timing.{tick_of}
use Rattle.wl_node.specs.Limits.{most_run_quanta}
use Rattle.wl_plan.specs.declared.plan.Plan.{Plan}
use Rattle.wl_plan.specs.Line.{found}
use Rattle.wl_plan.specs.PlanLine.{line_of, setup_at}
use Rattle.wl_plan.specs.Simulation.{AreInside, history, level, seen}
use Rattle.wl_plan.specs.SimulationLaws.{SimulationLaws}
use Rattle.wl_plan.specs.Sound.{IsSound}
use Rattle.wl_views.proofs.InTime.{few}

module _ (laws : SimulationLaws) (plan : Plan) (sound : IsSound (line_of plan)) (j : ℕ) (b : j < length plan.nodes) where
  abbrev at_quantum : ℕ → ℕ
  at_quantum k = tick_of (setup_at plan j).clock k

  pub inside_more : (k : ℕ) → AreInside (line_of plan) j k → at_quantum k < plan.end → AreInside (line_of plan) j (k + 1)
  inside_more k h below m c = elim (cases_lt m k) [
    | inl low ↦ h m low
    | inr high ↦ (let same : k ≡ m = omega arith in subst (λ n. at_quantum n < plan.end) same below)
  ]

  pub seen_more : (k : ℕ) → seen (line_of plan) j (k + 1) ≡ seen (line_of plan) j k ++ level_of (found (line_of plan) (level (line_of plan)) j (at_quantum k)) ∷ []
  unfolding seen
  seen_more k = ap (seen (line_of plan) j) (add-one k)

  pub all_seen : (k : ℕ) → AreInside (line_of plan) j k → plan.end ≤ at_quantum k → seen (line_of plan) j k ≡ (history (line_of plan) plan.end).seen j
  all_seen k h past =
      sym (laws.history_seen (line_of plan) j plan.end sound.causal b
      ∙ ap (seen (line_of plan) j) (laws.ran_at_end (line_of plan) j k sound.causal b h past))

  pub few_more : (k : ℕ) → at_quantum k < plan.end → k + 1 ≤ most_run_quanta
  few_more k below = let less = sound.few_quanta j k b below in let all = few in omega arith

  pub later : (k : ℕ) → at_quantum k < at_quantum (k + 1)
  later k = subst (λ n. at_quantum k < at_quantum n) (sym (add-one k)) (sound.causal.clocks j k b)
