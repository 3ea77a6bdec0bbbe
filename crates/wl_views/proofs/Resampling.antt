-- What a node saw while the line stays, and its samples at the end.
use Rattle.std.proofs.Common.{◌≡◌, ◌∙◌, sym, ap, arith, ℕ, zero, suc, ◌+◌, ◌<◌, ◌≤◌, List, [], ◌∷◌, ◌++◌, length, replicate, append-nil}
use Rattle.wl_level.specs.declared.Level.{Level}
use Rattle.wl_level.specs.Levels.{level_of}
use Rattle.wl_level.proofs.Callers.{snoc}
use Rattle.wl_clock.specs.Timing.{tick_of}
use Rattle.wl_node.specs.Limits.{most_run_quanta}
use Rattle.wl_plan.specs.declared.plan.Plan.{Plan}
use Rattle.wl_plan.specs.Line.{found}
use Rattle.wl_plan.specs.PlanLine.{line_of, setup_at}
use Rattle.wl_plan.specs.Simulation.{level, seen}
use Rattle.wl_plan.specs.SimulationLaws.{SimulationLaws}
use Rattle.wl_plan.specs.Sound.{IsSound}
use Rattle.wl_views.proofs.Seeing.{few_more, seen_more}

module _ (laws : SimulationLaws) (plan : Plan) (sound : IsSound (line_of plan)) (i : ℕ) (b : i < length plan.nodes) where
  abbrev at : ℕ → ℕ
  at q = tick_of (setup_at plan i).clock q

  pub seen_on : (k n : ℕ) (l : Level) → ((q : ℕ) → k ≤ q → q < k + n → level_of (found (line_of plan) (level (line_of plan)) i (at q)) ≡ l)
      → seen (line_of plan) i k ++ replicate n l ≡ seen (line_of plan) i (k + n)
  seen_on k zero l stays = append-nil (seen (line_of plan) i k) ∙ ap (seen (line_of plan) i) {x = k} {y = k + 0} (omega arith)
  seen_on k (suc n) l stays =
      snoc (seen (line_of plan) i k) l n
      ∙ ap (λ (ls : List Level). ls ++ l ∷ []) (seen_on k n l (λ q from below. stays q from (omega arith)))
      ∙ ap (λ (x : Level). seen (line_of plan) i (k + n) ++ x ∷ []) (sym (stays (k + n) (omega arith) (omega arith)))
      ∙ sym (seen_more laws plan sound i b (k + n))
      ∙ ap (seen (line_of plan) i) {x = k + n + 1} {y = k + suc n} (omega arith)

  pub few_below : (n until : ℕ) → ((q : ℕ) → q < n → at q < until) → until ≤ plan.end → n ≤ most_run_quanta
  few_below zero until before inside = omega arith
  few_below (suc n) until before inside = (let e = few_more laws plan sound i b n (let f = before n (omega arith) in omega arith) in omega arith)
