-- A record that is true of a plan has a word in a hub of the plan's shape.
use Rattle.std.proofs.Math.Nat.{div-mul-le_self, mul-le-mul_left}
use Rattle.std.proofs.Common.{◌≡◌, ℕ, zero, suc, ◌+◌, ◌*◌, ◌/◌, ◌<◌, ◌≤◌, length, map, List, [], ◌∷◌, get_or, slice_index_or, subst, arith}
use Rattle.std.specs.Prelude.{slice_index}
use Rattle.std.proofs.lemmas.List.{get_or-map}
use Rattle.std.proofs.lemmas.Option.{slice_get_within}
use Rattle.wl_clock.specs.Timing.{tick_of}
use Rattle.wl_record_core.specs.declared.record.Record.{Record}
use Rattle.wl_record_core.specs.declared.record.Record.TheVariants.{Edge, Clash, Silence}
use Rattle.wl_record_core.specs.Truth.{count_below}
use Rattle.wl_record_core.specs.TableLaws.{TableLaws}
use Rattle.wl_node.specs.declared.setup.NodeSetup.{NodeSetup}
use Rattle.wl_plan.specs.declared.plan.Plan.{Plan}
use Rattle.wl_plan.specs.declared.limits.TheConstants.{MOST_QUANTA}
use Rattle.wl_plan.specs.Limits.{most_quanta, most_quanta-is}
use Rattle.wl_plan.specs.Line.{Line}
use Rattle.wl_plan.specs.Sound.{IsCausal, IsSound}
use Rattle.wl_plan.specs.Changes.{ChangesAreFew}
use Rattle.wl_plan.specs.Checked.{IsChecked, CheckedIsSound}
use Rattle.wl_plan.specs.PlanLine.{setup_at, line_of, table_of, IsTrueOfPlan}
use Rattle.wl_plan.specs.Simulation.{changes}
use Rattle.wl_plan.specs.SimulationLaws.{SimulationLaws}
use Rattle.wl_hub.specs.Words.{IsInShape}
use Rattle.wl_worker.specs.Handed.{AreTrueOfPlan}
use Rattle.wl_worker.specs.PlanName.{IsShapeOf}

-- ---- the words of a node

few_at : (plan : Plan) → IsSound (line_of plan) → (i q : ℕ) → i < length plan.nodes → ((k : ℕ) → k < q → tick_of (setup_at plan i).clock k < plan.end) → q ≤ most_quanta
few_at plan sound i zero b before = omega arith
few_at plan sound i (suc p) b before = let f = sound.few_quanta i p b (before p (omega arith)) in omega arith

-- a quotient is no greater
pub quotient_small : (n k : ℕ) → n / (k + 1) ≤ n
quotient_small n k =
    let low : n / (k + 1) * (k + 1) ≤ n = div-mul-le_self n (k + 1) in
    let one : n / (k + 1) * 1 ≤ n / (k + 1) * (k + 1) = mul-le-mul_left (n / (k + 1)) (omega arith) in
    omega arith

-- few quanta of a node begin before the end
pub few_quanta : (plan : Plan) → IsSound (line_of plan) → (i q : ℕ) (x : NodeSetup) → x ≡ setup_at plan i → i < length plan.nodes → ((k : ℕ) → k < q → tick_of x.clock k < plan.end) → q ≤ MOST_QUANTA
few_quanta plan sound i q x e b before =
    let f = few_at plan sound i q b (λ k low. subst (λ (s : NodeSetup). tick_of s.clock k < plan.end) e (before k low)) in omega (arith, most_quanta-is)

module _ (laws : SimulationLaws) (l : Line) (i : ℕ) (s : IsCausal l) (b : i < l.nodes) where
  few_below : TableLaws → (u : ℕ) → count_below u (changes l i) ≤ length (changes l i)
  few_below tables u = let t = tables.count_less u (u + l.stop) (changes l i) (omega arith) in let e = laws.all_at_end l i (u + l.stop) s b (omega arith) in omega arith

-- ---- a true record is in shape

width_at : (f : ℕ × ℕ → ℕ) (shape : List (ℕ × ℕ)) (n : ℕ) → n < length shape → slice_index (map f shape) n ≡ f (slice_index_or shape n (0, 0))
width_at f shape n b = get_or-map f shape n (0, 0) 0 b

module _ (tables : TableLaws) (laws : SimulationLaws) (sounds : CheckedIsSound) (small : ChangesAreFew) (plan : Plan) (is : IsChecked plan) (shape : List (ℕ × ℕ)) (words : IsShapeOf plan shape) where
  changes_fit : (n : ℕ) → n < length plan.nodes → length (table_of plan n) ≤ (slice_index_or shape n (0, 0)).0
  changes_fit n b = let w = words.each n b in let few = small plan is n w.quanta b w.least w.reached in let e = w.edges in omega arith

  pub in_shape : (r : Record) → IsTrueOfPlan plan r → IsInShape shape r
  in_shape (Edge n s t) h =
      let fit = changes_fit n h.0 in
      let at = slice_get_within (table_of plan n) s t h.1 in
      let all = words.all in
      let width = width_at (λ w. w.0) shape n (let b = h.0 in omega arith) in
      (omega arith, h.2)
  in_shape (Silence n c u) h =
      let fit = changes_fit n h.0 in
      let below = few_below laws (line_of plan) n (sounds plan is).causal h.0 tables u in
      let e = h.1 in
      let more = (words.each n h.0).silences in
      let all = words.all in
      let width = width_at (λ w. w.1) shape n (let b = h.0 in omega arith) in
      (omega arith, h.2)
  in_shape (Clash n s) h = absurd h

-- ---- one of several

pub true_at : (plan : Plan) (rs : List Record) (i : ℕ) (d : Record) → AreTrueOfPlan plan rs → i < length rs → IsTrueOfPlan plan (get_or rs i d)
true_at plan [] i d h b = absurd (omega arith)
true_at plan (r ∷ rs) zero d h b = h.0
true_at plan (r ∷ rs) (suc i) d h b = true_at plan rs i d h.1 (omega arith)
