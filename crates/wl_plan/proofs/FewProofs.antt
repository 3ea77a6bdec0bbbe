-- A node changes its drive few times.
use Rattle.std.proofs.Common.{◌≡◌, ℕ, suc, ◌+◌, ◌/◌, ◌<◌, ◌≤◌, List, ◌++◌, length, take, refl, sym, ◌∙◌, ap, arith, not, None, ◌⊎◌, inr}
use Rattle.std.proofs.Math.Seq.{take-append_seam}
use Rattle.wl_level.specs.declared.Level.{Level}
use Rattle.wl_level.specs.declared.Level.TheVariants.{Dominant, Recessive}
use Rattle.wl_level.specs.Levels.{is_dominant, same}
use Rattle.wl_level.specs.Places.{count_places, PlaceLaws}
use Rattle.wl_segments.specs.Lengths.{AreLengths, least_way}
use Rattle.wl_node.specs.declared.setup.NodeSetup.{NodeSetup}
use Rattle.wl_node.specs.History.{history_of}
use Rattle.wl_node.specs.Quiet.{drive_at, changes_of}
use Rattle.wl_plan.specs.declared.plan.Plan.{Plan}
use Rattle.wl_plan.specs.PlanLine.{line_of, no_setup, setup_at, table_of}
use Rattle.wl_plan.specs.Simulation.{seen, differs, AreInside}
use Rattle.wl_plan.specs.SimulationLaws.{SimulationLaws}
use Rattle.wl_plan.specs.Sound.{IsCausal}
use Rattle.wl_plan.specs.Checked.{CheckedIsSound}
use Rattle.wl_plan.specs.Changes.{most_changes, ChangesAreFew}

-- two drives differ as their levels do
differs_as : (now before : Level) → differs (is_dominant now) (is_dominant before) ≡ not (same before now)
differs_as Dominant Dominant = refl
differs_as Dominant Recessive = refl
differs_as Recessive Dominant = refl
differs_as Recessive Recessive = refl

-- what the laws of nodes say of a node's changes
abbrev pub FewOfNode : Type 0
FewOfNode = (setup : NodeSetup) (levels : List Level) → (setup.until ≡ None) ⊎ AreLengths setup.segments → changes_of setup levels ≤ length levels / suc (least_way setup.segments) + 1

module _ (places : PlaceLaws) (few : FewOfNode) (laws : SimulationLaws) (plan : Plan) (causal : IsCausal (line_of plan)) (i : ℕ) (b : i < length plan.nodes) (lengths : AreLengths (setup_at plan i).segments) where
  first_seen : (k n : ℕ) → k ≤ n → take k (seen (line_of plan) i n) ≡ seen (line_of plan) i k
  first_seen k n low =
      let more = laws.seen_more (line_of plan) i k n low in
      ap (take k) more.1 ∙ (ap (λ m. take m (seen (line_of plan) i k ++ more.0)) (sym (laws.length_seen (line_of plan) i k)) ∙ take-append_seam (seen (line_of plan) i k) more.0)

  -- its changes are as many as the node's own count of them
  changes_are : (n : ℕ) → AreInside (line_of plan) i n → plan.end ≤ (line_of plan).instant i n → length (table_of plan i) ≡ changes_of (setup_at plan i) (seen (line_of plan) i n)
  changes_are n inside past =
      let l = line_of plan in
      let all_seen = seen l i n in
      sym (laws.all_at_end l i (l.instant i n) causal b past)
      ∙ (laws.changes_counted l i n causal b inside
      ∙ (places.counted_below _ _ n (λ k c.
      differs_as (history_of (setup_at plan i) (seen l i (suc k))).drive (history_of (setup_at plan i) (seen l i k)).drive
      ∙ (λ d. not (same (history_of (setup_at plan i) (sym (first_seen k n (omega arith)) d)).drive (history_of (setup_at plan i) (sym (first_seen (suc k) n (omega arith)) d)).drive)))
      ∙ ap (count_places (λ k. not (same (drive_at (setup_at plan i) all_seen k) (drive_at (setup_at plan i) all_seen (suc k))))) (sym (laws.length_seen l i n))))

  pub changes_few : (n : ℕ) → AreInside (line_of plan) i n → plan.end ≤ (line_of plan).instant i n → length (table_of plan i) ≤ most_changes plan i n
  changes_few n inside past =
      let counted = few (setup_at plan i) (seen (line_of plan) i n) (inr lengths) in
      let all = ap (λ k. k / suc (least_way (setup_at plan i).segments) + 1) (laws.length_seen (line_of plan) i n) in
      let are = changes_are n inside past in
      omega arith

pub changes_are_few : PlaceLaws → FewOfNode → SimulationLaws → CheckedIsSound → ChangesAreFew
changes_are_few places few laws sounds plan is i k b inside past = changes_few places few laws plan (sounds plan is).causal i b (is.segments i no_setup b) k inside past
