-- How many frames there are: no more than wait at all nodes.
use Rattle.std.proofs.Common.{◌≡◌, ◌≢◌, refl, ap, inl, inr, ℕ, zero, suc, ◌+◌, ◌<◌, ◌≤◌, cond, length, arith}
use Rattle.std.proofs.lemmas.Bool.{cases_eq, eq-eqb, ne_eqb}
use Rattle.wl_plan.specs.declared.plan.Plan.{Plan}
use Rattle.wl_plan.specs.PlanLine.{setup_at}
use Rattle.wl_buses.specs.SentFrames.Winners.{won_by}
use Rattle.wl_proved.specs.LateEnds.{frames_below}

module _ (winner : ℕ → ℕ) where
  own_more : (i n : ℕ) → i ≡ winner n → won_by winner i (suc n) ≡ suc (won_by winner i n)
  own_more i n e = (let one : won_by winner i (suc n) ≡ won_by winner i n + 1 = ap (λ b. won_by winner i n + cond b 1 0) (eq-eqb i (winner n) e) in omega arith)

  other_more : (i n : ℕ) → i ≢ winner n → won_by winner i (suc n) ≡ won_by winner i n
  other_more i n e = (let none : won_by winner i (suc n) ≡ won_by winner i n + 0 = ap (λ b. won_by winner i n + cond b 1 0) (ne_eqb i (winner n) e) in omega arith)

  -- of the first m nodes
  won_below : (m n : ℕ) → ℕ
  won_below zero n = 0
  won_below (suc m) n = won_below m n + won_by winner m n

  none_below : (m : ℕ) → won_below m 0 ≡ 0
  unfolding won_below
  none_below zero = refl
  none_below (suc m) = let before = none_below m in omega arith

  same_below : (m n : ℕ) → m ≤ winner n → won_below m (suc n) ≡ won_below m n
  unfolding won_below
  same_below zero n h = refl
  same_below (suc m) n h = let before = same_below m n (omega arith) in let own = other_more m n (λ e. omega arith) in omega arith

  more_below : (m n : ℕ) → winner n < m → won_below m (suc n) ≡ suc (won_below m n)
  unfolding won_below
  more_below zero n h = absurd (omega arith)
  more_below (suc m) n h = elim (cases_eq m (winner n)) [
    | inl own ↦ (let before = same_below m n (omega arith) in let one = own_more m n own in omega arith)
    | inr other ↦ (let before = more_below m n (omega (arith, other)) in let none = other_more m n other in omega arith)
  ]

  all_below : (m n : ℕ) → ((k : ℕ) → k < n → winner k < m) → won_below m n ≡ n
  all_below m zero h = none_below m
  all_below m (suc n) h = let before = all_below m n (λ k less. h k (omega arith)) in let one = more_below m n (h n (omega arith)) in omega arith

  module _ (plan : Plan) (count : ℕ) (few : (i : ℕ) → won_by winner i count ≤ length (setup_at plan i).queue) where
    few_below : (m : ℕ) → won_below m count ≤ frames_below plan m
    unfolding won_below
    few_below zero = omega arith
    few_below (suc m) =
        let before = few_below m in
        let own = few m in
        omega arith

    pub few_frames : ((n : ℕ) → n < count → winner n < length plan.nodes) → count ≤ frames_below plan (length plan.nodes)
    few_frames inside = let all = all_below (length plan.nodes) count inside in let below = few_below (length plan.nodes) in omega arith
