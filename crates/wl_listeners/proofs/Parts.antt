-- A part of the nodes of a line goes as in the whole, tick by tick.
use Rattle.std.proofs.Common.{◌≡◌, ◌∙◌, inl, inr, refl, sym, ap, subst, ℕ, zero, suc, ◌-◌, ◌<◌, ◌≤◌, Bool, true, ◌&&◌, ◌||◌, ◌==◌, nat_lt, cond, [], ◌∷◌, ◌++◌, length, arith}
use Rattle.std.specs.Cmp.{both_ways}
use Rattle.std.proofs.lemmas.Bool.{cases_Bool, cond-true, cond-false, and_parts, ltb-true}
use Rattle.wl_level.specs.Levels.{level_of}
use Rattle.wl_topology.specs.Driven.{DrivenLaws, driven}
use Rattle.wl_plan.specs.Line.{Line, found}
use Rattle.wl_plan.specs.Simulation.{AreInside, changes_below, differs, history, level, level_before, seen, seen_at}
use Rattle.wl_plan.specs.SimulationLaws.{SimulationLaws}
use Rattle.wl_plan.specs.Sound.{IsCausal}
use Rattle.wl_listeners.specs.Parts.{IsPart}

module _ (laws : DrivenLaws) (lines : SimulationLaws) (part whole : Line) (at : ℕ → ℕ) (until : ℕ) (causal : IsCausal whole) (is : IsPart part whole at until) where
  -- what nodes of the part have driven, as it is in the whole
  abbrev IsSameDrive : ℕ → Type 0
  IsSameDrive t = (i u : ℕ) → i < part.nodes → (history part t).drove i u ≡ (history whole t).drove (at i) u

  -- a node of the part finds what it finds in the whole
  module _ (t j : ℕ) (same : IsSameDrive t) (inside : j < part.nodes) (early : t < until) (before : t < part.stop) where
    onto : driven part.nodes part.delay (history part t).drove j t ≡ true → driven whole.nodes whole.delay (history whole t).drove (at j) t ≡ true
    onto e =
        let w = laws.dominant_by part.nodes part.delay (history part t).drove j t e in
        let d = is.delays w.0 j w.1 inside in
        laws.dominant_from whole.nodes whole.delay (history whole t).drove (at w.0) (at j) t (is.inside w.0 w.1) (subst (λ x. x ≤ t) d w.2)
        (ap (λ x. (history whole t).drove (at w.0) (t - x)) (sym d) ∙ sym (same w.0 (t - part.delay w.0 j) w.1) ∙ w.3)

    back : driven whole.nodes whole.delay (history whole t).drove (at j) t ≡ true → driven part.nodes part.delay (history part t).drove j t ≡ true
    back e =
        let w = laws.dominant_by whole.nodes whole.delay (history whole t).drove (at j) t e in
        let low : whole.delay w.0 (at j) ≤ t = w.2 in
        let stop = is.stop in
        elim (is.others w.0 w.1) [
          | inl x ↦
              (let d : part.delay x.0 j ≡ whole.delay w.0 (at j) = is.delays x.0 j x.1 inside ∙ ap (λ k. whole.delay k (at j)) x.2 in
              laws.dominant_from part.nodes part.delay (history part t).drove x.0 j t x.1 (subst (λ y. y ≤ t) (sym d) low)
              (same x.0 (t - part.delay x.0 j) x.1 ∙ ap (λ k. (history whole t).drove k (t - part.delay x.0 j)) x.2
              ∙ ap (λ y. (history whole t).drove w.0 (t - y)) d ∙ w.3))
          | inr none ↦
              (let way = causal.delays w.0 (at j) w.1 (is.inside j inside) in
              let drove = lines.drove_stays whole t w.0 (t - whole.delay w.0 (at j)) (omega arith) in
              let silent = none j t inside early (omega arith) low in
              let dominant = w.3 in
              cc)
        ]

    same_found : found part (history part t).drove j t ≡ found whole (history whole t).drove (at j) t
    same_found =
        ap (λ b. b || part.disturbed j t)
        (both_ways (driven part.nodes part.delay (history part t).drove j t) (driven whole.nodes whole.delay (history whole t).drove (at j) t) onto back)
        ∙ ap (λ b. driven whole.nodes whole.delay (history whole t).drove (at j) t || b) (is.disturbed j t inside)

  -- so all is the same by a tick
  record IsSame (t : ℕ) : Type 0 where
    pub seen : (i : ℕ) → i < part.nodes → (history part t).seen i ≡ (history whole t).seen (at i)
    pub drove : IsSameDrive t

  module _ (t : ℕ) (early : t < until) (so : IsSame t) (i : ℕ) (inside : i < part.nodes) where
    turn : Bool
    turn = nat_lt t part.stop && (part.instant i (length ((history part t).seen i)) == t)

    turn_there : Bool
    turn_there = nat_lt t whole.stop && (whole.instant (at i) (length ((history whole t).seen (at i))) == t)

    same_turn : turn ≡ turn_there
    unfolding turn turn_there
    same_turn =
        ap (λ s. nat_lt t s && (part.instant i (length ((history part t).seen i)) == t)) is.stop
        ∙ ap (λ n. nat_lt t whole.stop && (n == t)) (is.instants i (length ((history part t).seen i)) inside ∙ ap (λ l. whole.instant (at i) (length l)) (so.seen i inside))

    seen_next : seen_at part t (history part t) i ≡ seen_at whole t (history whole t) (at i)
    unfolding turn turn_there
    seen_next = elim (cases_Bool turn) [
      | inl runs ↦
          (let before : t < part.stop = ltb-true t part.stop (and_parts (nat_lt t part.stop) (part.instant i (length ((history part t).seen i)) == t) runs).0 in
          cond-true turn _ _ runs
          ∙ ap (λ l. l ++ level_of (found part (history part t).drove i t) ∷ []) (so.seen i inside)
          ∙ ap (λ b. (history whole t).seen (at i) ++ level_of b ∷ []) (same_found t i so.drove inside early before)
          ∙ sym (cond-true turn_there _ _ (sym same_turn ∙ runs)))
      | inr waits ↦ cond-false turn _ _ waits ∙ so.seen i inside ∙ sym (cond-false turn_there _ _ (sym same_turn ∙ waits))
    ]

    drove_next : (u : ℕ) → (history part (suc t)).drove i u ≡ (history whole (suc t)).drove (at i) u
    unfolding history
    drove_next u =
        ap (λ b. cond (u == t) b ((history part t).drove i u)) (is.drives i (seen_at part t (history part t) i) inside ∙ ap (whole.drives (at i)) seen_next)
        ∙ ap (λ b. cond (u == t) (whole.drives (at i) (seen_at whole t (history whole t) (at i))) b) (so.drove i u inside)

  all_same : (t : ℕ) → t ≤ until → IsSame t
  unfolding history
  all_same zero early = record { seen = λ i inside. refl; drove = λ i u inside. refl }
  all_same (suc t) early = record {
    seen = λ i inside. seen_next t (omega arith) (all_same t (omega arith)) i inside;
    drove = λ i u inside. drove_next t (omega arith) (all_same t (omega arith)) i inside u;
  }

  pub same_seen : (i t : ℕ) → i < part.nodes → t ≤ until → (history part t).seen i ≡ (history whole t).seen (at i)
  same_seen i t inside early = (all_same t early).seen i inside

  pub same_level : (i t : ℕ) → i < part.nodes → t < until → level part i t ≡ level whole (at i) t
  same_level i t inside early = (all_same (suc t) (omega arith)).drove i t inside

  same_before : (i t : ℕ) → i < part.nodes → t ≤ until → level_before part i t ≡ level_before whole (at i) t
  same_before i zero inside early = refl
  same_before i (suc t) inside early = same_level i t inside (omega arith)

  pub same_below : (i t : ℕ) → i < part.nodes → t ≤ until → changes_below part i t ≡ changes_below whole (at i) t
  unfolding changes_below
  same_below i zero inside early = refl
  same_below i (suc t) inside early =
      let now = same_level i t inside (omega arith) in
      let then = same_before i t inside (omega arith) in
      let rest = same_below i t inside (omega arith) in
      ap (λ b. cond (differs b (level_before part i t)) (changes_below part i t ++ t ∷ []) (changes_below part i t)) now
      ∙ ap (λ b. cond (differs (level whole (at i) t) b) (changes_below part i t ++ t ∷ []) (changes_below part i t)) then
      ∙ ap (λ l. cond (differs (level whole (at i) t) (level_before whole (at i) t)) (l ++ t ∷ []) l) rest

-- what a node has seen by each tick is what it has seen at its quanta
pub same_quanta : SimulationLaws → (part whole : Line) (i j k : ℕ) → IsCausal part → IsCausal whole → i < part.nodes → j < whole.nodes
    → ((n : ℕ) → part.instant i n ≡ whole.instant j n) → part.stop ≡ whole.stop → ((t : ℕ) → (history part t).seen i ≡ (history whole t).seen j)
    → AreInside part i k → seen part i k ≡ seen whole j k
same_quanta laws part whole i j k alone causal ni nj same stop by_tick before =
    let before_there : AreInside whole j k = λ n less. (let low = before n less in let now = same n in omega arith) in
    ap (seen part i) (sym (laws.ran_now part i k alone ni before)) ∙ sym (laws.history_seen part i (part.instant i k) alone ni) ∙ by_tick (part.instant i k)
    ∙ ap (λ t. (history whole t).seen j) (same k) ∙ laws.history_seen whole j (whole.instant j k) causal nj ∙ ap (seen whole j) (laws.ran_now whole j k causal nj before_there)
