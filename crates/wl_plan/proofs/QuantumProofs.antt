-- What a quantum adds to the changes, and that a node that is said to be quiet is.
use Rattle.std.proofs.Common.{◌≡◌, ℕ, zero, suc, ◌+◌, ◌-◌, ◌<◌, ◌≤◌, true, false, inl, inr, length, refl, sym, ◌∙◌, ap, arith, add-zero, add-suc, Some, slice_get, if◌then◌else◌}
use Rattle.std.proofs.lemmas.Bool.{cases_lt, cases_Bool, cond-true, cond-false}
use Rattle.wl_level.specs.Places.{count_places}
use Rattle.wl_topology.specs.Driven.{DrivenLaws}
use Rattle.wl_record_core.specs.Truth.{count_below}
use Rattle.wl_record_core.specs.TableLaws.{TableLaws}
use Rattle.wl_plan.specs.Line.{Line, reach}
use Rattle.wl_plan.specs.Simulation.{level, level_before, seen, differs, changes_below, changes, ran, AreInside}
use Rattle.wl_plan.specs.Sound.{IsCausal}
use Rattle.wl_plan.specs.SimulationLaws.{SimulationLaws}
use Rattle.wl_plan.proofs.LineProofs.{IsRan, drove_stays, clock_later, ran_once, ran_yes, ran_is, ran_next, ran_now, ran_at_end, length_seen, seen_more, found_same, history_seen, level_is, level_before_is}
use Rattle.wl_plan.proofs.ChangeProofs.{changes_inside, count, change_no, same_same, count_yes, change_at, changes_increase, level_before_odd, step_is, still, after_stop, count_is, level_odd}

module _ (lines : DrivenLaws) (tables : TableLaws) where
  still_for : (l : Line) (i : ℕ) → IsCausal l → i < l.nodes → (t k d : ℕ) → ((u : ℕ) → t ≤ u → u ≤ t + d → ran l i u ≡ k) → changes_below l i (t + d) ≡ changes_below l i t
  still_for l i s b t k zero h = ap (changes_below l i) (add-zero t)
  still_for l i s b t k (suc d) h =
      let p = h (t + d) (omega arith) (omega arith) in
      let q = h (suc (t + d)) (omega arith) (omega arith) in
      ap (changes_below l i) (add-suc t d)
      ∙ (still lines tables l i s b (t + d) (q ∙ sym p) ∙ still_for l i s b t k d (λ u a c. h u a (omega arith)))

  -- between two quanta nothing changes
  still_between : (l : Line) (i : ℕ) → IsCausal l → i < l.nodes → (t u k : ℕ) → t ≤ u → ((v : ℕ) → t ≤ v → v ≤ u → ran l i v ≡ k) → changes_below l i u ≡ changes_below l i t
  still_between l i s b t u k h f = ap (changes_below l i) (omega arith) ∙ still_for l i s b t k (u - t) (λ v a c. f v a (omega arith))

  -- before the first quantum
  count_first : (l : Line) (i : ℕ) → IsCausal l → i < l.nodes → count l i (l.instant i 0) ≡ 0
  unfolding changes_below
  count_first l i s b =
      ap length (still_between l i s b 0 (l.instant i 0) 0 (omega arith) (λ v low high.
      ran_once l i v _ 0 (ran_is l i s b v) (record { before = λ j c. absurd (omega arith); inside = λ j c. absurd (omega arith); after = inl high })))

  module _ (l : Line) (i k : ℕ) (s : IsCausal l) (b : i < l.nodes) (h : AreInside l i (suc k)) where
    below : AreInside l i k
    below = λ j c. h j (omega arith)

    before_it : ran l i (l.instant i k) ≡ k
    before_it = ran_now l i k s b below

    is_after : IsRan l i (suc (l.instant i k)) (suc k)
    is_after = ran_yes l i (l.instant i k) k s b (h k (omega arith)) refl (ran_next l i k s b below)

    after_it : ran l i (suc (l.instant i k)) ≡ suc k
    after_it = ran_once l i (suc (l.instant i k)) _ (suc k) (ran_is l i s b (suc (l.instant i k))) is_after

    turn_is : differs (level l i (l.instant i k)) (level_before l i (l.instant i k)) ≡ differs (l.drives i (seen l i (suc k))) (l.drives i (seen l i k))
    turn_is =
        step_is lines tables l i s b (l.instant i k)
        ∙ (ap (λ n. differs (l.drives i (seen l i n)) (l.drives i (seen l i (ran l i (l.instant i k))))) after_it
        ∙ ap (λ n. differs (l.drives i (seen l i (suc k))) (l.drives i (seen l i n))) before_it)

    -- between its quantum and the next one nothing changes
    count_next : count l i (l.instant i (suc k)) ≡ count l i (suc (l.instant i k))
    count_next =
        ap length (still_between l i s b (suc (l.instant i k)) (l.instant i (suc k)) (suc k) (s.clocks i k b) (λ v low high.
        ran_once l i v _ (suc k) (ran_is l i s b v) (record {
          before = λ j c. let p = is_after.before j c in omega arith;
          inside = h;
          after = inl high;
        })))

    counted_now : count_below (l.instant i k) (changes l i) ≡ count l i (l.instant i k)
    counted_now = count_is lines tables l i s b (l.instant i k)

    pub turn : differs (l.drives i (seen l i (suc k))) (l.drives i (seen l i k)) ≡ true
        → (slice_get (changes l i) (count_below (l.instant i k) (changes l i)) ≡ Some (l.instant i k))
        × (count_below (l.instant i (suc k)) (changes l i) ≡ suc (count_below (l.instant i k) (changes l i)))
    turn y = (
      ap (slice_get (changes l i)) counted_now ∙ change_at l i (l.instant i k) (h k (omega arith)) (turn_is ∙ y),
      count_is lines tables l i s b (l.instant i (suc k)) ∙ (count_next ∙ (count_yes l i (l.instant i k) (turn_is ∙ y) ∙ ap suc (sym counted_now))),
    )

    pub no_turn : differs (l.drives i (seen l i (suc k))) (l.drives i (seen l i k)) ≡ false
        → count_below (l.instant i (suc k)) (changes l i) ≡ count_below (l.instant i k) (changes l i)
    no_turn n =
        count_is lines tables l i s b (l.instant i (suc k))
        ∙ (count_next ∙ (ap length (change_no l i (l.instant i k) (turn_is ∙ n)) ∙ sym counted_now))

  -- while the drive is sure to stay nothing changes
  quiet_step : (l : Line) → IsCausal l → (i k r u : ℕ) → i < l.nodes → AreInside l i k
      → ((j : ℕ) → j ≤ r → l.drives i (seen l i (k + j)) ≡ l.drives i (seen l i k)) → l.instant i k ≤ u → u < l.instant i (k + r) → changes_below l i (suc u) ≡ changes_below l i u
  quiet_step l s i k r u b h stays low high =
      let p = ran_is l i s b u in
      let q = ran_is l i s b (suc u) in
      change_no l i u (step_is lines tables l i s b u
      ∙ (ap (λ v. differs v (l.drives i (seen l i (ran l i u)))) (same (ran l i (suc u)) (least (suc u) (ran l i (suc u)) q (omega arith)) (most (suc u) (ran l i (suc u)) q high))
      ∙ (ap (λ v. differs (l.drives i (seen l i k)) v) (same (ran l i u) (least u (ran l i u) p low) (most u (ran l i u) p (omega arith)))
      ∙ same_same (l.drives i (seen l i k)))))
    where
      same : (n : ℕ) → k ≤ n → n ≤ k + r → l.drives i (seen l i n) ≡ l.drives i (seen l i k)
      same n a c = ap (λ v. l.drives i (seen l i v)) (omega arith) ∙ stays (n - k) (omega arith)

      least : (t n : ℕ) → IsRan l i t n → l.instant i k ≤ t → k ≤ n
      least t n p a = elim (cases_lt n k) [
        | inr fine ↦ fine
        | inl less ↦ absurd (
            let x = h n less in
            let y = clock_later l i (suc n) k s b less in
            let z = s.clocks i n b in
            elim p.after [ inl e ↦ omega arith | inr e ↦ omega arith ])
      ]

      most : (t n : ℕ) → IsRan l i t n → t ≤ l.instant i (k + r) → n ≤ k + r
      most t n p a = elim (cases_lt (k + r) n) [
        | inr fine ↦ fine
        | inl more ↦ absurd (let x = p.before (k + r) more in omega arith)
      ]

  quiet_count : (l : Line) → IsCausal l → (i k r : ℕ) → i < l.nodes → AreInside l i k
      → ((j : ℕ) → j ≤ r → l.drives i (seen l i (k + j)) ≡ l.drives i (seen l i k)) → count l i (l.instant i (k + r)) ≡ count l i (l.instant i k)
  quiet_count l s i k r b h stays =
      let up = clock_later l i k (k + r) s b (omega arith) in
      ap (count l i) (omega arith) ∙ go (l.instant i (k + r) - l.instant i k) (omega arith)
    where
      go : (d : ℕ) → l.instant i k + d ≤ l.instant i (k + r) → count l i (l.instant i k + d) ≡ count l i (l.instant i k)
      go zero a = ap (count l i) (add-zero (l.instant i k))
      go (suc d) a =
          ap (count l i) (add-suc (l.instant i k) d)
          ∙ (ap length (quiet_step l s i k r (l.instant i k + d) b h stays (omega arith) (omega arith)) ∙ go d (omega arith))

  reach_count : (l : Line) (i k : ℕ) → IsCausal l → i < l.nodes → AreInside l i k
      → count_below (reach l i (seen l i k)) (changes l i) ≡ count_below (l.instant i k) (changes l i)
  reach_count l i k s b h =
      count_is lines tables l i s b (reach l i (seen l i k))
      ∙ (ap (λ n. count l i (l.instant i (n + l.quiet i (seen l i k)))) (length_seen l i k)
      ∙ (quiet_count l s i k (l.quiet i (seen l i k)) b h (λ j c.
      let r = seen_more l i k j in
      ap (l.drives i) r.2 ∙ s.quiet_stays i (seen l i k) r.0 b (let z = r.1 in omega arith))
      ∙ sym (count_is lines tables l i s b (l.instant i k))))

  -- the quanta that change what a node drives are counted one by one
  changes_counted : (l : Line) (i k : ℕ) → IsCausal l → i < l.nodes → AreInside l i k
      → count_below (l.instant i k) (changes l i) ≡ count_places (λ j. differs (l.drives i (seen l i (suc j))) (l.drives i (seen l i j))) k
  changes_counted l i zero s b h = count_is lines tables l i s b (l.instant i 0) ∙ count_first l i s b
  changes_counted l i (suc k) s b h =
      let before = changes_counted l i k s b (λ j c. h j (omega arith)) in
      elim (cases_Bool (differs (l.drives i (seen l i (suc k))) (l.drives i (seen l i k)))) [
        | inl y ↦
            let t = (turn l i k s b h y).1 in
            let one : ◌≡◌ {A = ℕ} (if differs (l.drives i (seen l i (suc k))) (l.drives i (seen l i k)) then 1 else 0) 1 = cond-true _ _ _ y in
            omega arith
        | inr n ↦
            let t = no_turn l i k s b h n in
            let none : ◌≡◌ {A = ℕ} (if differs (l.drives i (seen l i (suc k))) (l.drives i (seen l i k)) then 1 else 0) 0 = cond-false _ _ _ n in
            omega arith
      ]

  pub simulation_laws : SimulationLaws
  simulation_laws = record {
    found_same = found_same lines;
    drove_stays = drove_stays;
    clock_later = clock_later;
    length_seen = length_seen;
    seen_more = λ l i k n b. (let m = seen_more l i k (n - k) in (m.0, ap (seen l i) (omega arith) ∙ m.2));
    ran_before = λ l i t j s b. (ran_is l i s b t).before j;
    ran_inside = λ l i t s b. (ran_is l i s b t).inside;
    ran_all = λ l i t s b. (ran_is l i s b t).after;
    history_seen = λ l i t s b. history_seen lines l i s b t;
    ran_now = ran_now;
    ran_at_end = ran_at_end;
    level_is = level_is lines;
    level_before_is = level_before_is lines;
    changes_increase = changes_increase;
    changes_count = λ l i u s b. count_is lines tables l i s b u;
    level_before_odd = λ l i t. sym (level_before_odd l i t);
    level_odd = level_odd lines tables;
    changes_inside = changes_inside;
    none_at_first = λ l i s b. count_is lines tables l i s b (l.instant i 0) ∙ count_first l i s b;
    all_at_end = λ l i u s b h. count_is lines tables l i s b u ∙ ap length (after_stop lines tables l i s b u h);
    turn = turn;
    no_turn = no_turn;
    reach_count = reach_count;
    changes_counted = changes_counted;
  }
