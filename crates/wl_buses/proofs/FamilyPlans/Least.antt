-- The least number of edges in which a node catches up is enough: a bus that has room with any such numbers passes the test.
use Rattle.std.proofs.Common.{◌≡◌, ◌≢◌, sym, inl, inr, ℕ, zero, suc, ◌+◌, ◌-◌, ◌*◌, ◌<◌, ◌≤◌, ◌⊎◌, ◌&&◌, not, Bool, true, false, cond, length, refl, arith}
use Rattle.std.specs.Prelude.{◌==◌}
use Rattle.std.specs.Int.{div_ceil}
use Rattle.std.proofs.lemmas.Bool.{and_from, and_parts, cases_lt, eqb-false, le-leb, lt-leb, ne_eqb, not-true, not_from_false, not_from_true, or_from}
use Rattle.std.proofs.lemmas.Grind.{div_ceil_times}
use Rattle.std.proofs.Math.Nat.{mul-le-mul_right}
use Rattle.wl_segments.specs.Lengths.{sample_at}
use Rattle.wl_topology.specs.Driven.{any_below}
use Rattle.wl_topology.proofs.Callers.{any_none}
use Rattle.wl_bound.specs.Families.{Bus, Buses}
use Rattle.wl_bound.specs.Terms.{drift, greatest, jump, look, sends_but, sends_third}
use Rattle.wl_bound.proofs.Greatest.{bounded}
use Rattle.wl_bound.specs.Rooms.{IsShort, beyond_jump, catches, comes_early, distance, edges_to, falls_behind, gain, gathering, has_long_quantum, have_room, is_crowded, lacks_room, least_chase, leaves_room, left_over, plain_bus}
use Rattle.wl_buses.specs.OneFrame.Answers.{HasRoomToAnswer, gathered}
use Rattle.wl_buses.specs.FrameEnd.Again.{LeavesRoomToRest}
use Rattle.wl_buses.proofs.BothProofs.Small.{greatest_each}

-- by the distance and what each edge gains: no more edges than any number that does, and enough of them
fit : (far step c : ℕ) → far ≤ suc c * step → cond (step == 0) 0 (div_ceil far step - 1) ≤ c
fit far zero c h = omega arith
fit far (suc s) c h = rw (ne_eqb (suc s) 0 (λ e. cc)) (few (cases_lt (suc c) (div_ceil far (suc s))))
  where
    few : (suc c < div_ceil far (suc s)) ⊎ (div_ceil far (suc s) ≤ suc c) → div_ceil far (suc s) - 1 ≤ c
    few (inl more) =
        let lower = (div_ceil_times far (suc s) (omega arith)).1 in
        let wide : suc (suc c) * suc s ≤ div_ceil far (suc s) * suc s = mul-le-mul_right (suc s) more in
        absurd (omega arith)
    few (inr less) = omega arith

enough : (far step c n : ℕ) → far ≤ suc c * step → cond (step == 0) 0 (div_ceil far step - 1) ≤ n → far ≤ suc n * step
enough far zero c n h few = omega arith
enough far (suc s) c n h few =
    let less : div_ceil far (suc s) - 1 ≤ n = rw (ne_eqb (suc s) 0 (λ e. cc)) at few in
    let upper = (div_ceil_times far (suc s) (omega arith)).0 in
    let wide : div_ceil far (suc s) * suc s ≤ suc n * suc s = mul-le-mul_right (suc s) (omega arith) in
    omega arith

never : (v w : Bool) → (v ≡ true → w ≡ true) → (v && not w) ≡ false
never true w h = not_from_true w (h refl)
never false w h = refl

module _ (b : Bus) (chase : ℕ → ℕ) (has : HasRoomToAnswer b chase) (rests : LeavesRoomToRest b chase) where
  near : (k w : ℕ) → k < b.nodes → w < b.nodes → sends_but b k w ≡ true → distance b k w ≤ suc (chase k) * gain b k w
  unfolding distance gain
  near k w nk nw sends =
      let parts = and_parts (b.sends w) (not (w == k)) sends in
      let h = has.catches k w nk nw (λ e. eqb-false w k (not-true (w == k) parts.1) (sym e)) parts.0 in
      omega arith

  least : (k : ℕ) → k < b.nodes → least_chase b k ≤ chase k
  unfolding least_chase edges_to
  least k nk =
      bounded b.nodes (sends_but b k) (edges_to b k) (chase k)
      (λ w nw sends. fit (distance b k w) (gain b k w) (chase k) (near k w nk nw sends))

  catches_up : (k w : ℕ) → k < b.nodes → w < b.nodes → sends_but b k w ≡ true → catches b k w ≡ true
  unfolding least_chase edges_to
  catches_up k w nk nw sends =
      le-leb _ _ (enough (distance b k w) (gain b k w) (chase k) (least_chase b k) (near k w nk nw sends)
      (greatest_each b.nodes (sends_but b k) (edges_to b k) w nw sends))

  gathers_less : (i k : ℕ) → k < b.nodes → gathering b i k ≤ gathered b chase i k
  unfolding gathering
  gathers_less i k nk = by_test (any_below b.nodes (sends_third b i k))
    where
      by_test : (v : Bool)
          → cond v (least_chase b k * (10 * drift b i k + ((b.lengths i).sjw * b.longest i - jump b k))) 0
          ≤ cond v (chase k * (10 * drift b i k + ((b.lengths i).sjw * b.longest i - jump b k))) 0
      by_test true = mul-le-mul_right (10 * drift b i k + ((b.lengths i).sjw * b.longest i - jump b k)) (least k nk)
      by_test false = omega arith

  left_less : (i : ℕ) → left_over b (gathering b) i ≤ left_over b (gathered b chase) i
  unfolding left_over beyond_jump
  left_less i = with_tick (beyond_jump b (gathering b) i) (beyond_jump b (gathered b chase) i) b.tick beyond_less
    where
      with_tick : (m n t : ℕ) → m ≤ n → cond (m == 0) 0 (m + t) ≤ cond (n == 0) 0 (n + t)
      with_tick zero n t h = omega arith
      with_tick (suc m) zero t h = absurd (omega arith)
      with_tick (suc m) (suc n) t h = rw (ne_eqb (suc m) 0 (λ e. cc)) (rw (ne_eqb (suc n) 0 (λ e. cc)) (omega arith))

      beyond_less : beyond_jump b (gathering b) i ≤ beyond_jump b (gathered b chase) i
      beyond_less =
          bounded b.nodes (λ k. not (k == i)) (λ k. 10 * drift b i k + look b k + gathering b i k - jump b i)
          (greatest b.nodes (λ k. not (k == i)) (λ k. 10 * drift b i k + look b k + gathered b chase i k - jump b i))
          (λ k nk other. (let less = gathers_less i k nk in
          let each = greatest_each b.nodes (λ k. not (k == i)) (λ k. 10 * drift b i k + look b k + gathered b chase i k - jump b i) k nk other in
          omega arith))

  pair : (i k : ℕ) → i < b.nodes → k < b.nodes → not (k == i) ≡ true → have_room b i k ≡ true
  pair i k ni nk other =
      let apart : i ≢ k = λ e. eqb-false k i (not-true (k == i) other) (sym e) in
      let early = gathers_less i k nk in
      let late = gathers_less k i ni in
      let mine = left_less i in
      let theirs = left_less k in
      let there = has.bit_is_there_at_sample i k ni nk apart in
      let rest = rests i k ni nk apart in
      and_from _ _ (le-leb (10 * drift b k i) (jump b i) (has.drift_fits_both i k ni nk apart))
      (and_from _ _ (le-leb (b.delay i k + b.delay k i + comes_early b k i + 10 * drift b k i) (sample_at (b.lengths i) * b.shortest i) (omega arith))
      (le-leb (comes_early b i k + 12 * drift b i k + b.tick) ((b.lengths i).ps2 * b.shortest i) (omega arith)))

  none_lacks : any_below b.nodes (lacks_room b) ≡ false
  none_lacks =
      any_none b.nodes (lacks_room b)
      (λ i ni. or_from _ _ (not_from_true _ (le-leb _ _ (has.loop_is_there i ni)))
      (or_from _ _
      (any_none b.nodes (falls_behind b i) (λ w nw. never (sends_but b i w) (catches b i w) (λ sends. catches_up i w ni nw sends)))
      (any_none b.nodes (is_crowded b i) (λ k nk. never (not (k == i)) (have_room b i k) (λ other. pair i k ni nk other)))))

pub passes : (f : Buses) (chase : ℕ → ℕ) → IsShort f → HasRoomToAnswer (plain_bus f) chase → LeavesRoomToRest (plain_bus f) chase → leaves_room f ≡ true
passes f chase short has rests =
    let none_long : any_below (length f.members) (has_long_quantum (plain_bus f)) ≡ false =
    any_none (length f.members) (has_long_quantum (plain_bus f)) (λ i ni. or_from _ _ (lt-leb _ _ (short i ni).0) (lt-leb _ _ (short i ni).1)) in
    and_from _ _ (not_from_false _ none_long) (not_from_false _ (none_lacks (plain_bus f) chase has rests))
