-- Times in parts of a unit: the inequalities hold of them if they do in units.
use Rattle.std.proofs.Common.{◌≡◌, sym, subst, ℕ, zero, suc, ◌+◌, ◌-◌, ◌*◌, ◌/◌, ◌<◌, ◌≤◌, cond, Bool, true, false, arith}
use Rattle.std.specs.Prelude.{◌==◌}
use Rattle.std.proofs.Math.Nat.{div-lt_iff_lt-mul, lt-div-mul-add, mul-le-mul_left, mul-le-mul_right}
use Rattle.wl_counts.specs.Counts.{one_if, periods_in, sum_below}
use Rattle.wl_counts.specs.Instances.{AreEnoughByInstances, instance_share}
use Rattle.wl_counts.specs.Waits.{share}
use Rattle.wl_buses.specs.BoundedWaits.QueuedFrames.{BlockNoLonger, Terms, early_by, table_by}

abbrev pub scaled : (parts : ℕ) → Terms → Terms
scaled d t = record {
  messages = t.messages;
  node = t.node;
  cost = λ e. t.cost e * d;
  tail = λ e. t.tail e * d;
  period = λ e. t.period e * d;
  joins = t.joins;
  mixed = t.mixed;
  lead = t.lead * d;
  wake = t.wake * d;
}

-- ceil is the same of both
covered : (x p : ℕ) → 0 < p → x ≤ periods_in x p * p
covered x p some = (let h : x + (p - 1) < (x + (p - 1)) / p * p + p = lt-div-mul-add some in omega arith)

fewer : (x p c : ℕ) → 0 < p → x ≤ c * p → periods_in x p ≤ c
fewer x p c some low =
    let h : (x + (p - 1)) / p < suc c = (div-lt_iff_lt-mul some).1 (let e : suc c * p ≡ c * p + p = omega arith in omega arith) in
    omega arith

same_count : (x p d : ℕ) → 0 < p → 0 < d → periods_in (x * d) (p * d) ≤ periods_in x p
same_count x p d some parts =
    let c : x ≤ periods_in x p * p = covered x p some in
    let m : x * d ≤ (periods_in x p * p) * d = mul-le-mul_right d c in
    let e : (periods_in x p * p) * d ≡ periods_in x p * (p * d) = omega arith in
    let pd : 1 * 1 ≤ p * d = (let a : p * 1 ≤ p * d = mul-le-mul_left p (let h : 1 ≤ d = omega arith in h) in omega arith) in
    fewer (x * d) (p * d) (periods_in x p) (omega arith) (omega arith)

pub scaled_sum : (f g : ℕ → ℕ) (d n : ℕ) → ((k : ℕ) → k < n → f k ≤ g k * d) → sum_below f n ≤ sum_below g n * d
scaled_sum f g d zero h = omega arith
scaled_sum f g d (suc n) h = (let old = scaled_sum f g d n (λ k below. h k (omega arith)) in let new = h n (omega arith) in omega arith)

module _ (t : Terms) (blocking r : ℕ → ℕ) (d : ℕ) (parts : 0 < d) (positive : (e : ℕ) → 0 < t.period e) where
  abbrev pub in_parts : (ℕ → ℕ) → ℕ → ℕ
  in_parts f e = f e * d

  early_by_case : (m e : ℕ) (b : Bool) → t.lead * d + cond b (r e * d) 0 ≡ (t.lead + cond b (r e) 0) * d
  early_by_case m e true = omega arith
  early_by_case m e false = omega arith

  early_is : (m e : ℕ) → early_by (scaled d t) (in_parts r) m e ≡ early_by t r m e * d
  early_is m e = early_by_case m e (t.mixed m (t.node e))

  most_less : (m e width : ℕ) → periods_in (early_by (scaled d t) (in_parts r) m e + width * d) (t.period e * d) ≤ periods_in (early_by t r m e + width) (t.period e)
  most_less m e width =
      let early = early_is m e in
      let sum : early_by (scaled d t) (in_parts r) m e + width * d ≡ (early_by t r m e + width) * d = omega arith in
      subst (λ x. periods_in x (t.period e * d) ≤ periods_in (early_by t r m e + width) (t.period e)) (sym sum) (same_count (early_by t r m e + width) (t.period e) d (positive e) parts)

  share_less : (m e width : ℕ) → share (table_by (scaled d t) (in_parts blocking) (in_parts r)) m (width * d) e ≤ share (table_by t blocking r) m width e
  share_less m e width = mul-le-mul_left (one_if (t.joins m e)) (most_less m e width)

  instance_less : (m j width e : ℕ) → instance_share (table_by (scaled d t) (in_parts blocking) (in_parts r)) m j (width * d) e ≤ instance_share (table_by t blocking r) m j width e
  instance_less m j width e = by (e == m)
    where
      by : (b : Bool) → cond b j (share (table_by (scaled d t) (in_parts blocking) (in_parts r)) m (width * d) e) ≤ cond b j (share (table_by t blocking r) m width e)
      by true = omega arith
      by false = share_less m e width

  -- costs that are no more, in parts
  costs_less : (f g : ℕ → ℕ) → ((e : ℕ) → f e ≤ g e) → sum_below (λ e. f e * (t.cost e * d)) t.messages ≤ sum_below (λ e. g e * t.cost e) t.messages * d
  costs_less f g fewer =
      scaled_sum (λ e. f e * (t.cost e * d)) (λ e. g e * t.cost e) d t.messages
      (λ e below. (let m : f e * (t.cost e * d) ≤ g e * (t.cost e * d) = mul-le-mul_right (t.cost e * d) (fewer e) in omega arith))

  pub enough_in_parts : (whole : ℕ → ℕ) (w : ℕ → ℕ → ℕ) → AreEnoughByInstances (table_by t blocking r) t.period whole w r
      → AreEnoughByInstances (table_by (scaled d t) (in_parts blocking) (in_parts r)) (scaled d t).period (in_parts whole) (λ m j. w m j * d) (in_parts r)
  enough_in_parts whole w enough = record {
    all = λ m known.
        (let h : blocking m + sum_below (λ e. share (table_by t blocking r) m (whole m) e * t.cost e) t.messages ≤ whole m = enough.all m known in
        let up = costs_less (share (table_by (scaled d t) (in_parts blocking) (in_parts r)) m (whole m * d)) (share (table_by t blocking r) m (whole m)) (λ e. share_less m e (whole m)) in
        let all : (blocking m + sum_below (λ e. share (table_by t blocking r) m (whole m) e * t.cost e) t.messages) * d ≤ whole m * d = mul-le-mul_right d h in
        omega arith);
    window = λ m j known few.
        (let fewer = most_less m m (whole m) in
        let h : blocking m + sum_below (λ e. instance_share (table_by t blocking r) m j (w m j) e * t.cost e) t.messages ≤ w m j = enough.window m j known (omega arith) in
        let up =
        costs_less (instance_share (table_by (scaled d t) (in_parts blocking) (in_parts r)) m j (w m j * d)) (instance_share (table_by t blocking r) m j (w m j)) (instance_less m j (w m j)) in
        let all : (blocking m + sum_below (λ e. instance_share (table_by t blocking r) m j (w m j) e * t.cost e) t.messages) * d ≤ w m j * d = mul-le-mul_right d h in
        omega arith);
    wait = λ m j known few.
        (let fewer = most_less m m (whole m) in
        let h : early_by t r m m + w m j + t.tail m ≤ r m + j * t.period m = enough.wait m j known (omega arith) in
        let all : (early_by t r m m + w m j + t.tail m) * d ≤ (r m + j * t.period m) * d = mul-le-mul_right d h in
        let early = early_is m m in
        omega arith);
  }

  pub blocks_in_parts : BlockNoLonger t blocking → BlockNoLonger (scaled d t) (in_parts blocking)
  blocks_in_parts blocks = record {
    lesser = λ m e known there none. mul-le-mul_right d (blocks.lesser m e known there none);
    wakes = λ m known. mul-le-mul_right d (blocks.wakes m known);
  }
