-- An early acknowledgement moves a node that finds it: it lasts until the sample that it moves, and all are over by the one after it.
use Rattle.std.proofs.Common.{◌≡◌, inl, inr, ap, ℕ, suc, ◌+◌, ◌-◌, ◌*◌, ◌<◌, ◌≤◌, arith}
use Rattle.std.proofs.lemmas.Bool.{cases_lt}
use Rattle.std.proofs.Math.Nat.{mul-le-mul_left, lt_of_mul-lt-mul_left}
use Rattle.wl_segments.specs.Lengths.{Lengths, sample_at, bit_quanta}
use Rattle.wl_sync.specs.declared.Seen.{Seen}
use Rattle.wl_phase.specs.Clocks.{Steady, steady_tick, instant}
use Rattle.wl_phase.specs.Ways.{ByTheBook, moved_to}
use Rattle.wl_phase.specs.InStep.{Sender, Listener, SamplesBit, quantum_parts, tick_parts}
use Rattle.wl_phase.specs.Answer.{ComesAfterSample, FindsEarly, FitsBit, answer_begin, answer_end, longer_parts}
use Rattle.wl_phase.proofs.Floors.{floor_low, floor_high}
use Rattle.wl_phase.proofs.Hearing.{finder, tick_up}
use Rattle.wl_phase.proofs.Others.{after_each, first_from, second_by}
use Rattle.wl_phase.proofs.Sharing.{drift_shared}

-- n quanta of a clock, in o times its parts of a tick
module _ (c : Steady) (o k n : ℕ) (d : 0 < c.den) where
  pub lasts_most : o * (c.den * steady_tick c (k + n)) + o ≤ o * (c.den * steady_tick c k) + o * c.den + o * (n * c.num)
  lasts_most =
      let low = floor_low c (k + n) in
      let high = floor_high c k d in
      let more : instant c (k + n) ≡ instant c k + n * c.num = omega arith in
      let all : suc (c.den * steady_tick c (k + n)) ≤ c.den * steady_tick c k + c.den + n * c.num = omega arith in
      let times : o * suc (c.den * steady_tick c (k + n)) ≤ o * (c.den * steady_tick c k + c.den + n * c.num) = mul-le-mul_left o all in
      omega arith

  pub lasts_least : o * (c.den * steady_tick c k) + o * (n * c.num) + o ≤ o * (c.den * steady_tick c (k + n)) + o * c.den
  lasts_least =
      let low = floor_low c k in
      let high = floor_high c (k + n) d in
      let more : instant c (k + n) ≡ instant c k + n * c.num = omega arith in
      let all : suc (c.den * steady_tick c k + n * c.num) ≤ c.den * steady_tick c (k + n) + c.den = omega arith in
      let times : o * suc (c.den * steady_tick c k + n * c.num) ≤ o * (c.den * steady_tick c (k + n) + c.den) = mul-le-mul_left o all in
      omega arith

-- where the sample moves to that an early edge moves
near_most : (s j w x m : ℕ) → x ≤ m + moved_to (s - 1) j w → 1 ≤ s → w ≤ s - 1 + j → x ≤ m + (s - 1)
near_most s j w x m h some near = omega arith

far_most : (s j w x m : ℕ) → x ≤ m + moved_to (s - 1) j w → s - 1 + j < w → x + j ≤ m + w
far_most s j w x m h far = omega arith

module _ (i : Listener) (c : Steady) (l : Lengths) (between k : ℕ) (di : 0 < i.clock.den) (dc : 0 < c.den) (fits : FitsBit i c l) where
  -- it lasts as long as the node takes to its sample
  pub until : (x m : ℕ) → steady_tick c m < answer_begin i between k → x ≤ m + sample_at l → steady_tick c x < answer_end i between k
  until x m before up_to =
      let rise = tick_up c dc x (m + sample_at l) up_to in
      let most = lasts_most c i.clock.den m (sample_at l) dc in
      let least = lasts_least i.clock c.den (k + i.lengths.ps2) (bit_quanta i.lengths) di in
      let h = fits.until in
      let begin : i.clock.den * c.den * suc (steady_tick c m) ≤ i.clock.den * c.den * (steady_tick i.clock (k + i.lengths.ps2) + between) = mul-le-mul_left (i.clock.den * c.den) before in
      let up : i.clock.den * c.den * steady_tick c x ≤ i.clock.den * c.den * steady_tick c (m + sample_at l) = mul-le-mul_left (i.clock.den * c.den) rise in
      let all : i.clock.den * c.den * steady_tick c x < i.clock.den * c.den * (steady_tick i.clock (k + i.lengths.ps2 + bit_quanta i.lengths) + between) = omega arith in
      lt_of_mul-lt-mul_left (i.clock.den * c.den) all

  -- and is over by the sample after that
  pub over : (x : ℕ) → answer_begin i between k ≤ steady_tick c x → answer_end i between k ≤ steady_tick c (x + (sample_at l - 1) + bit_quanta l)
  over x begun =
      let e : x + (sample_at l - 1 + bit_quanta l) ≡ x + (sample_at l - 1) + bit_quanta l = omega arith in
      let same = ap (steady_tick c) e in
      let most = lasts_most i.clock c.den (k + i.lengths.ps2) (bit_quanta i.lengths) di in
      let least = lasts_least c i.clock.den x (sample_at l - 1 + bit_quanta l) dc in
      let h = fits.over in
      let begin : i.clock.den * c.den * (steady_tick i.clock (k + i.lengths.ps2) + between) ≤ i.clock.den * c.den * steady_tick c x = mul-le-mul_left (i.clock.den * c.den) begun in
      let all : i.clock.den * c.den * (steady_tick i.clock (k + i.lengths.ps2 + bit_quanta i.lengths) + between)
      < i.clock.den * c.den * suc (steady_tick c (x + (sample_at l - 1 + bit_quanta l))) = omega arith in
      let less = lt_of_mul-lt-mul_left (i.clock.den * c.den) all in
      omega arith

module _ (s : Sender) (i j : Listener) (seen other_seen : ℕ → Seen) (found other_found between d k n : ℕ)
    (ds : 0 < s.clock.den) (di : 0 < i.clock.den) (dj : 0 < j.clock.den)
    (first : SamplesBit s i seen found d k) (second : SamplesBit s j other_seen other_found d n)
    (book : ByTheBook j.lengths) (apart : ComesAfterSample s i j between) (fits : FitsBit i j.clock j.lengths) where
  abbrev P : ℕ
  P = j.clock.den * (bit_quanta i.lengths * quantum_parts s i)

  abbrev Q : ℕ
  Q = i.clock.den * (bit_quanta j.lengths * quantum_parts s j)

  abbrev M : ℕ
  M = s.clock.den * (i.clock.den * j.clock.den)

  -- until the sample that the jump width moves
  until_far : (x : ℕ) → x + j.lengths.sjw ≤ n + bit_quanta j.lengths → steady_tick j.clock x < answer_end i between k
  until_far x far =
      let few = book.lengths.sjw_half in
      let many = book.lengths.low in
      let rise = tick_up j.clock dj x (n + (bit_quanta j.lengths - j.lengths.sjw)) (omega arith) in
      let high = second_by s i j seen other_seen found other_found between d k n ds di dj first second (bit_quanta j.lengths - j.lengths.sjw) in
      let low = first_from s i j seen other_seen found other_found between d k n ds di dj first second (i.lengths.ps2 + bit_quanta i.lengths) in
      let here : k + (i.lengths.ps2 + bit_quanta i.lengths) ≡ k + i.lengths.ps2 + bit_quanta i.lengths = omega arith in
      let a = ap (λ m. M * steady_tick i.clock m) here in
      let drift = drift_shared first.since Q P first.few in
      let end : j.clock.den * (sample_at i.lengths * quantum_parts s i) + j.clock.den * ((i.lengths.ps2 + bit_quanta i.lengths) * quantum_parts s i) ≡ 2 * P = omega arith in
      let left : j.clock.den * (quantum_parts s i + 2 * tick_parts s i) + 9 * longer_parts s j i + i.clock.den * (sample_at j.lengths * quantum_parts s j + j.delay * tick_parts s j)
      ≡ j.clock.den * quantum_parts s i + 2 * M + 9 * (Q - P) + i.clock.den * (sample_at j.lengths * quantum_parts s j) + M * j.delay = omega arith in
      let right : j.clock.den * (bit_quanta i.lengths * quantum_parts s i + (i.delay + between) * tick_parts s i) ≡ P + M * i.delay + M * between = omega arith in
      let h = apart in
      let f = fits.far in
      let times : s.clock.den * (bit_quanta j.lengths * (i.clock.den * j.clock.num)) ≤ s.clock.den * (j.clock.den * (bit_quanta i.lengths * i.clock.num) + j.lengths.sjw * (i.clock.den * j.clock.num)) =
      mul-le-mul_left s.clock.den f in
      let bit : bit_quanta j.lengths - j.lengths.sjw + j.lengths.sjw ≡ bit_quanta j.lengths = omega arith in
      let parts : i.clock.den * ((bit_quanta j.lengths - j.lengths.sjw + j.lengths.sjw) * quantum_parts s j) ≡ Q = ap (λ m. i.clock.den * (m * quantum_parts s j)) bit in
      let short : i.clock.den * ((bit_quanta j.lengths - j.lengths.sjw) * quantum_parts s j) ≤ P = omega arith in
      let up : M * steady_tick j.clock x ≤ M * steady_tick j.clock (n + (bit_quanta j.lengths - j.lengths.sjw)) = mul-le-mul_left M rise in
      let all : M * steady_tick j.clock x < M * (steady_tick i.clock (k + i.lengths.ps2 + bit_quanta i.lengths) + between) = omega arith in
      lt_of_mul-lt-mul_left M all

  pub finds_early : answer_begin i between k ≤ steady_tick j.clock (n + j.lengths.ps2)
      → (m : ℕ) × FindsEarly j.lengths j.clock (answer_begin i between k) (answer_end i between k) n m
  finds_early by =
      let after = after_each s i j seen other_seen found other_found between d k n ds di dj first second apart in
      let r = finder j.clock dj j.lengths.ps2 n (answer_begin i between k) after by in
      let prop = book.lengths.prop_low in (
        r.0,
        record {
          after = r.1;
          early = r.2;
          finds = r.3;
          lasts = λ x up_to. elim (cases_lt (sample_at j.lengths - 1 + j.lengths.sjw) (n + bit_quanta j.lengths - r.0)) [
            | inl far ↦ until_far x (let h = far_most (sample_at j.lengths) j.lengths.sjw (n + bit_quanta j.lengths - r.0) x r.0 up_to far in let e = r.2 in omega arith)
            | inr near ↦
                (let h = near_most (sample_at j.lengths) j.lengths.sjw (n + bit_quanta j.lengths - r.0) x r.0 up_to (omega arith) near in
                until i j.clock j.lengths between k di dj fits x (r.0 - 1) (r.3.unseen (r.0 - 1) (let e = r.1 in omega arith)) (let e = r.1 in omega arith))
          ];
        },
      )
