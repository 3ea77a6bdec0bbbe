-- From the condition for margins to the inequalities on clocks.
use Rattle.std.proofs.Common.{◌≡◌, ◌≢◌, ◌∙◌, inl, inr, refl, sym, ap, ℕ, ◌+◌, ◌-◌, ◌*◌, ◌<◌, ◌≤◌, min, true, cond, not, ◌&&◌, arith}
use Rattle.std.specs.Prelude.{◌==◌, nat_lt}
use Rattle.std.proofs.lemmas.Bool.{cases_eq, and_from, and_left, eq-eqb, lt-ltb, ne_eqb}
use Rattle.std.proofs.Math.Nat.{mul-le-mul_left, mul-le-mul_right}
use Rattle.wl_segments.specs.Lengths.{sample_at, bit_quanta}
use Rattle.wl_bound.specs.Families.{Bus}
use Rattle.wl_bound.specs.Terms.{is_third, sends_but}
use Rattle.wl_bound.specs.Terms.{ahead, drift, jump, late, look, pulled, strays, trip, way}
use Rattle.wl_bound.specs.Conditions.{IsSound}
use Rattle.wl_bound.specs.Conditions.{left_of, right_of}
use Rattle.wl_buses.specs.OneSender.OneSender.{SenderBus, IsBus, IsListener, lengths_of}
use Rattle.wl_buses.specs.OneSender.Tolerances.{Tolerance, FitClocks, longer_bit}
use Rattle.wl_buses.specs.OneSender.Bounds.{IsBoundOf}
use Rattle.wl_buses.proofs.BothProofs.Small.{greatest_each, or_not}

module _ (bus : Bus) (t : Tolerance) (b : SenderBus) (is : IsBus b) (of : IsBoundOf bus t b) (sound : IsSound bus) where
  abbrev a : ℕ
  a = b.sender

  drift_is : (i j : ℕ) → drift bus i j ≡ longer_bit t b i j
  unfolding drift
  drift_is i j =
      ap (λ l. bit_quanta l * bus.longest i - bit_quanta (bus.lengths j) * bus.shortest j) (of.lengths i)
      ∙ ap (λ l. bit_quanta (lengths_of b i) * bus.longest i - bit_quanta l * bus.shortest j) (of.lengths j)
      ∙ ap (λ n. bit_quanta (lengths_of b i) * n - bit_quanta (lengths_of b j) * bus.shortest j) (of.longest i)
      ∙ ap (λ n. bit_quanta (lengths_of b i) * t.longest i - bit_quanta (lengths_of b j) * n) (of.shortest j)

  jump_is : (i : ℕ) → jump bus i ≡ (lengths_of b i).sjw * t.shortest i
  unfolding jump
  jump_is i = ap (λ l. l.sjw * bus.shortest i) (of.lengths i) ∙ ap (λ n. (lengths_of b i).sjw * n) (of.shortest i)

  inside : (i : ℕ) → i < b.line.nodes → i < bus.nodes
  inside i h = let e = of.nodes in omega arith

  drifts : (i j : ℕ) → i < b.line.nodes → j < b.line.nodes → i ≢ j
      → (10 * longer_bit t b i j ≤ (lengths_of b i).sjw * t.shortest i) × (10 * longer_bit t b i j ≤ (lengths_of b j).sjw * t.shortest j)
  unfolding left_of right_of
  drifts i j ni nj apart =
      let h : 10 * drift bus i j + pulled bus i j ≤ min (jump bus i) (jump bus j) = sound.drift_fits_jump i j (inside i ni) (inside j nj)
      (and_from (not (i == j)) (not (bus.listens i && bus.listens j)) (ap not (ne_eqb i j apart)) (ap not (and_left (bus.listens i) (bus.listens j) (of.answers i ni)))) in
      let d = drift_is i j in
      let x = jump_is i in
      let y = jump_is j in
      (omega arith, omega arith)

  sample_is : (i : ℕ) → sample_at (bus.lengths i) * bus.shortest i ≡ sample_at (lengths_of b i) * t.shortest i
  sample_is i = ap (λ l. sample_at l * bus.shortest i) (of.lengths i) ∙ ap (λ n. sample_at (lengths_of b i) * n) (of.shortest i)

  ps2_is : (i : ℕ) → (bus.lengths i).ps2 * bus.shortest i ≡ (lengths_of b i).ps2 * t.shortest i
  ps2_is i = ap (λ l. l.ps2 * bus.shortest i) (of.lengths i) ∙ ap (λ n. (lengths_of b i).ps2 * n) (of.shortest i)

  early : (i j : ℕ) → i < b.line.nodes → j < b.line.nodes → i ≢ j → 10 * longer_bit t b i j + t.units ≤ (lengths_of b i).ps2 * t.shortest i
  unfolding left_of right_of
  early i j ni nj apart =
      let h = sound.no_bit_too_early i j (inside i ni) (inside j nj) (and_from (not (i == j)) (not (bus.listens j)) (ap not (ne_eqb i j apart)) (ap not (of.answers j nj))) in
      let d = drift_is i j in
      let x = ps2_is i in
      let e = of.tick in
      omega arith

  look_is : (i : ℕ) → i < b.line.nodes → t.longest i + t.units ≤ look bus i + b.line.delay i i * t.units
  unfolding look
  look_is i ni =
      let d = of.delays i i ni ni in
      let h = of.longest i in
      let e = of.tick in
      omega arith

  early_look : (i j : ℕ) → i < b.line.nodes → j < b.line.nodes → i ≢ j
      → t.longest j + 2 * t.units + 10 * longer_bit t b i j ≤ (lengths_of b i).ps2 * t.shortest i + b.line.delay j j * t.units
  unfolding left_of right_of
  early_look i j ni nj apart =
      let h = sound.no_bit_too_early i j (inside i ni) (inside j nj) (and_from (not (i == j)) (not (bus.listens j)) (ap not (ne_eqb i j apart)) (ap not (of.answers j nj))) in
      let d = drift_is i j in
      let x = ps2_is i in
      let e = of.tick in
      let l = look_is j nj in
      omega arith

  -- in units
  loops_less : (i j k : ℕ) → i < b.line.nodes → j < b.line.nodes → k < b.line.nodes
      → b.line.delay i k * t.units + b.line.delay j j * t.units ≤ (b.line.delay i j + b.line.delay j k) * t.units
  loops_less i j k ni nj nk =
      let h : (b.line.delay i k + b.line.delay j j) * t.units ≤ (b.line.delay i j + b.line.delay j k) * t.units = mul-le-mul_right t.units (of.loops i j k ni nj nk) in
      let e : (b.line.delay i k + b.line.delay j j) * t.units ≡ b.line.delay i k * t.units + b.line.delay j j * t.units = omega arith in
      omega arith

  loop : (i : ℕ) → i < b.line.nodes → b.line.delay i i * t.units ≤ sample_at (lengths_of b i) * t.shortest i
  unfolding left_of right_of
  loop i ni =
      let h : cond (i == i) (bus.delay i i + bus.turns i) (late bus i i + 11 * strays bus i + ahead bus i) ≤ sample_at (bus.lengths i) * bus.shortest i = sound.bit_is_there_at_sample i i (inside i ni) (inside i ni)
      (or_not (i == i) (bus.listens i) (of.answers i ni)) in
      let e = ap (λ c. cond c (bus.delay i i + bus.turns i) (late bus i i + 11 * strays bus i + ahead bus i)) (eq-eqb i i refl) in
      let d = of.delays i i ni ni in
      let x = sample_is i in
      omega arith

  trip_there : (j : ℕ) → bus.delay a j + bus.delay j a ≤ trip bus a j a
  unfolding trip
  trip_there j =
      let e : trip bus a j a ≡ bus.delay a j + bus.delay j a + cond (nat_lt 2 bus.nodes) (look bus a) 0 =
      ap (λ c. cond c (bus.delay a j + bus.delay j a + cond (nat_lt 2 bus.nodes) (look bus a) 0) (bus.delay a j + bus.delay j a + bus.longest a + bus.tick - bus.delay a a)) (eq-eqb a a refl) in
      omega arith

  way_there : (j : ℕ) → IsListener b j → trip bus a j a ≤ late bus a j
  unfolding late way
  way_there j p =
      let sends : sends_but bus j a ≡ true = and_from (bus.sends a) (not (a == j)) (of.alone a ∙ eq-eqb a a refl) (ap not (ne_eqb a j (λ e. p.1 (sym e)))) in
      let h = greatest_each bus.nodes (sends_but bus j) (trip bus a j) a (inside a is.sender) sends in
      omega arith

  -- a bit of j at another node w, by the edges of the sender that both follow
  way_others : (w j : ℕ) → j < b.line.nodes → j ≢ a → trip bus w j a ≤ late bus w j
  unfolding late way
  way_others w j nj apart =
      let sends : sends_but bus j a ≡ true = and_from (bus.sends a) (not (a == j)) (of.alone a ∙ eq-eqb a a refl) (ap not (ne_eqb a j (λ e. apart (sym e)))) in
      let h = greatest_each bus.nodes (sends_but bus j) (trip bus w j) a (inside a is.sender) sends in
      omega arith

  trip_over : (w j : ℕ) → w ≢ a → bus.delay a j + bus.delay j w + bus.longest w + bus.tick ≤ trip bus w j a + bus.delay a w
  unfolding trip
  trip_over w j apart =
      let e : trip bus w j a ≡ bus.delay a j + bus.delay j w + bus.longest w + bus.tick - bus.delay a w =
      ap (λ c. cond c (bus.delay w j + bus.delay j w + cond (nat_lt 2 bus.nodes) (look bus w) 0) (bus.delay a j + bus.delay j w + bus.longest w + bus.tick - bus.delay a w)) (ne_eqb a w (λ e. apart (sym e))) in
      omega arith

  strays_by : (j w : ℕ) → w < b.line.nodes → w ≢ j → longer_bit t b j w ≤ strays bus j
  unfolding strays
  strays_by j w nw apart =
      let h = greatest_each bus.nodes (λ w. not (w == j)) (λ w. drift bus j w) w (inside w nw) (ap not (ne_eqb w j apart)) in
      let d = drift_is j w in
      omega arith

  in_time : (w j : ℕ) → w < b.line.nodes → j < b.line.nodes → w ≢ j → late bus w j + 11 * strays bus j ≤ sample_at (lengths_of b w) * t.shortest w
  unfolding left_of right_of
  in_time w j nw nj apart =
      let h : cond (w == j) (bus.delay w w + bus.turns w) (late bus w j + 11 * strays bus j + ahead bus j) ≤ sample_at (bus.lengths w) * bus.shortest w =
      sound.bit_is_there_at_sample w j (inside w nw) (inside j nj) (or_not (w == j) (bus.listens j) (of.answers j nj)) in
      let e = ap (λ c. cond c (bus.delay w w + bus.turns w) (late bus w j + 11 * strays bus j + ahead bus j)) (ne_eqb w j apart) in
      let z = sample_is w in
      omega arith

  -- with the look of a third node
  way_third : (w j i : ℕ) → j < b.line.nodes → j ≢ a → i < b.line.nodes → i ≢ w → i ≢ j → trip bus w j a + look bus i ≤ late bus w j
  unfolding late way
  way_third w j i nj apart ni not_w not_j =
      let sends : sends_but bus j a ≡ true = and_from (bus.sends a) (not (a == j)) (of.alone a ∙ eq-eqb a a refl) (ap not (ne_eqb a j (λ e. apart (sym e)))) in
      let h = greatest_each bus.nodes (sends_but bus j) (trip bus w j) a (inside a is.sender) sends in
      let third : is_third w j i ≡ true = and_from (not (i == w)) (not (i == j)) (ap not (ne_eqb i w not_w)) (ap not (ne_eqb i j not_j)) in
      let g = greatest_each bus.nodes (is_third w j) (look bus) i (inside i ni) third in
      omega arith

  trip_back : (j : ℕ) → 2 < bus.nodes → bus.delay a j + bus.delay j a + look bus a ≤ trip bus a j a
  unfolding trip
  trip_back j many =
      let e : trip bus a j a ≡ bus.delay a j + bus.delay j a + cond (nat_lt 2 bus.nodes) (look bus a) 0 =
      ap (λ c. cond c (bus.delay a j + bus.delay j a + cond (nat_lt 2 bus.nodes) (look bus a) 0) (bus.delay a j + bus.delay j a + bus.longest a + bus.tick - bus.delay a a)) (eq-eqb a a refl) in
      let f : cond (nat_lt 2 bus.nodes) (look bus a) 0 ≡ look bus a = ap (λ c. cond c (look bus a) 0) (lt-ltb 2 bus.nodes many) in
      omega arith

  -- the acknowledgement of j is over at a node that the one of i has moved
  moved : (i j w : ℕ) → (p : IsListener b i) → (q : IsListener b j) → i ≢ j → w < b.line.nodes → w ≢ i → w ≢ j
      → 10 * longer_bit t b j i + longer_bit t b j w + (b.line.delay a j + b.line.delay j w) * t.units + t.longest i + 2 * t.units + t.longest w
      ≤ (b.line.delay a i + b.line.delay i w) * t.units + sample_at (lengths_of b w) * t.shortest w
  moved i j w p q apart there not_i not_j =
      let h = in_time w j there q.0 not_j in
      let third = way_third w j i q.0 q.1 p.0 (λ e. not_i (sym e)) apart in
      let x = strays_by j i p.0 apart in
      let y = strays_by j w there not_j in
      let l = look_is i p.0 in
      let m = look_is w there in
      let loops = loops_less a i w is.sender p.0 there in
      let d = of.delays a j is.sender q.0 in
      let g = of.delays j w q.0 there in
      let k = of.delays a w is.sender there in
      let lw = of.longest w in
      let e = of.tick in
      let sum : (b.line.delay a j + b.line.delay j w) * t.units ≡ b.line.delay a j * t.units + b.line.delay j w * t.units = omega arith in
      elim (cases_eq w a) [
        | inl here ↦
            (let n = of.nodes in
            let p1 = p.1 in
            let q1 = q.1 in
            let p0 = p.0 in
            let q0 = q.0 in
            let s0 = is.sender in
            let many : 2 < bus.nodes = omega arith in
            let back = trip_back j many in
            let f : trip bus w j a ≡ trip bus a j a = ap (λ n. trip bus n j a) here in
            let v : bus.delay j w ≡ bus.delay j a = ap (bus.delay j) here in
            let o : look bus w ≡ look bus a = ap (look bus) here in
            let z : b.line.delay w w ≡ b.line.delay a w = ap (λ n. b.line.delay n w) here in
            let zz : b.line.delay w w * t.units ≡ b.line.delay a w * t.units = ap (λ n. n * t.units) z in
            omega arith)
        | inr other ↦ (let over = trip_over w j other in omega arith)
      ]

  -- the acknowledgement of i is over at j
  over : (i j : ℕ) → (p : IsListener b i) → (q : IsListener b j) → i ≢ j
      → t.longest j + t.units + 11 * longer_bit t b i j + (b.line.delay a i + b.line.delay i j) * t.units ≤ sample_at (lengths_of b j) * t.shortest j + b.line.delay a j * t.units
  over i j p q apart =
      let h = in_time j i q.0 p.0 (λ e. apart (sym e)) in
      let x = trip_over j i q.1 in
      let w = way_others j i p.0 p.1 in
      let s = strays_by i j q.0 (λ e. apart (sym e)) in
      let d = of.delays a i is.sender p.0 in
      let g = of.delays i j p.0 q.0 in
      let k = of.delays a j is.sender q.0 in
      let l = of.longest j in
      let e = of.tick in
      let sum : (b.line.delay a i + b.line.delay i j) * t.units ≡ b.line.delay a i * t.units + b.line.delay i j * t.units = omega arith in
      omega arith

  strays_there : (j : ℕ) → IsListener b j → longer_bit t b j a ≤ strays bus j
  unfolding strays
  strays_there j p =
      let h = greatest_each bus.nodes (λ w. not (w == j)) (λ w. drift bus j w) a (inside a is.sender) (ap not (ne_eqb a j (λ e. p.1 (sym e)))) in
      let d = drift_is j a in
      omega arith

  there : (j : ℕ) → IsListener b j → (b.line.delay a j + b.line.delay j a) * t.units + 11 * longer_bit t b j a ≤ sample_at (lengths_of b a) * t.shortest a
  unfolding left_of right_of
  there j p =
      let h : cond (a == j) (bus.delay a a + bus.turns a) (late bus a j + 11 * strays bus j + ahead bus j) ≤ sample_at (bus.lengths a) * bus.shortest a =
      sound.bit_is_there_at_sample a j (inside a is.sender) (inside j p.0) (or_not (a == j) (bus.listens j) (of.answers j p.0)) in
      let e = ap (λ c. cond c (bus.delay a a + bus.turns a) (late bus a j + 11 * strays bus j + ahead bus j)) (ne_eqb a j (λ e. p.1 (sym e))) in
      let x = trip_there j in
      let w = way_there j p in
      let s = strays_there j p in
      let d = of.delays a j is.sender p.0 in
      let g = of.delays j a p.0 is.sender in
      let z = sample_is a in
      let sum : (b.line.delay a j + b.line.delay j a) * t.units ≡ b.line.delay a j * t.units + b.line.delay j a * t.units = omega arith in
      omega arith

  pub clocks_fit : FitClocks t b
  clocks_fit = record {
    slow = λ j p. (let d = drifts a j is.sender p.0 (λ e. p.1 (sym e)) in let x = d.1 in omega arith);
    fast = λ j p.
        (let d = drifts j a p.0 is.sender p.1 in
        let x = d.0 in
        let more : (lengths_of b j).sjw * t.shortest j ≤ (lengths_of b j).sjw * t.longest j = mul-le-mul_left (lengths_of b j).sjw (of.order j p.0) in
        omega arith);
    sample = λ j p.
        (let x = early j a p.0 is.sender p.1 in
        let more : (lengths_of b j).ps2 * t.shortest j ≤ (lengths_of b j).ps2 * t.longest j = mul-le-mul_left (lengths_of b j).ps2 (of.order j p.0) in
        omega arith);
    jump = λ j p.
        (let d = drifts a j is.sender p.0 (λ e. p.1 (sym e)) in
        let x = d.0 in
        let more : (lengths_of b a).sjw * t.shortest a ≤ (lengths_of b a).sjw * t.longest a = mul-le-mul_left (lengths_of b a).sjw (of.order a is.sender) in
        omega arith);
    loops = λ j p. loop j p.0;
    after_sample = λ j p.
        (let x = early_look a j is.sender p.0 (λ e. p.1 (sym e)) in
        let w = loops_less a j a is.sender p.0 is.sender in
        omega arith);
    apart = λ i j p q apart.
        (let x = early_look j i q.0 p.0 (λ e. apart (sym e)) in
        let w = loops_less a i j is.sender p.0 q.0 in
        omega arith);
    ends_there = there;
    ends = over;
    lasts = λ i j p q apart. early j i q.0 p.0 (λ e. apart (sym e));
    jumps = λ i j p q apart. (drifts j i q.0 p.0 (λ e. apart (sym e))).0;
    moved = moved;
  }
