-- A bit with an edge: each station begins it by itself, or by the first edge that reaches it.
use Rattle.std.proofs.Common.{◌≡◌, ◌∙◌, ◌⊎◌, inl, inr, refl, sym, ap, ℕ, zero, suc, ◌+◌, ◌-◌, ◌<◌, ◌≤◌, ◌&&◌, not, max, cond, Bool, true, false, Option, Some, None, arith}
use Rattle.std.specs.Prelude.{◌==◌, nat_le}
use Rattle.std.proofs.lemmas.Bool.{and_from, and_parts, cases_Bool, cases_lt, false_from_ne_true, le-leb, leb-true, lt-leb, ne_eqb}
use Rattle.wl_level.proofs.Callers.{first_cong, first_found, first_is, first_none, none_first}
use Rattle.wl_topology.specs.Driven.{any_below}
use Rattle.wl_topology.proofs.Callers.{any_from, any_one, any_same}
use Rattle.wl_phase.specs.Clocks.{steady_tick}
use Rattle.wl_phase.specs.Ways.{moved_to}
use Rattle.wl_buses.specs.OneFrame.Stations.{AreStations, Stations}
use Rattle.wl_buses.specs.OneFrame.Starts.{BeginBit, BeginsAlone, Drives, FindsFirst, FollowsSoft, Start, reaches_at}
use Rattle.wl_buses.specs.OneFrame.Expected.{edge_start, found_before, from_after, from_found, is_reached, most, place_found, settled}
use Rattle.wl_buses.proofs.OneFrame.Measures.{tick_next}
use Rattle.wl_buses.proofs.BothProofs.Small.{distinct, ticks_up}

pub most_from : (n : ℕ) (f : ℕ → ℕ) (k : ℕ) → k < n → f k ≤ most n f
most_from zero f k less = absurd (omega arith)
most_from (suc n) f k less = elim (cases_lt k n) [
  | inl below ↦ (let e = most_from n f k below in omega arith)
  | inr last ↦ (let e : n ≡ k = omega arith in let h : f n ≡ f k = ap f e in omega arith)
]

-- of some numbers that pass a test, one with the least value
pub record Nearest (n : ℕ) (p : ℕ → Bool) (f : ℕ → ℕ) : Type 0 where
  pub at : ℕ
  pub inside : at < n
  pub passes : p at ≡ true
  pub least : (w : ℕ) → w < n → p w ≡ true → f at ≤ f w

nearest_more : (n : ℕ) (p : ℕ → Bool) (f : ℕ → ℕ) → p n ≡ true → Nearest n p f → Nearest (suc n) p f
nearest_more n p f e x = elim (cases_lt (f n) (f x.at)) [
  | inl less ↦ record {
    at = n;
    inside = omega arith;
    passes = e;
    least = λ w low test. elim (cases_lt w n) [
      | inl below ↦ (let h = x.least w below test in omega arith)
      | inr last ↦ (let same : n ≡ w = omega arith in let h : f n ≡ f w = ap f same in omega arith)
    ];
  }
  | inr more ↦ record {
    at = x.at;
    inside = (let h = x.inside in omega arith);
    passes = x.passes;
    least = λ w low test. elim (cases_lt w n) [
      | inl below ↦ x.least w below test
      | inr last ↦ (let same : n ≡ w = omega arith in let h : f n ≡ f w = ap f same in omega arith)
    ];
  }
]

pub nearest : (n : ℕ) (p : ℕ → Bool) (f : ℕ → ℕ) → any_below n p ≡ true → Nearest n p f
nearest zero p f e = cc
nearest (suc n) p f e = elim (cases_Bool (any_below n p)) [
  | inl some ↦ elim (cases_Bool (p n)) [
    | inl here ↦ nearest_more n p f here (nearest n p f some)
    | inr not_here ↦ (let x = nearest n p f some in
        record {
          at = x.at;
          inside = (let h = x.inside in omega arith);
          passes = x.passes;
          least = λ w low test. elim (cases_lt w n) [
            | inl below ↦ x.least w below test
            | inr last ↦ (let same : n ≡ w = omega arith in let both : p n ≡ true = ap p same ∙ test in cc)
          ];
        })
  ]
  | inr none ↦ (let h = any_one (suc n) p e in
      record {
        at = h.0;
        inside = h.1;
        passes = h.2;
        least = λ w low test. elim (cases_lt w n) [
          | inl below ↦ (let both = any_from n w p below test in cc)
          | inr last ↦ elim (cases_lt h.0 n) [
            | inl below ↦ (let both = any_from n h.0 p below h.2 in cc)
            | inr same ↦ (let i = h.1 in let e : h.0 ≡ w = omega arith in let g : f h.0 ≡ f w = ap f e in omega arith)
          ]
        ];
      })
]

module _ (s : Stations) (are : AreStations s) (drives : ℕ → Bool) (due : ℕ → ℕ) where
  abbrev tick : ℕ → ℕ → ℕ
  tick k q = steady_tick (s.clocks k) q

  -- when two ways to begin are the same before a tick
  abbrev Agree : ℕ → (f g : ℕ → ℕ) → Type 0
  Agree t f g = (x : ℕ) → x < s.count → (tick x (f x) < t → g x ≡ f x) × (tick x (g x) < t → f x ≡ g x)

  swapped : (t : ℕ) (f g : ℕ → ℕ) → Agree t f g → Agree t g f
  swapped t f g a x inside = ((a x inside).1, (a x inside).0)

  le_same : (t : ℕ) (f g : ℕ → ℕ) → Agree t f g → (i k u : ℕ) → i < s.count → k < s.count → u ≤ t
      → nat_le (tick k (f k) + s.delay k i) u ≡ nat_le (tick k (g k) + s.delay k i) u
  le_same t f g a i k u inside there small =
      let later = are.line.later k i there inside in
      elim (cases_lt u (tick k (f k) + s.delay k i)) [
        | inl late ↦ elim (cases_lt u (tick k (g k) + s.delay k i)) [
          | inl also ↦ lt-leb (tick k (f k) + s.delay k i) u late ∙ sym (lt-leb (tick k (g k) + s.delay k i) u also)
          | inr there_g ↦ (let e = (a k there).1 (omega arith) in ap (λ q. nat_le (tick k q + s.delay k i) u) e)
        ]
        | inr there_f ↦ (let e = (a k there).0 (omega arith) in ap (λ q. nat_le (tick k q + s.delay k i) u) (sym e))
      ]

  reached_same : (t : ℕ) (f g : ℕ → ℕ) → Agree t f g → (i q : ℕ) → i < s.count → tick i q ≤ t → is_reached s drives f i q ≡ is_reached s drives g i q
  reached_same t f g a i q inside small =
      any_same s.count (λ k. drives k && (not (k == i) && nat_le (tick k (f k) + s.delay k i) (tick i q)))
      (λ k. drives k && (not (k == i) && nat_le (tick k (g k) + s.delay k i) (tick i q)))
      (λ k there. ap (λ b. drives k && (not (k == i) && b)) (le_same t f g a i k (tick i q) inside there small))

  turn : (ℕ → ℕ) → ℕ → ℕ
  turn f i = from_found s due i (found_before s drives f i (suc (due i)))

  from_low : (i : ℕ) (o : Option ℕ) → ((q : ℕ) → o ≡ Some q → q ≤ due i) → from_found s due i o ≤ due i
  from_low i None h = omega arith
  from_low i (Some q) h = let e = h q refl in omega arith

  found_low : (f : ℕ → ℕ) (i q : ℕ) → found_before s drives f i (suc (due i)) ≡ Some q → q ≤ due i
  found_low f i q e = let x = (first_is (is_reached s drives f i) (suc (due i)) q e).inside in omega arith

  turn_low : (f : ℕ → ℕ) (i : ℕ) → turn f i ≤ due i
  unfolding turn
  turn_low f i = from_low i (found_before s drives f i (suc (due i))) (λ q e. found_low f i q e)

  same_found : (t : ℕ) (f g : ℕ → ℕ) → Agree t f g → (i : ℕ) → i < s.count → (o : Option ℕ) → found_before s drives f i (suc (due i)) ≡ o → tick i (from_found s due i o) ≤ t
      → found_before s drives g i (suc (due i)) ≡ o
  same_found t f g a i inside None e small =
      first_cong (is_reached s drives g i) (is_reached s drives f i) (suc (due i))
      (λ q less. (let up = tick_next s are i inside q (due i) (omega arith) in sym (reached_same t f g a i q inside (omega arith)))) ∙ e
  same_found t f g a i inside (Some q) e small =
      let x = first_is (is_reached s drives f i) (suc (due i)) q e in
      let up = tick_next s are i inside q (from_found s due i (Some q)) (omega arith) in
      first_found (is_reached s drives g i) (suc (due i)) q
      (record {
        inside = x.inside;
        passes = sym (reached_same t f g a i q inside (omega arith)) ∙ x.passes;
        none_before = λ j below. (let down = tick_next s are i inside j q (omega arith) in sym (reached_same t f g a i j inside (omega arith)) ∙ x.none_before j below);
      })

  same_turn : (t : ℕ) (f g : ℕ → ℕ) → Agree t f g → (i : ℕ) → i < s.count → tick i (turn f i) ≤ t → turn g i ≡ turn f i
  unfolding turn
  same_turn t f g a i inside small = ap (from_found s due i) (same_found t f g a i inside (found_before s drives f i (suc (due i))) refl small)

  agree_next : (t : ℕ) (f g : ℕ → ℕ) → Agree t f g → Agree (suc t) (turn f) (turn g)
  agree_next t f g a x inside = ((λ less. same_turn t f g a x inside (omega arith)), (λ less. same_turn t g f (swapped t f g a) x inside (omega arith)))

  abbrev after : ℕ → ℕ → ℕ
  after = from_after s drives due

  rounds : (m : ℕ) → Agree m (after m) (after (suc m))
  unfolding turn
  rounds zero x inside = ((λ less. absurd (omega arith)), (λ less. absurd (omega arith)))
  rounds (suc m) x inside = agree_next m (after m) (after (suc m)) (rounds m) x inside

  pub low : (m i : ℕ) → after m i ≤ due i
  unfolding turn
  low zero i = omega arith
  low (suc m) i = turn_low (after m) i

  abbrev enough : ℕ
  enough = suc (most s.count (λ i. tick i (due i)))

  abbrev from : ℕ → ℕ
  from = settled s drives due

  abbrev pub caught : ℕ → Option ℕ
  caught i = found_before s drives from i (suc (due i))

  pub fixed : (i : ℕ) → i < s.count → from i ≡ from_found s due i (caught i)
  fixed i inside =
      let up = tick_next s are i inside (after enough i) (due i) (low enough i) in
      let bound = most_from s.count (λ k. tick k (due k)) i inside in
      sym ((rounds enough i inside).0 (omega arith))

  -- no other way to begin stays as it is in a round
  stays : (f : ℕ → ℕ) → ((i : ℕ) → i < s.count → turn f i ≡ f i) → (m : ℕ) → Agree m f (after m)
  unfolding turn
  stays f fix zero x inside = ((λ less. absurd (omega arith)), (λ less. absurd (omega arith)))
  stays f fix (suc m) x inside =
      let next = agree_next m f (after m) (stays f fix m) x inside in
      let e = fix x inside in
      let same : tick x (turn f x) ≡ tick x (f x) = ap (tick x) e in ((λ less. next.0 (omega arith) ∙ e), (λ less. sym e ∙ next.1 less))

  pub only_one : (f : ℕ → ℕ) → ((i : ℕ) → i < s.count → from_found s due i (found_before s drives f i (suc (due i))) ≡ f i) → ((i : ℕ) → i < s.count → f i ≤ due i)
      → (i : ℕ) → i < s.count → from i ≡ f i
  unfolding turn
  only_one f fix by_due i inside =
      let up = tick_next s are i inside (f i) (due i) (by_due i inside) in
      let bound = most_from s.count (λ k. tick k (due k)) i inside in
      (stays f fix enough i inside).0 (omega arith)

  abbrev b : Start
  b = edge_start s drives due

  -- who reaches whom
  reached_by : (i k q : ℕ) → Drives s b i k → reaches_at s b k i ≤ tick i q → is_reached s drives from i q ≡ true
  reached_by i k q d h =
      any_from s.count k (λ w. drives w && (not (w == i) && nat_le (tick w (from w) + s.delay w i) (tick i q))) d.inside
      (and_from (drives k) (not (k == i) && nat_le (tick k (from k) + s.delay k i) (tick i q)) d.dominant
      (and_from (not (k == i)) (nat_le (tick k (from k) + s.delay k i) (tick i q)) (ap not (ne_eqb k i d.other)) (le-leb (tick k (from k) + s.delay k i) (tick i q) h)))

  pub reached_from : (i q : ℕ) → is_reached s drives from i q ≡ true → (k : ℕ) × Drives s b i k × (reaches_at s b k i ≤ tick i q)
  reached_from i q e =
      let x = any_one s.count (λ w. drives w && (not (w == i) && nat_le (tick w (from w) + s.delay w i) (tick i q))) e in
      let p = and_parts (drives x.0) (not (x.0 == i) && nat_le (tick x.0 (from x.0) + s.delay x.0 i) (tick i q)) x.2 in
      let r = and_parts (not (x.0 == i)) (nat_le (tick x.0 (from x.0) + s.delay x.0 i) (tick i q)) p.1 in
      (x.0, record { inside = x.1; other = distinct x.0 i r.0; dominant = p.0 }, leb-true (tick x.0 (from x.0) + s.delay x.0 i) (tick i q) r.1)

  unreached : (i k q : ℕ) → Drives s b i k → is_reached s drives from i q ≡ false → tick i q < reaches_at s b k i
  unreached i k q d e = elim (cases_lt (tick i q) (reaches_at s b k i)) [
    | inl less ↦ less
    | inr more ↦ (let f = reached_by i k q d more in cc)
  ]

  -- by whom a station is reached first
  first_by : (i q : ℕ) → is_reached s drives from i q ≡ true → (k : ℕ) × Drives s b i k × ((w : ℕ) → Drives s b i w → reaches_at s b k i ≤ reaches_at s b w i)
  first_by i q e =
      let some = reached_from i q e in
      let x = nearest s.count (λ w. drives w && not (w == i)) (λ w. reaches_at s b w i)
      (any_from s.count some.0 (λ w. drives w && not (w == i)) some.1.inside (and_from (drives some.0) (not (some.0 == i)) some.1.dominant (ap not (ne_eqb some.0 i some.1.other)))) in
      let p = and_parts (drives x.at) (not (x.at == i)) x.passes in (
        x.at,
        record { inside = x.inside; other = distinct x.at i p.1; dominant = p.0 },
        λ w d. x.least w d.inside (and_from (drives w) (not (w == i)) d.dominant (ap not (ne_eqb w i d.other))),
      )

  finds_first : (i q : ℕ) → i < s.count → ((k : ℕ) → Drives s b i k → tick i 0 < reaches_at s b k i) → is_reached s drives from i q ≡ true
      → ((j : ℕ) → j < q → is_reached s drives from i j ≡ false) → (k : ℕ) × FindsFirst s b i k q
  finds_first i q inside early here before =
      let x = first_by i q here in
      let some = reached_from i q here in
      let least = x.2 some.0 some.1 in
      let near = some.2 in
      let later = early x.0 x.1 in (
        x.0,
        record {
          by = x.1;
          later = (let up : q ≡ 0 → tick i q ≡ tick i 0 = λ e. ap (tick i) e in positive q (λ e. (let g = up e in omega arith)));
          finds = record { unseen = λ j below. unreached i x.0 j x.1 (before j below); seen = omega arith };
          first = x.2;
        },
      )
    where
      positive : (q : ℕ) → (q ≡ 0 → ⊥) → 0 < q
      positive zero h = absurd (h refl)
      positive (suc q) h = omega arith

  -- a station that drives the bit dominant
  sender_by : (i : ℕ) → i < s.count → drives i ≡ true → ((k : ℕ) → Drives s b i k → tick i 0 < reaches_at s b k i) → (o : Option ℕ) → caught i ≡ o
      → BeginsAlone s b i ⊎ FollowsSoft s b i
  sender_by i inside dominant early None e =
      inl (record {
        dominant = dominant;
        place = place;
        from = fixed i inside ∙ ap (from_found s due i) e ∙ sym place;
        unfound = λ k d. (let up : tick i (b.place i) ≡ tick i (due i) = ap (tick i) place in
            let h = unreached i k (due i) d (first_none (is_reached s drives from i) (suc (due i)) e (due i) (omega arith)) in omega arith);
      })
    where
      place : b.place i ≡ due i
      place = ap (λ c. place_found s due i (found_before s drives from i (suc (cond c (due i) (most s.count (λ k. tick k (from k) + s.delay k i)))))) dominant ∙ ap (place_found s due i) e
  sender_by i inside dominant early (Some q) e =
      let x = first_is (is_reached s drives from i) (suc (due i)) q e in
      let f = finds_first i q inside early x.passes x.none_before in
      let from_is = fixed i inside ∙ ap (from_found s due i) e in
      let small = x.inside in
      let place_is = place in
      inr (record {
        by = f.0;
        found = q;
        finds = f.1;
        place = place;
        early = λ d. omega arith;
        from_low = λ d. omega arith;
        from_high = λ d. omega arith;
        not_before = λ d. omega arith;
      })
    where
      place : b.place i ≡ moved_to (q - 1) (s.lengths i).sjw (due i)
      place = ap (λ c. place_found s due i (found_before s drives from i (suc (cond c (due i) (most s.count (λ k. tick k (from k) + s.delay k i)))))) dominant ∙ ap (place_found s due i) e

  -- and one that drives it recessive
  other_by : (i : ℕ) → i < s.count → drives i ≡ false → ((k : ℕ) → Drives s b i k → tick i 0 < reaches_at s b k i) → (w : ℕ) → Drives s b i w
      → (o : Option ℕ) → found_before s drives from i (suc (most s.count (λ k. tick k (from k) + s.delay k i))) ≡ o → BeginsAlone s b i ⊎ FollowsSoft s b i
  other_by i inside recessive early w d None e =
      let bound = most_from s.count (λ k. tick k (from k) + s.delay k i) w d.inside in
      let up = ticks_up (s.clocks i) (are.line.steady i inside) (most s.count (λ k. tick k (from k) + s.delay k i)) in
      let here = reached_by i w (most s.count (λ k. tick k (from k) + s.delay k i)) d (omega arith) in
      let none = first_none (is_reached s drives from i) (suc (most s.count (λ k. tick k (from k) + s.delay k i))) e (most s.count (λ k. tick k (from k) + s.delay k i)) (omega arith) in
      cc
  other_by i inside recessive early w d (Some q) e =
      let x = first_is (is_reached s drives from i) (suc (most s.count (λ k. tick k (from k) + s.delay k i))) q e in
      let f = finds_first i q inside early x.passes x.none_before in
      inr (record {
        by = f.0;
        found = q;
        finds = f.1;
        place = ap (λ c. place_found s due i (found_before s drives from i (suc (cond c (due i) (most s.count (λ k. tick k (from k) + s.delay k i)))))) recessive ∙ ap (place_found s due i) e;
        early = λ y. cc;
        from_low = λ y. cc;
        from_high = λ y. cc;
        not_before = λ y. cc;
      })

  pub begin_bit : ((i k : ℕ) → i < s.count → Drives s b i k → tick i 0 < reaches_at s b k i) → (w : ℕ) → w < s.count → drives w ≡ true → BeginBit s b
  begin_bit early w there dominant i inside = elim (cases_Bool (drives i)) [
    | inl own ↦ sender_by i inside own (λ k. early i k inside) (caught i) refl
    | inr none ↦
        other_by i inside none (λ k. early i k inside) w (record { inside = there; other = λ e. (let f : drives w ≡ drives i = ap drives e in cc); dominant = dominant })
        (found_before s drives from i (suc (most s.count (λ k. tick k (from k) + s.delay k i)))) refl
  ]

  -- from when it is driven
  pub begins_by : (i : ℕ) → i < s.count → (o : Option ℕ) → caught i ≡ o
      → (from i ≡ due i) ⊎ ((q : ℕ) × (k : ℕ) × Drives s b i k × (reaches_at s b k i ≤ tick i q) × (q ≤ from i))
  begins_by i inside None e = inl (fixed i inside ∙ ap (from_found s due i) e)
  begins_by i inside (Some q) e =
      (let x = first_is (is_reached s drives from i) (suc (due i)) q e in
      let r = reached_from i q x.passes in
      let f = fixed i inside ∙ ap (from_found s due i) e in
      inr (q, r.0, r.1, r.2, omega arith))

  -- by the first edge that it finds
  reached_found : (i : ℕ) → (f : FollowsSoft s b i) → is_reached s drives from i f.found ≡ true
  reached_found i f = reached_by i f.by f.found f.finds.by f.finds.finds.seen

  unreached_before : (i : ℕ) → (f : FollowsSoft s b i) → (j : ℕ) → j < f.found → is_reached s drives from i j ≡ false
  unreached_before i f j below =
      false_from_ne_true (is_reached s drives from i j)
      (λ e. (let x = reached_from i j e in let unseen = f.finds.finds.unseen j below in let first = f.finds.first x.0 x.1 in let reach = x.2 in absurd (omega arith)))

  pub from_early : (i : ℕ) → i < s.count → (f : FollowsSoft s b i) → f.found ≤ due i → from i ≡ max f.found (moved_to (f.found - 1) (s.lengths i).sjw (due i))
  from_early i inside f by_due =
      fixed i inside
      ∙ ap (from_found s due i)
      (first_found (is_reached s drives from i) (suc (due i)) f.found (record { inside = omega arith; passes = reached_found i f; none_before = unreached_before i f }))

  pub from_late : (i : ℕ) → i < s.count → (f : FollowsSoft s b i) → due i < f.found → from i ≡ due i
  from_late i inside f later =
      fixed i inside ∙ ap (from_found s due i) (none_first (is_reached s drives from i) (suc (due i)) (λ j below. unreached_before i f j (omega arith)))
