-- What grew by more is no easier, so a border is the greatest growth.
use Rattle.std.proofs.Common.{◌≡◌, ℕ, zero, suc, ◌+◌, ◌-◌, ◌*◌, ◌/◌, ◌≤◌, ◌∙◌, not, true, Option, Some, None, inl, inr, refl, ap, sym, subst, arith}
use Rattle.std.specs.Int.{abs_diff, div_ceil}
use Rattle.std.specs.Option.{is_some}
use Rattle.std.proofs.lemmas.Bool.{cases_lt}
use Rattle.std.proofs.lemmas.Nat.{le-div}
use Rattle.std.proofs.Math.Nat.{div-mul-le_self, div-zero, mod-zero, mul-le-mul_left, mul-le-mul_right}
use Rattle.wl_topology.specs.Delays.{Cable, propagation_of, place_at}
use Rattle.wl_bound.specs.declared.condition.Failure.{Failure}
use Rattle.wl_bound.specs.declared.condition.Senders.{Senders}
use Rattle.wl_bound.specs.declared.condition.Senders.TheVariants.{Any, One}
use Rattle.wl_bound.specs.declared.family.Source.{Source}
use Rattle.wl_bound.specs.declared.family.Source.TheVariants.{Alone, Together}
use Rattle.wl_bound.specs.declared.family.Setting.{Setting}
use Rattle.wl_bound.specs.declared.search.Growth.{Growth}
use Rattle.wl_bound.specs.declared.search.Growth.TheVariants.{Longer, Wider}
use Rattle.wl_bound.specs.Oscillators.{Pace, longest_of, shortest_of}
use Rattle.wl_bound.specs.Families.{Buses, bus_of, delay_in, lengths_in, longest_in, member_at, sends_in, shortest_in, turns_in, way_between}
use Rattle.wl_bound.specs.Conditions.{IsSound}
use Rattle.wl_bound.specs.Searches.{IsBorder, IsBorderOf, IsGreatestOf, grown_by, holds_grown}
use Rattle.wl_bound.proofs.Harder.{IsHarder, ceil_le, sound_le}
use Rattle.wl_bound.proofs.Sound.{any_of, any_to, one_of, one_to}

-- ---- Quotients

div_le : (x y k : ℕ) → x ≤ y → x / k ≤ y / k
div_le x y zero h = rw (div-zero x) (omega arith)
div_le x y (suc k) h =
    le-div (x / suc k) y (suc k) (omega arith) (let low = div-mul-le_self x (suc k) in omega arith)

ceil_most : (x y k : ℕ) → x ≤ y → div_ceil x k ≤ div_ceil y k
ceil_most x y zero h = rw (div-zero x, div-zero y, mod-zero x, mod-zero y) (omega arith)
ceil_most x y (suc k) h = ceil_le x y (suc k) (suc k) (omega arith) (omega arith) h

shortest_le : (p : Pace) (n m : ℕ) → n ≤ m → shortest_of p m ≤ shortest_of p n
shortest_le p n m h =
    div_le (p.fastest.num * (1000000 - (p.tolerance + m))) (p.fastest.num * (1000000 - (p.tolerance + n))) p.fastest.den
    (mul-le-mul_left p.fastest.num (omega arith))

longest_le : (p : Pace) (n m : ℕ) → n ≤ m → longest_of p n ≤ longest_of p m
longest_le p n m h =
    ceil_most (p.slowest.num * (1000000 + (p.tolerance + n))) (p.slowest.num * (1000000 + (p.tolerance + m))) p.slowest.den
    (mul-le-mul_left p.slowest.num (omega arith))

-- ---- Ways along the cable

triangle : (cable : Cable) (k j i : ℕ) → way_between cable k i ≤ way_between cable k j + way_between cable j i
triangle cable k j i = by_places (place_at cable k).x (place_at cable j).x (place_at cable i).x cable.per
  where
    by_places : (a b d per : ℕ) → abs_diff a d * per ≤ abs_diff a b * per + abs_diff b d * per
    by_places a b d per =
        (let near : abs_diff a d ≤ abs_diff a b + abs_diff b d = omega arith in
        let far = mul-le-mul_right per near in
        split (abs_diff a d) (abs_diff a b) (abs_diff b d) per far)
      where
        split : (x y z p : ℕ) → x * p ≤ (y + z) * p → x * p ≤ y * p + z * p
        split x y z p le = omega arith

no_way : (cable : Cable) (i : ℕ) → way_between cable i i ≡ 0
no_way cable i = by_place (place_at cable i).x cable.per
  where
    by_place : (a per : ℕ) → abs_diff a a * per ≡ 0
    by_place a per = (let e : abs_diff a a ≡ 0 = omega arith in ap (λ n. n * per) e ∙ omega arith)

-- a detour that grows by `more` for each tick of way
detour : (l s t a b c u v w : ℕ) → s ≤ t → w ≤ u + v
    → (l * a + s * u) + (l * b + s * v) + (l * c + t * w) ≤ (l * a + t * u) + (l * b + t * v) + (l * c + s * w)
detour l s t a b c u v w h near =
    let e : t ≡ s + (t - s) = omega arith in
    let far = mul-le-mul_left (t - s) near in
    let P : ℕ → Type 0 = λ x. (l * a + s * u) + (l * b + s * v) + (l * c + x * w) ≤ (l * a + x * u) + (l * b + x * v) + (l * c + s * w) in
    subst P (sym e) (spread l s (t - s) a b c u v w far)
  where
    spread : (l s d a b c u v w : ℕ) → d * w ≤ d * (u + v)
        → (l * a + s * u) + (l * b + s * v) + (l * c + (s + d) * w) ≤ (l * a + (s + d) * u) + (l * b + (s + d) * v) + (l * c + s * w)
    spread l s d a b c u v w far = omega arith

-- ---- The buses that grew

longer_harder : (f : Buses) (o : Source) (long per n m : ℕ) → n ≤ m
    → IsHarder (bus_of f (record (grown_by (Longer long per) n) { source = o })) (bus_of f (record (grown_by (Longer long per) m) { source = o }))
unfolding shortest_in longest_in delay_in lengths_in sends_in turns_in
longer_harder f o long per n m h =
    let more : n * per ≤ m * per = mul-le-mul_right per h in
    record {
      nodes = refl;
      tick = refl;
      lengths = λ i. refl;
      sends = λ i. refl;
      listens = λ i. refl;
      turns = λ i. refl;
      shorter = λ i. omega arith;
      longer = λ i. omega arith;
      own = λ i. ap (λ w. 1000000 * (long * propagation_of f.cable i i + n * per * w)) (no_way f.cable i)
          ∙ sym (ap (λ w. 1000000 * (long * propagation_of f.cable i i + m * per * w)) (no_way f.cable i) ∙ still (long * propagation_of f.cable i i) (n * per) (m * per));
      planned = λ i j. planned (long * propagation_of f.cable i j) (n * per) (m * per) (way_between f.cable i j);
      delays = λ i j. mul-le-mul_left 1000000 (apart (long * propagation_of f.cable i j) (mul-le-mul_right (way_between f.cable i j) more));
      detours = λ k j i. millions _ _ _ _ _ _
          (detour long (n * per) (m * per) (propagation_of f.cable k j) (propagation_of f.cable j i) (propagation_of f.cable k i)
          (way_between f.cable k j) (way_between f.cable j i) (way_between f.cable k i) more (triangle f.cable k j i));
    }
  where
    planned : (d s t w : ℕ) → 1000000 * (d + s * w) - 1000000 * (s * w) ≡ 1000000 * (d + t * w) - 1000000 * (t * w)
    planned d s t w = omega arith

    still : (d s t : ℕ) → 1000000 * (d + t * 0) ≡ 1000000 * (d + s * 0)
    still d s t = omega arith

    apart : (d : ℕ) {s t : ℕ} → s ≤ t → d + s ≤ d + t
    apart d {s} {t} le = omega arith

    millions : (a b c x y z : ℕ) → a + b + c ≤ x + y + z → 1000000 * a + 1000000 * b + 1000000 * c ≤ 1000000 * x + 1000000 * y + 1000000 * z
    millions a b c x y z le = omega arith

wider_harder : (f : Buses) (o : Source) (n m : ℕ) → n ≤ m
    → IsHarder (bus_of f (record (grown_by Wider n) { source = o })) (bus_of f (record (grown_by Wider m) { source = o }))
unfolding shortest_in longest_in delay_in lengths_in sends_in turns_in
wider_harder f o n m h = record {
  nodes = refl;
  tick = refl;
  lengths = λ i. refl;
  sends = λ i. refl;
  listens = λ i. refl;
  turns = λ i. refl;
  shorter = λ i. mul-le-mul_left 1 (shortest_le (member_at f i).oscillator n m h);
  longer = λ i. mul-le-mul_left 1 (longest_le (member_at f i).oscillator n m h);
  own = λ i. refl;
  planned = λ i j. refl;
  delays = λ i j. omega arith;
  detours = λ k j i. omega arith;
}

harder : (f : Buses) (o : Source) (growth : Growth) (n m : ℕ) → n ≤ m
    → IsHarder (bus_of f (record (grown_by growth n) { source = o })) (bus_of f (record (grown_by growth m) { source = o }))
harder f o (Longer long per) n m h = longer_harder f o long per n m h
harder f o Wider n m h = wider_harder f o n m h

-- ---- The searches

no_failure : (o : Option Failure) → not (is_some o) ≡ true → o ≡ None
no_failure None h = refl
no_failure (Some failure) h = cc

-- all senders at once, as it is written in the setting
together : (growth : Growth) (n : ℕ) → record (grown_by growth n) { source = Together } ≡ grown_by growth n
together (Longer long per) n = refl
together Wider n = refl

pub less : (f : Buses) (senders : Senders) (growth : Growth) (n m : ℕ) → n ≤ m → holds_grown f senders growth m ≡ true
    → holds_grown f senders growth n ≡ true
less f Any growth n m h holds =
    let P : Setting → Type 0 = λ s. IsSound (bus_of f s) in
    let sound : P (grown_by growth m) = any_to f (grown_by growth m) (no_failure _ holds) in
    ap (λ o. not (is_some o))
    (any_of f (grown_by growth n)
    (subst P (together growth n) (sound_le _ _ (harder f Together growth n m h) (subst P (sym (together growth m)) sound))))
less f One growth n m h holds =
    ap (λ o. not (is_some o))
    (one_of f (grown_by growth n)
    (λ a b sends. sound_le _ _ (harder f (Alone a) growth n m h) (one_to f (grown_by growth m) (no_failure _ holds) a b sends)))

pub greatest_growth : (f : Buses) (senders : Senders) (growth : Growth) (limit n m : ℕ) → IsBorder (holds_grown f senders growth) limit n
    → m ≤ limit → holds_grown f senders growth m ≡ true → m ≤ n
greatest_growth f senders growth limit n m border within holds =
    elim (cases_lt n m) [
      | inl above ↦
          (let fails = border.no_further (omega arith) in
          let next = less f senders growth (n + 1) m (omega arith) holds in
          absurd (cc))
      | inr below ↦ below
    ]

-- what halving finds is the greatest
pub found : (f : Buses) (senders : Senders) (growth : Growth) (limit : ℕ) (o : Option ℕ)
    → IsBorderOf (holds_grown f senders growth) limit o → IsGreatestOf (holds_grown f senders growth) limit o
found f senders growth limit None h = h
found f senders growth limit (Some n) h = record {
  within = h.within;
  passes = h.passes;
  greatest = λ m within holds. greatest_growth f senders growth limit n m h within holds;
}
