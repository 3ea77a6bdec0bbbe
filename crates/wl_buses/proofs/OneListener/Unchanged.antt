-- A bit with an edge begins at the others as without a listener, if what that drives doesn't reach them in time.
use Rattle.std.proofs.Common.{◌≡◌, ◌≢◌, ◌∙◌, ◌⊎◌, inl, inr, refl, sym, ap, ℕ, zero, suc, ◌+◌, ◌-◌, ◌<◌, ◌≤◌, ◌&&◌, ◌||◌, not, max, cond, Bool, true, false, Option, Some, None, arith}
use Rattle.std.specs.Prelude.{◌==◌, nat_le}
use Rattle.std.proofs.lemmas.Bool.{and_from, and_right, cases_Bool, cases_lt, le-leb, lt-leb, ne_eqb, or_left}
use Rattle.wl_level.proofs.Callers.{first_cong, first_found, first_is, first_none}
use Rattle.wl_topology.specs.Driven.{any_below}
use Rattle.wl_topology.proofs.Callers.{any_from, any_same}
use Rattle.wl_phase.specs.Clocks.{steady_tick}
use Rattle.wl_phase.specs.Ways.{moved_to}
use Rattle.wl_buses.specs.OneFrame.Stations.{AreStations, Stations}
use Rattle.wl_buses.specs.OneFrame.Expected.{edge_start, found_before, from_found, is_reached, most, place_found, settled}
use Rattle.wl_buses.specs.OneListener.Beside.{with_listener}
use Rattle.wl_buses.proofs.BothProofs.Small.{ticks_up}
use Rattle.wl_buses.proofs.OneFrame.Lines.{no_or}
use Rattle.wl_buses.proofs.OneFrame.Measures.{tick_next}
use Rattle.wl_buses.proofs.OneFrame.Settling.{fixed, low, most_from, only_one}

-- the same by the quantum with which a bit is due
from_due : (s : Stations) (a b : ℕ → ℕ) (i : ℕ) → a i ≡ b i → (o : Option ℕ) → from_found s a i o ≡ from_found s b i o
from_due s a b i e None = e
from_due s a b i e (Some q) = ap (λ n. max q (moved_to (q - 1) (s.lengths i).sjw n)) e

place_due : (s : Stations) (a b : ℕ → ℕ) (i : ℕ) → a i ≡ b i → (o : Option ℕ) → place_found s a i o ≡ place_found s b i o
place_due s a b i e None = e
place_due s a b i e (Some q) = ap (λ n. moved_to (q - 1) (s.lengths i).sjw n) e

pub same_most : (n : ℕ) (f g : ℕ → ℕ) → ((k : ℕ) → k < n → f k ≡ g k) → most n f ≡ most n g
same_most zero f g h = refl
same_most (suc n) f g h = ap (λ a. max a (f n)) (same_most n f g (λ k less. h k (omega arith))) ∙ ap (λ a. max (most n g) a) (h n (omega arith))

module _ (s : Stations) (are_x : AreStations (with_listener s)) (are : AreStations s) (d e : ℕ → Bool) (same_d : (k : ℕ) → k < s.count → d k ≡ e k) (due old : ℕ → ℕ)
    (same_due : (k : ℕ) → k < s.count → due k ≡ old k)
    (unheard : (d s.count ≡ false) ⊎ ((i k : ℕ) → i < s.count → k < s.count → steady_tick (s.clocks k) (due k) + s.delay k i < s.delay s.count i))
    (some : (i : ℕ) → i < s.count → d i ≡ false → (w : ℕ) × (w < s.count) × (d w ≡ true)) where
  abbrev l : ℕ
  l = s.count

  abbrev x : Stations
  x = with_listener s

  abbrev tick : ℕ → ℕ → ℕ
  tick k q = steady_tick (s.clocks k) q

  abbrev from_x : ℕ → ℕ
  from_x = settled x d due

  abbrev from_s : ℕ → ℕ
  from_s = settled s e old

  beside_l : (k : ℕ) → k < s.count → k < x.count
  beside_l k there = omega arith

  low_x : (k : ℕ) → from_x k ≤ due k
  low_x k = low x are_x d due (suc (most x.count (λ i. tick i (due i)))) k

  -- whose edges have reached a station
  abbrev by : (ℕ → Bool) → (ℕ → ℕ) → ℕ → ℕ → ℕ → Bool
  by drives f i q k = drives k && (not (k == i) && nat_le (tick k (f k) + s.delay k i) (tick i q))

  others_same : (f g : ℕ → ℕ) → ((k : ℕ) → k < s.count → f k ≡ g k) → (i q : ℕ) → any_below s.count (by d f i q) ≡ any_below s.count (by e g i q)
  others_same f g h i q =
      any_same s.count (by d f i q) (by e g i q)
      (λ k there. ap (λ b. b && (not (k == i) && nat_le (tick k (f k) + s.delay k i) (tick i q))) (same_d k there)
      ∙ ap (λ n. e k && (not (k == i) && nat_le (tick k n + s.delay k i) (tick i q))) (h k there))

  abbrev Quiet : ℕ → ℕ → Type 0
  Quiet i q = (d l ≡ false) ⊎ (tick i q < s.delay l i)

  listener_none : (f : ℕ → ℕ) (i q : ℕ) → Quiet i q → by d f i q l ≡ false
  listener_none f i q (inl none) = ap (λ b. b && (not (l == i) && nat_le (tick l (f l) + s.delay l i) (tick i q))) none
  listener_none f i q (inr far) =
      ap (λ b. d l && (not (l == i) && b)) (lt-leb (tick l (f l) + s.delay l i) (tick i q) (omega arith)) ∙ ap (λ b. d l && b) (and_right (not (l == i)) false refl) ∙ and_right (d l) false refl

  reached_is : (f g : ℕ → ℕ) → ((k : ℕ) → k < s.count → f k ≡ g k) → (i q : ℕ) → Quiet i q → is_reached x d f i q ≡ is_reached s e g i q
  reached_is f g h i q quiet =
      ap (λ b. any_below s.count (by d f i q) || b) (listener_none f i q quiet) ∙ no_or (any_below s.count (by d f i q)) false refl ∙ others_same f g h i q

  by_due : (i q : ℕ) → i < s.count → q ≤ due i → Quiet i q
  by_due i q inside less = elim unheard [
    | inl none ↦ inl none
    | inr far ↦ inr (let h = far i i inside inside in let up = tick_next x are_x i (beside_l i inside) q (due i) less in omega arith)
  ]

  -- from when each drives the bit
  found_due : (g : ℕ → ℕ) → ((k : ℕ) → k < s.count → from_x k ≡ g k) → (i : ℕ) → i < s.count → found_before s e g i (suc (old i)) ≡ found_before x d from_x i (suc (due i))
  found_due g h i inside =
      ap (λ n. found_before s e g i (suc n)) (sym (same_due i inside))
      ∙ first_cong (is_reached s e g i) (is_reached x d from_x i) (suc (due i)) (λ q less. sym (reached_is from_x g h i q (by_due i q inside (omega arith))))

  same_turn : (i : ℕ) → i < s.count → from_found s old i (found_before s e from_x i (suc (old i))) ≡ from_x i
  same_turn i inside =
      ap (from_found s old i) (found_due from_x (λ k there. refl) i inside)
      ∙ sym (from_due s due old i (same_due i inside) (found_before x d from_x i (suc (due i)))) ∙ sym (fixed x are_x d due i (beside_l i inside))

  pub same_from : (i : ℕ) → i < s.count → from_x i ≡ from_s i
  same_from i inside = sym (only_one s are e old from_x same_turn (λ k there. (let h = low_x k in let f = same_due k there in omega arith)) i inside)

  -- and its place 0
  abbrev place_x : ℕ → ℕ → ℕ
  place_x n i = place_found x due i (found_before x d from_x i n)

  abbrev place_s : ℕ → ℕ → ℕ
  place_s n i = place_found s old i (found_before s e from_s i n)

  own_place : (i : ℕ) → i < s.count → place_x (suc (due i)) i ≡ place_s (suc (old i)) i
  own_place i inside = place_due s due old i (same_due i inside) (found_before x d from_x i (suc (due i))) ∙ sym (ap (place_found s old i) (found_due from_s same_from i inside))

  abbrev looks_x : ℕ → ℕ
  looks_x i = most x.count (λ k. tick k (from_x k) + s.delay k i)

  abbrev looks_s : ℕ → ℕ
  looks_s i = most s.count (λ k. tick k (from_s k) + s.delay k i)

  looks_up : (i : ℕ) → looks_s i ≤ looks_x i
  looks_up i =
      (let h = same_most s.count (λ k. tick k (from_x k) + s.delay k i) (λ k. tick k (from_s k) + s.delay k i) (λ k there. ap (λ n. tick k n + s.delay k i) (same_from k there)) in omega arith)

  reached_by : (i w q : ℕ) → w < s.count → w ≢ i → d w ≡ true → tick w (from_s w) + s.delay w i ≤ tick i q → is_reached s e from_s i q ≡ true
  reached_by i w q there other dominant come =
      any_from s.count w (by e from_s i q) there
      (and_from (e w) (not (w == i) && nat_le (tick w (from_s w) + s.delay w i) (tick i q)) (sym (same_d w there) ∙ dominant)
      (and_from (not (w == i)) (nat_le (tick w (from_s w) + s.delay w i) (tick i q)) (ap not (ne_eqb w i other)) (le-leb (tick w (from_s w) + s.delay w i) (tick i q) come)))

  found_other : (i w : ℕ) → i < s.count → w < s.count → w ≢ i → d w ≡ true → (o : Option ℕ) → found_before s e from_s i (suc (looks_s i)) ≡ o → found_before x d from_x i (suc (looks_x i)) ≡ o
  found_other i w inside there other dominant None f =
      let bound = most_from s.count (λ k. tick k (from_s k) + s.delay k i) w there in
      let up = ticks_up (s.clocks i) (are.line.steady i inside) (looks_s i) in
      let here = reached_by i w (looks_s i) there other dominant (omega arith) in
      let none = first_none (is_reached s e from_s i) (suc (looks_s i)) f (looks_s i) (omega arith) in
      cc
  found_other i w inside there other dominant (Some p) f =
      let y = first_is (is_reached s e from_s i) (suc (looks_s i)) p f in
      let less = looks_up i in
      first_found (is_reached x d from_x i) (suc (looks_x i)) p
      (record {
        inside = (let h = y.inside in omega arith);
        passes = or_left (any_below s.count (by d from_x i p)) (by d from_x i p l) (others_same from_x from_s same_from i p ∙ y.passes);
        none_before = λ j below. reached_is from_x from_s same_from i j (quiet_before j (y.none_before j below)) ∙ y.none_before j below;
      })
    where
      quiet_before : (j : ℕ) → is_reached s e from_s i j ≡ false → Quiet i j
      quiet_before j none = elim unheard [
        | inl mute ↦ inl mute
        | inr far ↦ inr (elim (cases_lt (tick i j) (tick w (from_s w) + s.delay w i)) [
          | inl sooner ↦
              (let h = far i w inside there in
              let same = ap (tick w) (same_from w there) in
              let down = tick_next x are_x w (beside_l w there) (from_x w) (due w) (low_x w) in
              omega arith)
          | inr later ↦ (let here = reached_by i w j there other dominant later in cc)
        ])
      ]

  pub same_place : (i : ℕ) → i < s.count → (edge_start x d due).place i ≡ (edge_start s e old).place i
  same_place i inside = elim (cases_Bool (d i)) [
    | inl own ↦
        ap (λ c. place_x (suc (cond c (due i) (looks_x i))) i) own ∙ own_place i inside
        ∙ sym (ap (λ c. place_s (suc (cond c (old i) (looks_s i))) i) (sym (same_d i inside) ∙ own))
    | inr none ↦
        (let w = some i inside none in
        let other : w.0 ≢ i = (λ f. (let g : d w.0 ≡ d i = ap d f in let h = w.2 in cc)) in
        ap (λ c. place_x (suc (cond c (due i) (looks_x i))) i) none
        ∙ ap (place_found x due i) (found_other i w.0 inside w.1 other w.2 (found_before s e from_s i (suc (looks_s i))) refl)
        ∙ place_due s due old i (same_due i inside) (found_before s e from_s i (suc (looks_s i)))
        ∙ sym (ap (λ c. place_s (suc (cond c (old i) (looks_s i))) i) (sym (same_d i inside) ∙ none)))
  ]
