-- What the tests for room say of a bus that passes them.
use Rattle.std.proofs.Common.{◌≡◌, ◌≢◌, ◌∙◌, sym, ap, ℕ, suc, ◌+◌, ◌*◌, ◌<◌, ◌≤◌, ◌&&◌, nat_le, not, Bool, true, false, length}
use Rattle.std.specs.Prelude.{◌==◌}
use Rattle.std.proofs.lemmas.Bool.{and_parts, or_parts, false_from_ne_true, leb-false, leb-true, ne_eqb, not-false, not-true}
use Rattle.wl_segments.specs.Lengths.{sample_at}
use Rattle.wl_topology.specs.Driven.{any_below}
use Rattle.wl_topology.proofs.Callers.{any_from}
use Rattle.wl_bound.specs.Families.{Bus, Buses}
use Rattle.wl_bound.specs.Terms.{drift, jump}
use Rattle.wl_bound.specs.Rooms.{IsShort, catches, comes_early, distance, falls_behind, gain, has_room, have_room, is_crowded, has_long_quantum, lacks_room, least_chase, plain_bus}
use Rattle.wl_bound.specs.RoomLaws.{HasAllRoom}

none_below : (n : ℕ) (p : ℕ → Bool) → any_below n p ≡ false → (i : ℕ) → i < n → p i ≡ false
none_below n p none i less =
    false_from_ne_true (p i) (λ e. (let some = any_from n i p less e in let both : true ≡ false = sym some ∙ none in cc))

-- a test of a pair fails, and its first half holds
second_is : (v w : Bool) → (v && not w) ≡ false → v ≡ true → w ≡ true
second_is true w e is = not-false w e
second_is false w e is = cc

all_three : (p q r : Bool) → (p && (q && r)) ≡ true → (p ≡ true) × (q ≡ true) × (r ≡ true)
all_three p q r e =
    let first = and_parts p (q && r) e in
    let second = and_parts q r first.1 in
    (first.0, second.0, second.1)

pub all_short : (f : Buses) → any_below (length f.members) (has_long_quantum (plain_bus f)) ≡ false → IsShort f
all_short f none i less =
    let both = or_parts _ _ (none_below (length f.members) (has_long_quantum (plain_bus f)) none i less) in
    (leb-false _ _ both.0, leb-false _ _ both.1)

module _ (b : Bus) (has : has_room b ≡ true) where
  none_lacks : any_below b.nodes (lacks_room b) ≡ false
  none_lacks = not-true (any_below b.nodes (lacks_room b)) (and_parts _ _ has).1

  node : (i : ℕ) → i < b.nodes
      → (not (nat_le (b.delay i i) (sample_at (b.lengths i) * b.shortest i)) ≡ false)
      × ((any_below b.nodes (falls_behind b i) ≡ false) × (any_below b.nodes (is_crowded b i) ≡ false))
  node i ni =
      let first = or_parts _ _ (none_below b.nodes (lacks_room b) none_lacks i ni) in
      (first.0, or_parts _ _ first.1)

  catches_up : (k w : ℕ) → k < b.nodes → w < b.nodes → k ≢ w → b.sends w ≡ true → distance b k w ≤ suc (least_chase b k) * gain b k w
  catches_up k w nk nw apart sends =
      let none = none_below b.nodes (falls_behind b k) (node k nk).1.0 w nw in
      let other : not (w == k) ≡ true = ap not (ne_eqb w k (λ e. apart (sym e))) in
      let is : (b.sends w && not (w == k)) ≡ true = cc in
      leb-true _ _ (second_is (b.sends w && not (w == k)) (catches b k w) none is)

  abbrev HavePairRoom : (i k : ℕ) → Type 0
  HavePairRoom i k =
      (10 * drift b k i ≤ jump b i)
      × (b.delay i k + b.delay k i + comes_early b k i + 10 * drift b k i ≤ sample_at (b.lengths i) * b.shortest i)
      × (comes_early b i k + 12 * drift b i k + b.tick ≤ (b.lengths i).ps2 * b.shortest i)

  pair : (i k : ℕ) → i < b.nodes → k < b.nodes → i ≢ k → HavePairRoom i k
  pair i k ni nk apart =
      let none = none_below b.nodes (is_crowded b i) (node i ni).1.1 k nk in
      let other : not (k == i) ≡ true = ap not (ne_eqb k i (λ e. apart (sym e))) in
      let have = second_is (not (k == i)) (have_room b i k) none other in
      let three = all_three
      (nat_le (10 * drift b k i) (jump b i))
      (nat_le (b.delay i k + b.delay k i + comes_early b k i + 10 * drift b k i) (sample_at (b.lengths i) * b.shortest i))
      (nat_le (comes_early b i k + 12 * drift b i k + b.tick) ((b.lengths i).ps2 * b.shortest i)) have in
      (leb-true _ _ three.0, leb-true _ _ three.1, leb-true _ _ three.2)

  pub is_room : HasAllRoom b
  is_room = record {
    catches = catches_up;
    loop_is_there = λ i ni. leb-true _ _ (not-false _ (node i ni).0);
    drift_fits_both = λ i k ni nk apart. (pair i k ni nk apart).0;
    bit_is_there_at_sample = λ i k ni nk apart. (pair i k ni nk apart).1;
    no_bit_too_early = λ i k ni nk apart. (pair i k ni nk apart).2;
  }
