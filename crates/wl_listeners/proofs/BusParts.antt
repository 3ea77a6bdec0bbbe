-- A part of a bus is no harder than the whole: each term of its nodes is at most that of the same nodes of the whole.
use Rattle.std.proofs.Common.{◌≡◌, ◌≢◌, ℕ, ◌+◌, ◌*◌, ◌<◌, ◌≤◌, ◌==◌, ◌&&◌, ◌||◌, ◌∙◌, nat_lt, not, Bool, true, false, cond, refl, ap, ap₂, sym, arith}
use Rattle.std.specs.Cmp.{both_ways}
use Rattle.std.proofs.lemmas.Bool.{and_from, and_parts, eq-eqb, eqb-true, lt-ltb, ltb-true}
use Rattle.std.proofs.Math.Nat.{mul-le-mul}
use Rattle.wl_level.specs.Places.{count_places}
use Rattle.wl_topology.specs.Driven.{any_below}
use Rattle.wl_topology.proofs.Callers.{any_from, any_one}
use Rattle.wl_bound.specs.declared.condition.Inequality.TheVariants.{DriftFitsJump, BitIsThereAtSample, NoBitTooEarly}
use Rattle.wl_bound.specs.Families.{Bus}
use Rattle.wl_bound.specs.Terms.{ahead, answered, apart, behind, chase, drift, early, edges, greatest, is_answering, is_third, jump, late, look, lost, pull, pulled, sends_but, sends_third, several, spread, strays, tour, trip, way}
use Rattle.wl_bound.specs.Conditions.{IsSound, left_of, right_of}
use Rattle.wl_bound.proofs.Greatest.{bounded, bounds_each}
use Rattle.wl_listeners.specs.BusParts.{AreAllSenders, AreNodesOf, bus_part}
use Rattle.wl_listeners.proofs.Sums.{count_le, numbers_le, sum_le}
use Rattle.wl_listeners.proofs.Edges.{edges_by, edges_by_le, many_by}

-- the greater of numbers, by tests
pub pick_le : (t u : Bool) (x y : ℕ) → (t ≡ true → u ≡ true) → x ≤ y → cond t x 0 ≤ cond u y 0
pick_le true true x y e h = h
pick_le true false x y e h = absurd (let f = e refl in cc)
pick_le false u x y e h = omega arith

choose_le : (t u : Bool) (x y v w : ℕ) → t ≡ u → x ≤ y → v ≤ w → cond t x v ≤ cond u y w
choose_le true true x y v w e h k = h
choose_le false false x y v w e h k = k
choose_le true false x y v w e h k = absurd (cc)
choose_le false true x y v w e h k = absurd (cc)

module _ (whole : Bus) (at : ℕ → ℕ) (n : ℕ) (is : AreNodesOf whole at n) where
  abbrev part : Bus
  part = bus_part whole at n

  pub apart_there : (i k : ℕ) → i < n → k < n → i ≢ k → at i ≢ at k
  apart_there i k ni nk other same = other (is.once i k ni nk same)

  pub same_test : (k i : ℕ) → k < n → i < n → (k == i) ≡ (at k == at i)
  same_test k i nk ni =
      both_ways (k == i) (at k == at i) (λ e. eq-eqb (at k) (at i) (ap at (eqb-true k i e)))
      (λ e. eq-eqb k i (is.once k i nk ni (eqb-true (at k) (at i) e)))

  other_same : (k i : ℕ) → k < n → i < n → not (k == i) ≡ not (at k == at i)
  other_same k i nk ni = ap not (same_test k i nk ni)

  but_same : (i k : ℕ) → i < n → k < n → sends_but part i k ≡ sends_but whole (at i) (at k)
  but_same i k ni nk = ap (λ v. whole.sends (at k) && v) (other_same k i nk ni)

  sends_third_same : (i j k : ℕ) → i < n → j < n → k < n → sends_third part i j k ≡ sends_third whole (at i) (at j) (at k)
  sends_third_same i j k ni nj nk = ap₂ (λ v w. (whole.sends (at k) && v) && w) (other_same k i nk ni) (other_same k j nk nj)

  is_third_same : (i j k : ℕ) → i < n → j < n → k < n → is_third i j k ≡ is_third (at i) (at j) (at k)
  is_third_same i j k ni nj nk = ap₂ (λ v w. v && w) (other_same k i nk ni) (other_same k j nk nj)

  -- over the nodes of both
  pub over : (t u : ℕ → Bool) (f g : ℕ → ℕ) → ((k : ℕ) → k < n → t k ≡ true → u (at k) ≡ true) → ((k : ℕ) → k < n → f k ≤ g (at k))
      → greatest n t f ≤ greatest whole.nodes u g
  over t u f g e h =
      bounded n t f (greatest whole.nodes u g)
      (λ k nk p. (let most = bounds_each whole.nodes u g (greatest whole.nodes u g) (omega arith) (at k) (is.inside k nk) (e k nk p) in
      let less = h k nk in omega arith))

  pub some_third : (i j : ℕ) → i < n → j < n → any_below n (sends_third part i j) ≡ true
      → any_below whole.nodes (sends_third whole (at i) (at j)) ≡ true
  some_third i j ni nj some =
      (let w = any_one n (sends_third part i j) some in
      any_from whole.nodes (at w.0) (sends_third whole (at i) (at j)) (is.inside w.0 w.1) (sym (sends_third_same i j w.0 ni nj w.1) ∙ w.2))

  pub drift_same : (i j : ℕ) → drift part i j ≡ drift whole (at i) (at j)
  unfolding drift
  drift_same i j = refl

  pub jump_same : (i : ℕ) → jump part i ≡ jump whole (at i)
  unfolding jump
  jump_same i = refl

  pub look_same : (i : ℕ) → look part i ≡ look whole (at i)
  unfolding look
  look_same i = refl

  spread_same : (i j : ℕ) → spread part i j ≡ spread whole (at i) (at j)
  unfolding spread drift jump
  spread_same i j = refl

  no_more : n ≤ whole.nodes
  no_more = numbers_le n whole.nodes at is.inside is.once

  trip_le : (i j k : ℕ) → i < n → j < n → k < n → trip part i j k ≤ trip whole (at i) (at j) (at k)
  unfolding trip
  trip_le i j k ni nj nk =
      (let more = no_more in let l = look_same i in
      let two : cond (nat_lt 2 n) (look part i) 0 ≤ cond (nat_lt 2 whole.nodes) (look whole (at i)) 0 =
      pick_le (nat_lt 2 n) (nat_lt 2 whole.nodes) (look part i) (look whole (at i)) (λ e. (let m = ltb-true 2 n e in lt-ltb 2 whole.nodes (omega arith))) (omega arith) in
      choose_le (k == i) (at k == at i) _ _ _ _ (same_test k i nk ni) (omega arith) (omega arith))

  way_le : (i j : ℕ) → i < n → j < n → way part i j ≤ way whole (at i) (at j)
  unfolding way
  way_le i j ni nj =
      (let first = over (sends_but part j) (sends_but whole (at j)) (trip part i j) (trip whole (at i) (at j))
      (λ k nk e. sym (but_same j k nj nk) ∙ e) (λ k nk. trip_le i j k ni nj nk) in
      let second = over (is_third i j) (is_third (at i) (at j)) (look part) (look whole)
      (λ k nk e. sym (is_third_same i j k ni nj nk) ∙ e) (λ k nk. (let l = look_same k in omega arith)) in
      omega arith)

  ahead_le : (j : ℕ) → j < n → ahead part j ≤ ahead whole (at j)
  unfolding ahead
  ahead_le j nj =
      sum_le n whole.nodes at is.inside is.once (λ w. not (w == j)) (λ w. not (w == at j)) whole.turns (λ k nk e. sym (other_same k j nk nj) ∙ e)

  some_several : several part ≡ true → several whole ≡ true
  unfolding several
  some_several e =
      (let more = count_le n whole.nodes at is.inside is.once part.sends whole.sends (λ k nk p. p) in
      let m = ltb-true 1 (count_places part.sends n) e in
      lt-ltb 1 (count_places whole.sends whole.nodes) (omega arith))

  late_sender_le : (i a : ℕ) → i < n → a < n
      → way part i a + 10 * drift part a i + ahead part a ≤ way whole (at i) (at a) + 10 * drift whole (at a) (at i) + ahead whole (at a)
  late_sender_le i a ni na = (let w = way_le i a ni na in let d = drift_same a i in let l = ahead_le a na in omega arith)

  early_le : (i : ℕ) → i < n → early part i ≤ early whole (at i)
  unfolding early
  early_le i ni =
      pick_le (several part) (several whole) _ _ some_several
      (over (sends_but part i) (sends_but whole (at i)) (λ a. way part i a + 10 * drift part a i + ahead part a)
      (λ a. way whole (at i) a + 10 * drift whole a (at i) + ahead whole a) (λ k nk e. sym (but_same i k ni nk) ∙ e) (λ a na. late_sender_le i a ni na))

  lost_le : (i : ℕ) → i < n → lost part i ≤ lost whole (at i)
  unfolding lost
  lost_le i ni =
      (let most = over (sends_but part i) (sends_but whole (at i)) (λ a. drift part a i) (λ a. drift whole a (at i))
      (λ k nk e. sym (but_same i k ni nk) ∙ e) (λ a na. (let d = drift_same a i in omega arith)) in
      omega arith)

  edges_le : (i : ℕ) → i < n → edges part i ≤ edges whole (at i)
  unfolding edges edges_by many_by
  edges_le i ni =
      (let e = jump_same i in
      edges_by_le (early part i) (part.shortest i) (jump part i) (lost part i) (early whole (at i)) (whole.shortest (at i)) (jump whole (at i)) (lost whole (at i))
      (early_le i ni) (omega arith) (omega arith) (lost_le i ni))

  chase_le : (i j : ℕ) → i < n → j < n → chase part i j ≤ chase whole (at i) (at j)
  unfolding chase
  chase_le i j ni nj =
      (let one = edges_le i ni in let other = edges_le j nj in
      pick_le (any_below n (sends_third part i j)) (any_below whole.nodes (sends_third whole (at i) (at j))) _ _ (some_third i j ni nj) (omega arith))

  apart_le : (i j : ℕ) → i < n → j < n → apart part i j ≤ apart whole (at i) (at j)
  unfolding apart
  apart_le i j ni nj = (let s = spread_same i j in mul-le-mul (chase_le i j ni nj) (omega arith))

  tour_le : (i j : ℕ) → i < n → j < n → tour part i j ≤ tour whole (at i) (at j)
  unfolding tour
  tour_le i j ni nj =
      over (sends_third part i j) (sends_third whole (at i) (at j)) _ _ (λ k nk e. sym (sends_third_same i j k ni nj nk) ∙ e)
      (λ a na. (let comes = late_sender_le i a ni na in omega arith))

  behind_le : (j a : ℕ) → j < n → a < n → behind part j a ≤ behind whole (at j) (at a)
  unfolding behind
  behind_le j a nj na =
      (let s = spread_same a j in
      let gathers : edges part j * spread part a j ≤ edges whole (at j) * spread whole (at a) (at j) = mul-le-mul (edges_le j nj) (omega arith) in
      let l = look_same a in let d = drift_same j a in let k = jump_same j in omega arith)

  some_answering : (i j a : ℕ) → i < n → j < n → a < n → is_answering part i j a ≡ true → is_answering whole (at i) (at j) (at a) ≡ true
  some_answering i j a ni nj na e =
      (let parts = and_parts (not (whole.listens (at a)) && is_third i j a) (any_below n (sends_third part a j)) e in
      let front = and_parts (not (whole.listens (at a))) (is_third i j a) parts.0 in
      and_from (not (whole.listens (at a)) && is_third (at i) (at j) (at a)) (any_below whole.nodes (sends_third whole (at a) (at j)))
      (and_from (not (whole.listens (at a))) (is_third (at i) (at j) (at a)) front.0 (sym (is_third_same i j a ni nj na) ∙ front.1))
      (some_third a j na nj parts.1))

  answered_le : (i j : ℕ) → i < n → j < n → answered part i j ≤ answered whole (at i) (at j)
  unfolding answered
  answered_le i j ni nj =
      pick_le (several part) (several whole) _ _ some_several
      (over (is_answering part i j) (is_answering whole (at i) (at j)) (λ a. trip part i j a + behind part j a) (λ a. trip whole (at i) (at j) a + behind whole (at j) a)
      (λ a na e. some_answering i j a ni nj na e) (λ a na. (let t = trip_le i j a ni nj na in let g = behind_le j a nj na in omega arith)))

  late_le : (i j : ℕ) → i < n → j < n → late part i j ≤ late whole (at i) (at j)
  unfolding late
  late_le i j ni nj =
      (let w = way_le i j ni nj in let a = apart_le i j ni nj in let t = tour_le i j ni nj in let m = answered_le i j ni nj in omega arith)

  strays_le : (j : ℕ) → j < n → strays part j ≤ strays whole (at j)
  unfolding strays
  strays_le j nj =
      over (λ w. not (w == j)) (λ w. not (w == at j)) (drift part j) (drift whole (at j)) (λ k nk e. sym (other_same k j nk nj) ∙ e)
      (λ k nk. (let d = drift_same j k in omega arith))

  there_le : (i j : ℕ) → i < n → j < n → left_of part BitIsThereAtSample i j ≤ left_of whole BitIsThereAtSample (at i) (at j)
  unfolding left_of
  there_le i j ni nj =
      (let l = late_le i j ni nj in let s = strays_le j nj in let m = ahead_le j nj in
      choose_le (i == j) (at i == at j) _ _ _ _ (same_test i j ni nj) (omega arith) (omega arith))

  soon_le : (i j : ℕ) → i < n → j < n → left_of part NoBitTooEarly i j ≤ left_of whole NoBitTooEarly (at i) (at j)
  unfolding left_of
  soon_le i j ni nj =
      (let l = look_same j in let d = drift_same i j in let a = apart_le j i nj ni in let y = early_le j nj in let m = ahead_le i ni in omega arith)

  -- the third sender of the whole is one of the part, if all that send are
  module _ (all : AreAllSenders whole at n) where
    third_there : (i j : ℕ) → i < n → j < n → any_below whole.nodes (sends_third whole (at i) (at j)) ≡ true → any_below n (sends_third part i j) ≡ true
    third_there i j ni nj some =
        (let w = any_one whole.nodes (sends_third whole (at i) (at j)) some in
        let sends = (and_parts (whole.sends w.0) (not (w.0 == at i)) (and_parts (sends_but whole (at i) w.0) (not (w.0 == at j)) w.2).0).0 in
        let k = all w.0 w.1 sends in
        any_from n k.0 (sends_third part i j) k.1 (sends_third_same i j k.0 ni nj k.1 ∙ ap (sends_third whole (at i) (at j)) k.2 ∙ w.2))

    third_same : (i j : ℕ) → i < n → j < n → any_below n (sends_third part i j) ≡ any_below whole.nodes (sends_third whole (at i) (at j))
    third_same i j ni nj =
        both_ways (any_below n (sends_third part i j)) (any_below whole.nodes (sends_third whole (at i) (at j))) (some_third i j ni nj) (third_there i j ni nj)

    pull_le : (i j : ℕ) → i < n → j < n → pull part i j ≤ pull whole (at i) (at j)
    unfolding pull
    pull_le i j ni nj =
        (let l = look_same j in
        pick_le (whole.sends (at j)) (whole.sends (at j)) _ _ (λ e. e)
        (choose_le (any_below n (sends_third part i j)) (any_below whole.nodes (sends_third whole (at i) (at j))) _ _ _ _ (third_same i j ni nj) (omega arith) (omega arith)))

    fits_le : (i j : ℕ) → i < n → j < n → left_of part DriftFitsJump i j ≤ left_of whole DriftFitsJump (at i) (at j)
    unfolding left_of pulled
    fits_le i j ni nj =
        (let d = drift_same i j in let p = pull_le i j ni nj in let k = jump_same i in let m = jump_same j in omega arith)

    -- the condition holds for the part
    pub sound_part : IsSound whole → IsSound part
    unfolding right_of
    sound_part s = record {
      drift_fits_jump = λ i j ni nj asked.
          (let h = s.drift_fits_jump (at i) (at j) (is.inside i ni) (is.inside j nj)
          (ap (λ v. not v && not (whole.listens (at i) && whole.listens (at j))) (sym (same_test i j ni nj)) ∙ asked) in
          let l = fits_le i j ni nj in let k = jump_same i in let m = jump_same j in omega arith);
      bit_is_there_at_sample = λ i j ni nj asked.
          (let h = s.bit_is_there_at_sample (at i) (at j) (is.inside i ni) (is.inside j nj)
          (ap (λ v. v || not (whole.listens (at j))) (sym (same_test i j ni nj)) ∙ asked) in
          let l = there_le i j ni nj in omega arith);
      no_bit_too_early = λ i j ni nj asked.
          (let h = s.no_bit_too_early (at i) (at j) (is.inside i ni) (is.inside j nj)
          (ap (λ v. not v && not (whole.listens (at j))) (sym (same_test i j ni nj)) ∙ asked) in
          let l = soon_le i j ni nj in omega arith);
    }
