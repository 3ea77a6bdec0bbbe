-- What is expected rests on the stations of a line alone: on how the frame begins at each of them, and on the delays between them.
use Rattle.std.proofs.Common.{◌≡◌, ◌∙◌, inl, inr, sym, ap, ℕ, zero, suc, ◌+◌, ◌-◌, ◌<◌, ◌&&◌, not, max, cond, Bool, Option, Some, None, [], ◌∷◌, ◌++◌}
use Rattle.std.specs.Prelude.{◌==◌, nat_le, nat_lt}
use Rattle.std.proofs.lemmas.Bool.{cases_Bool}
use Rattle.wl_level.specs.Levels.{is_dominant, level_of}
use Rattle.wl_level.proofs.Callers.{first_cong}
use Rattle.wl_segments.specs.Lengths.{bit_quanta}
use Rattle.wl_topology.specs.Driven.{any_below}
use Rattle.wl_topology.proofs.Callers.{any_same}
use Rattle.wl_machine.specs.Stretch.Input.{Sample}
use Rattle.wl_machine.specs.Judged.{drive_of, stretch_of}
use Rattle.wl_phase.specs.Clocks.{steady_tick}
use Rattle.wl_phase.specs.Ways.{moved_to}
use Rattle.wl_wire.specs.Wire.{sampled}
use Rattle.wl_buses.specs.OneFrame.Stations.{Stations}
use Rattle.wl_buses.specs.OneFrame.Starts.{Start}
use Rattle.wl_buses.specs.HeardFrames.Joined.{on_line}
use Rattle.wl_buses.proofs.OneListener.Unchanged.{same_most}
use Rattle.wl_buses.specs.OneFrame.Expected.{Outset, edge_start, expected_bits, expected_drove, found_before, from_after, from_found, is_reached, looks_up_to, most, past_at, place_found, plain_start, settled, wants}

-- the frame begins alike at so many stations
pub record AreAlike (count : ℕ) (p o : Outset) : Type 0 where
  pub frames : p.frames ≡ o.frames
  pub handed : p.handed ≡ o.handed
  pub past : (k : ℕ) → k < count → p.past k ≡ o.past k
  pub drives : (k : ℕ) → k < count → p.start.drives k ≡ o.start.drives k
  pub place : (k : ℕ) → k < count → p.start.place k ≡ o.start.place k
  pub from : (k : ℕ) → k < count → p.start.from k ≡ o.start.from k

module _ (s : Stations) (delay way : ℕ → ℕ → ℕ) (same_delay : (i k : ℕ) → i < s.count → k < s.count → delay i k ≡ s.delay i k) where
  abbrev a : Stations
  a = on_line s delay way

  abbrev tick : ℕ → ℕ → ℕ
  tick k q = steady_tick (s.clocks k) q

  -- a bit with an edge
  module _ (d e : ℕ → Bool) (same_d : (k : ℕ) → k < s.count → d k ≡ e k) (due old : ℕ → ℕ) (same_due : (k : ℕ) → k < s.count → due k ≡ old k) where
    reached_is : (f g : ℕ → ℕ) → ((k : ℕ) → k < s.count → f k ≡ g k) → (i q : ℕ) → i < s.count → is_reached a d f i q ≡ is_reached s e g i q
    reached_is f g h i q inside =
        any_same s.count (λ k. d k && (not (k == i) && nat_le (tick k (f k) + delay k i) (tick i q))) (λ k. e k && (not (k == i) && nat_le (tick k (g k) + s.delay k i) (tick i q)))
        (λ k there. ap (λ b. b && (not (k == i) && nat_le (tick k (f k) + delay k i) (tick i q))) (same_d k there)
        ∙ ap (λ n. e k && (not (k == i) && nat_le (tick k n + delay k i) (tick i q))) (h k there)
        ∙ ap (λ n. e k && (not (k == i) && nat_le (tick k (g k) + n) (tick i q))) (same_delay k i there inside))

    found_is : (f g : ℕ → ℕ) → ((k : ℕ) → k < s.count → f k ≡ g k) → (i n : ℕ) → i < s.count → found_before a d f i n ≡ found_before s e g i n
    found_is f g h i n inside = first_cong (is_reached a d f i) (is_reached s e g i) n (λ q less. reached_is f g h i q inside)

    from_due : (i : ℕ) → i < s.count → (r : Option ℕ) → from_found a due i r ≡ from_found s old i r
    from_due i inside None = same_due i inside
    from_due i inside (Some q) = ap (λ n. max q (moved_to (q - 1) (s.lengths i).sjw n)) (same_due i inside)

    place_due : (i : ℕ) → i < s.count → (r : Option ℕ) → place_found a due i r ≡ place_found s old i r
    place_due i inside None = same_due i inside
    place_due i inside (Some q) = ap (λ n. moved_to (q - 1) (s.lengths i).sjw n) (same_due i inside)

    after_is : (m i : ℕ) → i < s.count → from_after a d due m i ≡ from_after s e old m i
    after_is zero i inside = same_due i inside
    after_is (suc m) i inside =
        ap (λ n. from_found a due i (found_before a d (from_after a d due m) i (suc n))) (same_due i inside)
        ∙ ap (from_found a due i) (found_is (from_after a d due m) (from_after s e old m) (λ k there. after_is m k there) i (suc (old i)) inside)
        ∙ from_due i inside (found_before s e (from_after s e old m) i (suc (old i)))

    rounds : most s.count (λ k. tick k (due k)) ≡ most s.count (λ k. tick k (old k))
    rounds = same_most s.count (λ k. tick k (due k)) (λ k. tick k (old k)) (λ k there. ap (tick k) (same_due k there))

    pub edge_from : (i : ℕ) → i < s.count → settled a d due i ≡ settled s e old i
    edge_from i inside = ap (λ m. from_after a d due (suc m) i) rounds ∙ after_is (suc (most s.count (λ k. tick k (old k)))) i inside

    looks_is : (i : ℕ) → i < s.count → looks_up_to a d due i ≡ looks_up_to s e old i
    looks_is i inside =
        ap (λ c. cond c (due i) (most s.count (λ k. tick k (settled a d due k) + delay k i))) (same_d i inside)
        ∙ ap (λ n. cond (e i) n (most s.count (λ k. tick k (settled a d due k) + delay k i))) (same_due i inside)
        ∙ ap (λ n. cond (e i) (old i) n)
        (same_most s.count (λ k. tick k (settled a d due k) + delay k i) (λ k. tick k (settled s e old k) + s.delay k i)
        (λ k there. ap (λ n. tick k n + delay k i) (edge_from k there) ∙ ap (λ n. tick k (settled s e old k) + n) (same_delay k i there inside)))

    pub edge_place : (i : ℕ) → i < s.count → (edge_start a d due).place i ≡ (edge_start s e old).place i
    edge_place i inside =
        ap (λ n. place_found a due i (found_before a d (settled a d due) i (suc n))) (looks_is i inside)
        ∙ ap (place_found a due i) (found_is (settled a d due) (settled s e old) edge_from i (suc (looks_up_to s e old i)) inside)
        ∙ place_due i inside (found_before s e (settled s e old) i (suc (looks_up_to s e old i)))

  module _ (p o : Outset) (alike : AreAlike s.count p o) where
    -- the same reaches each machine, so that it drives the same
    pub same_past : (n k : ℕ) → k < s.count → past_at a p n k ≡ past_at s o n k
    same_past zero k inside = alike.past k inside
    same_past (suc n) k inside =
        ap (λ v. v ++ Sample (sampled (level_of (any_below s.count (wants a p n))) (p.frames k) (p.handed n k)) ∷ []) (same_past n k inside)
        ∙ ap (λ b. past_at s o n k ++ Sample (sampled (level_of b) (p.frames k) (p.handed n k)) ∷ [])
        (any_same s.count (wants a p n) (wants s o n) (λ j there. ap (λ v. is_dominant (drive_of (stretch_of v))) (same_past n j there)))
        ∙ ap (λ f. past_at s o n k ++ Sample (sampled (level_of (any_below s.count (wants s o n))) (f k) (p.handed n k)) ∷ []) alike.frames
        ∙ ap (λ h. past_at s o n k ++ Sample (sampled (level_of (any_below s.count (wants s o n))) (o.frames k) (h n k)) ∷ []) alike.handed

    pub same_wants : (n k : ℕ) → k < s.count → wants a p n k ≡ wants s o n k
    same_wants n k inside = ap (λ v. is_dominant (drive_of (stretch_of v))) (same_past n k inside)

    pub same_any : (n : ℕ) → any_below s.count (wants a p n) ≡ any_below s.count (wants s o n)
    same_any n = any_same s.count (wants a p n) (wants s o n) (λ k there. same_wants n k there)

    -- and each bit begins alike
    pub record BeginAlike (n : ℕ) : Type 0 where
      pub place : (i : ℕ) → i < s.count → (expected_bits a p n).place i ≡ (expected_bits s o n).place i
      pub from : (i : ℕ) → i < s.count → (expected_bits a p n).from i ≡ (expected_bits s o n).from i

    module _ (n : ℕ) (was : BeginAlike n) where
      abbrev due_a : ℕ → ℕ
      due_a i = (expected_bits a p n).place i + bit_quanta (s.lengths i)

      abbrev due_s : ℕ → ℕ
      due_s i = (expected_bits s o n).place i + bit_quanta (s.lengths i)

      same_due : (k : ℕ) → k < s.count → due_a k ≡ due_s k
      same_due k there = ap (λ v. v + bit_quanta (s.lengths k)) (was.place k there)

      abbrev d : ℕ → Bool
      d = wants a p (suc n)

      abbrev e : ℕ → Bool
      e = wants s o (suc n)

      abbrev edge_a : Bool
      edge_a = not (any_below s.count (wants a p n)) && any_below s.count d

      abbrev edge_s : Bool
      edge_s = not (any_below s.count (wants s o n)) && any_below s.count e

      same_edge : edge_a ≡ edge_s
      same_edge = ap (λ b. not b && any_below s.count d) (same_any n) ∙ ap (λ b. not (any_below s.count (wants s o n)) && b) (same_any (suc n))

      abbrev Ea : Start
      Ea = edge_start a d due_a

      abbrev Es : Start
      Es = edge_start s e due_s

      abbrev Pa : Start
      Pa = plain_start d due_a

      abbrev Ps : Start
      Ps = plain_start e due_s

      next_alike : BeginAlike (suc n)
      next_alike = elim (cases_Bool edge_s) [
        | inl edge ↦ record {
          place = λ i inside.
              ap (λ c. (cond c Ea Pa).place i) (same_edge ∙ edge) ∙ edge_place d e (λ k there. same_wants (suc n) k there) due_a due_s same_due i inside ∙ sym (ap (λ c. (cond c Es Ps).place i) edge);
          from = λ i inside.
              ap (λ c. (cond c Ea Pa).from i) (same_edge ∙ edge) ∙ edge_from d e (λ k there. same_wants (suc n) k there) due_a due_s same_due i inside ∙ sym (ap (λ c. (cond c Es Ps).from i) edge);
        }
        | inr plain ↦ record {
          place = λ i inside. ap (λ c. (cond c Ea Pa).place i) (same_edge ∙ plain) ∙ same_due i inside ∙ sym (ap (λ c. (cond c Es Ps).place i) plain);
          from = λ i inside. ap (λ c. (cond c Ea Pa).from i) (same_edge ∙ plain) ∙ same_due i inside ∙ sym (ap (λ c. (cond c Es Ps).from i) plain);
        }
      ]

    pub begin_alike : (n : ℕ) → BeginAlike n
    begin_alike zero = record { place = alike.place; from = alike.from }
    begin_alike (suc n) = next_alike n (begin_alike n)

    -- and the same is driven
    abbrev test : (v : Stations) (u : Outset) → (k t n : ℕ) → Bool
    test v u k t n = wants v u n k && (nat_le (steady_tick (v.clocks k) ((expected_bits v u n).from k)) t && nat_lt t (steady_tick (v.clocks k) ((expected_bits v u (suc n)).from k)))

    pub same_drove : (length k t : ℕ) → k < s.count → expected_drove a p length k t ≡ expected_drove s o length k t
    same_drove length k t there = any_same length (test a p k t) (test s o k t) (λ n less.
        ap (λ b. b && (nat_le (tick k ((expected_bits a p n).from k)) t && nat_lt t (tick k ((expected_bits a p (suc n)).from k)))) (same_wants n k there)
        ∙ ap (λ q. wants s o n k && (nat_le (tick k q) t && nat_lt t (tick k ((expected_bits a p (suc n)).from k)))) ((begin_alike n).from k there)
        ∙ ap (λ q. wants s o n k && (nat_le (tick k ((expected_bits s o n).from k)) t && nat_lt t (tick k q))) ((begin_alike (suc n)).from k there))

-- who drives a bit, by its machine
pub drives_want : (s : Stations) (o : Outset) → ((k : ℕ) → o.start.drives k ≡ is_dominant (drive_of (stretch_of (o.past k)))) → (n k : ℕ) → (expected_bits s o n).drives k ≡ wants s o n k
drives_want s o first zero k = first k
drives_want s o first (suc n) k = elim (cases_Bool (not (any_below s.count (wants s o n)) && any_below s.count (wants s o (suc n)))) [
  | inl edge ↦ ap (λ c. (cond c (edge_start s (wants s o (suc n)) due) (plain_start (wants s o (suc n)) due)).drives k) edge
  | inr plain ↦ ap (λ c. (cond c (edge_start s (wants s o (suc n)) due) (plain_start (wants s o (suc n)) due)).drives k) plain
]
  where
    due : ℕ → ℕ
    due i = (expected_bits s o n).place i + bit_quanta (s.lengths i)
