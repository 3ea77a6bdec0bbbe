-- What is expected of the others is the same with a listener as without it.
use Rattle.std.proofs.Common.{◌≡◌, ◌≢◌, ◌∙◌, ◌⊎◌, inl, inr, refl, sym, ap, subst, ℕ, zero, suc, ◌+◌, ◌-◌, ◌<◌, ◌≤◌, ◌&&◌, ◌||◌, not, cond, Bool, true, false, Some, None, [], ◌∷◌, ◌++◌, arith}
use Rattle.std.specs.Prelude.{◌==◌, nat_le, nat_lt}
use Rattle.std.proofs.lemmas.Bool.{and_parts, cases_Bool, cases_eq, cases_lt, false_from_ne_true, ne_eqb}
use Rattle.wl_level.specs.Levels.{is_dominant, level_of}
use Rattle.wl_segments.specs.Lengths.{bit_quanta}
use Rattle.wl_topology.specs.Driven.{any_below}
use Rattle.wl_topology.proofs.Callers.{any_from, any_one, any_same}
use Rattle.wl_machine.specs.Stretch.Input.{Sample}
use Rattle.wl_machine.specs.Judged.{drive_of, stretch_of}
use Rattle.wl_machine.specs.Frames.{stuffed_end}
use Rattle.wl_phase.specs.Clocks.{steady_tick}
use Rattle.wl_wire.specs.Wire.{sampled}
use Rattle.wl_buses.specs.OneFrame.Stations.{AreStations, HaveRoom, Stations}
use Rattle.wl_buses.specs.OneFrame.Starts.{Start}
use Rattle.wl_buses.specs.OneFrame.Course.{still_sends}
use Rattle.wl_buses.specs.OneFrame.Machines.{HasWon, bus_levels}
use Rattle.wl_buses.specs.OneFrame.Expected.{IsOutset, Outset, edge_start, expected_bits, past_at, plain_start, wants}
use Rattle.wl_buses.specs.FrameEnd.Asked.{EndAsAsked}
use Rattle.wl_buses.specs.OneListener.Beside.{with_listener}
use Rattle.wl_buses.specs.OneListener.Ends.{IsUnheard}
use Rattle.wl_buses.specs.OneListener.Same.{ExpectsTheSame}
use Rattle.wl_buses.proofs.OneFrame.Acks.{another}
use Rattle.wl_buses.proofs.OneFrame.Lines.{no_or}
use Rattle.wl_buses.proofs.OneFrame.Passing.{still_allowed}
use Rattle.wl_buses.proofs.OneFrame.Seeing.{sends_on}
use Rattle.wl_buses.proofs.FrameEnd.Asked.{as_asked}
use Rattle.wl_buses.proofs.FrameEnd.Below.{MachineLaws}
use Rattle.wl_buses.proofs.OneListener.Unchanged as unchanged

module _ (m : MachineLaws) (s : Stations) (are : AreStations (with_listener s)) (room : HaveRoom (with_listener s)) (them : AreStations s) (two : 1 < s.count) (mute : s.may_send s.count ≡ false)
    (o : Outset) (is : IsOutset (with_listener s) o) (end : ℕ) (valid : (n : ℕ) → n < end → stuffed_end (bus_levels (with_listener s) (expected_bits (with_listener s) o) n) ≡ None)
    (over : stuffed_end (bus_levels (with_listener s) (expected_bits (with_listener s) o) end) ≡ Some end) (won : HasWon (with_listener s) (expected_bits (with_listener s) o) o.frames end) where
  abbrev l : ℕ
  l = s.count

  abbrev x : Stations
  x = with_listener s

  abbrev X : ℕ → Start
  X = expected_bits x o

  abbrev Y : ℕ → Start
  Y = expected_bits s o

  inside_l : l < x.count
  inside_l = omega arith

  beside_l : (k : ℕ) → k < s.count → k < x.count
  beside_l k there = omega arith

  pub asked : EndAsAsked x o end won.station won.frame
  asked = as_asked m x are room o is end valid over won

  sends_none : (n : ℕ) → still_sends x X n l ≡ true → ⊥
  sends_none n f = (let may = still_allowed x X is.allowed n l inside_l f in cc)

  -- what the listener drives: nothing but its acknowledgement
  quiet_stuffed : (n : ℕ) → n < end → wants x o n l ≡ false
  quiet_stuffed n less =
      false_from_ne_true (wants x o n l) (λ f. sends_none (suc n) (sends_on m.steps m.errors m.winner m.stuffed m.six m.ten m.driven x are room o is end valid n l less inside_l f))

  quiet_end : (place n : ℕ) → place ≤ 12 → end + place ≡ n → place ≢ 1 → (k : ℕ) → k < x.count → wants x o n k ≡ false
  quiet_end place n small at other k inside =
      ap (λ j. wants x o j k) (sym at) ∙ asked.drives place k small inside ∙ ap (λ b. b && not (k == won.station)) (ne_eqb place 1 other)

  answers : (k : ℕ) → k < x.count → k ≢ won.station → wants x o (suc end) k ≡ true
  answers k inside other =
      (let at : end + 1 ≡ suc end = omega arith in
      ap (λ j. wants x o j k) (sym at) ∙ asked.drives 1 k (omega arith) inside ∙ ap not (ne_eqb k won.station other))

  some_answer : any_below s.count (wants x o (suc end)) ≡ true
  some_answer =
      (let k = another won.station in
      let here : k.0 < s.count = (let h = k.1 in omega arith) in
      any_from s.count k.0 (wants x o (suc end)) here (answers k.0 (beside_l k.0 here) k.2))

  quiet_l : (n : ℕ) → n ≤ end + 12 → n ≢ suc end → wants x o n l ≡ false
  quiet_l n small other = elim (cases_lt n end) [
    | inl stuffed ↦ quiet_stuffed n stuffed
    | inr later ↦ quiet_end (n - end) n (omega arith) (omega arith) (λ f. other (omega (arith, f, later))) l inside_l
  ]

  no_more : (a b : Bool) → a ≡ true → (a || b) ≡ a
  no_more true true e = refl
  no_more true false e = refl
  no_more false b e = cc

  bus_l : (n : ℕ) → n ≤ end + 12 → any_below x.count (wants x o n) ≡ any_below s.count (wants x o n)
  bus_l n small = elim (cases_eq n (suc end)) [
    | inl slot ↦ no_more (any_below s.count (wants x o n)) (wants x o n l) (ap (λ j. any_below s.count (wants x o j)) slot ∙ some_answer)
    | inr other ↦ no_or (any_below s.count (wants x o n)) (wants x o n l) (quiet_l n small other)
  ]

  -- the same reaches each machine
  pub same_past : (n : ℕ) → n ≤ end + 13 → (k : ℕ) → past_at x o n k ≡ past_at s o n k
  same_past zero small k = refl
  same_past (suc n) small k =
      ap (λ b. past_at x o n k ++ Sample (sampled (level_of b) (o.frames k) (o.handed n k)) ∷ [])
      (bus_l n (omega arith) ∙ any_same s.count (wants x o n) (wants s o n) (λ j there. ap (λ p. is_dominant (drive_of (stretch_of p))) (same_past n (omega arith) j)))
      ∙ ap (λ p. p ++ Sample (sampled (level_of (any_below s.count (wants s o n))) (o.frames k) (o.handed n k)) ∷ []) (same_past n (omega arith) k)

  pub same_wants : (n k : ℕ) → n ≤ end + 13 → wants x o n k ≡ wants s o n k
  same_wants n k small = ap (λ p. is_dominant (drive_of (stretch_of p))) (same_past n small k)

  pub same_bus : (n : ℕ) → n ≤ end + 12 → any_below x.count (wants x o n) ≡ any_below s.count (wants s o n)
  same_bus n small = bus_l n small ∙ any_same s.count (wants x o n) (wants s o n) (λ j there. same_wants n j (omega arith))

  -- what it drives reaches no other station before all have begun the ACK slot, which may rest on where the CRC delimiter is
  module _ (unheard : ((i : ℕ) → i < s.count → (X end).place i ≡ (Y end).place i) → IsUnheard s o end) where
    -- each bit begins as without it
    pub record Same (n : ℕ) : Type 0 where
      pub place : (i : ℕ) → i < s.count → (X n).place i ≡ (Y n).place i
      pub from : (i : ℕ) → i < s.count → (X n).from i ≡ (Y n).from i

    module _ (n : ℕ) (small : suc n ≤ end + 12) (was : Same n) where
      abbrev due_x : ℕ → ℕ
      due_x i = (X n).place i + bit_quanta (s.lengths i)

      abbrev due_y : ℕ → ℕ
      due_y i = (Y n).place i + bit_quanta (s.lengths i)

      abbrev d : ℕ → Bool
      d = wants x o (suc n)

      abbrev e : ℕ → Bool
      e = wants s o (suc n)

      same_due : (k : ℕ) → k < s.count → due_x k ≡ due_y k
      same_due k there = ap (λ p. p + bit_quanta (s.lengths k)) (was.place k there)

      abbrev edge_x : Bool
      edge_x = not (any_below x.count (wants x o n)) && any_below x.count d

      abbrev edge_y : Bool
      edge_y = not (any_below s.count (wants s o n)) && any_below s.count e

      same_edge : edge_x ≡ edge_y
      same_edge =
          ap (λ b. not b && any_below x.count d) (same_bus n (omega arith)) ∙ ap (λ b. not (any_below s.count (wants s o n)) && b) (same_bus (suc n) small)

      abbrev Ex : Start
      Ex = edge_start x d due_x

      abbrev Ey : Start
      Ey = edge_start s e due_y

      abbrev Px : Start
      Px = plain_start d due_x

      abbrev Py : Start
      Py = plain_start e due_y

      far : (d l ≡ false) ⊎ ((i k : ℕ) → i < s.count → k < s.count → steady_tick (s.clocks k) (due_x k) + s.delay k i < s.delay l i)
      far = elim (cases_eq (suc n) (suc end)) [
        | inl slot ↦
            inr (λ i k inside there. (let same : n ≡ end = omega (arith, slot) in
            let h = unheard (λ j low. subst (λ q. (X q).place j ≡ (Y q).place j) same (was.place j low)) i k inside there in
            let f : steady_tick (s.clocks k) (due_x k) ≡ steady_tick (s.clocks k) ((X end).place k + bit_quanta (s.lengths k)) = ap (λ j. steady_tick (s.clocks k) ((X j).place k + bit_quanta (s.lengths k))) same in
            omega arith))
        | inr other ↦ inl (quiet_l (suc n) small other)
      ]

      some : edge_y ≡ true → (i : ℕ) → i < s.count → d i ≡ false → (w : ℕ) × (w < s.count) × (d w ≡ true)
      some edge i inside none =
          (let w = any_one s.count e (and_parts (not (any_below s.count (wants s o n))) (any_below s.count e) edge).1 in (w.0, w.1, same_wants (suc n) w.0 (omega arith) ∙ w.2))

      same_next : Same (suc n)
      same_next = elim (cases_Bool edge_y) [
        | inl edge ↦ record {
          place = λ i inside.
              ap (λ c. (cond c Ex Px).place i) (same_edge ∙ edge)
              ∙ unchanged.same_place s are them d e (λ k there. same_wants (suc n) k (omega arith)) due_x due_y same_due far (some edge) i inside ∙ sym (ap (λ c. (cond c Ey Py).place i) edge);
          from = λ i inside.
              ap (λ c. (cond c Ex Px).from i) (same_edge ∙ edge)
              ∙ unchanged.same_from s are them d e (λ k there. same_wants (suc n) k (omega arith)) due_x due_y same_due far (some edge) i inside ∙ sym (ap (λ c. (cond c Ey Py).from i) edge);
        }
        | inr plain ↦ record {
          place = λ i inside. ap (λ c. (cond c Ex Px).place i) (same_edge ∙ plain) ∙ same_due i inside ∙ sym (ap (λ c. (cond c Ey Py).place i) plain);
          from = λ i inside. ap (λ c. (cond c Ex Px).from i) (same_edge ∙ plain) ∙ same_due i inside ∙ sym (ap (λ c. (cond c Ey Py).from i) plain);
        }
      ]

    pub same_at : (n : ℕ) → n ≤ end + 12 → Same n
    same_at zero small = record { place = λ i inside. refl; from = λ i inside. refl }
    same_at (suc n) small = same_next n small (same_at n (omega arith))

    -- and the same is driven
    abbrev test : (b : ℕ → Start) → (w : ℕ → ℕ → Bool) → (k t n : ℕ) → Bool
    test b w k t n = w n k && (nat_le (steady_tick (s.clocks k) ((b n).from k)) t && nat_lt t (steady_tick (s.clocks k) ((b (suc n)).from k)))

    same_test : (k t n : ℕ) → k < s.count → n < end + 13 → test X (wants x o) k t n ≡ test Y (wants s o) k t n
    same_test k t n there less = elim (cases_lt n (end + 12)) [
      | inl before ↦
          ap (λ b. b && (nat_le (steady_tick (s.clocks k) ((X n).from k)) t && nat_lt t (steady_tick (s.clocks k) ((X (suc n)).from k)))) (same_wants n k (omega arith))
          ∙ ap (λ q. wants s o n k && (nat_le (steady_tick (s.clocks k) q) t && nat_lt t (steady_tick (s.clocks k) ((X (suc n)).from k)))) ((same_at n (omega arith)).from k there)
          ∙ ap (λ q. wants s o n k && (nat_le (steady_tick (s.clocks k) ((Y n).from k)) t && nat_lt t (steady_tick (s.clocks k) q))) ((same_at (suc n) (omega arith)).from k there)
      | inr last ↦
          (let none : wants x o n k ≡ false = quiet_end 12 n (omega arith) (omega arith) (λ f. omega (arith, f)) k (beside_l k there) in
          ap (λ b. b && (nat_le (steady_tick (s.clocks k) ((X n).from k)) t && nat_lt t (steady_tick (s.clocks k) ((X (suc n)).from k)))) none
          ∙ sym (ap (λ b. b && (nat_le (steady_tick (s.clocks k) ((Y n).from k)) t && nat_lt t (steady_tick (s.clocks k) ((Y (suc n)).from k)))) (sym (same_wants n k (omega arith)) ∙ none)))
    ]

    pub expects_the_same : ExpectsTheSame s o end
    expects_the_same = record {
      past = λ n k small. same_past n small k;
      place = λ n i small inside. (same_at n small).place i inside;
      from = λ n i small inside. (same_at n small).from i inside;
      drove = λ i t inside. any_same (end + 13) (test X (wants x o) i t) (test Y (wants s o) i t) (λ n less. same_test i t n inside less);
    }
