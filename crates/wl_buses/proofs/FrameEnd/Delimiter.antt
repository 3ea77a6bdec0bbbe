-- The CRC delimiter and the ACK slot that are expected, if no station's slot that begins by itself reaches another one before that one's sample of the CRC delimiter.
use Rattle.std.proofs.Common.{◌≡◌, ◌≢◌, ◌∙◌, ◌⊎◌, inl, inr, refl, sym, ap, subst, ℕ, zero, suc, ◌+◌, ◌-◌, ◌<◌, ◌≤◌, ◌&&◌, ◌||◌, not, cond, Bool, true, false, List, [], ◌∷◌, ◌++◌, Some, None, arith}
use Rattle.std.specs.Prelude.{◌==◌, nat_le, nat_lt}
use Rattle.std.proofs.lemmas.Bool.{and_right, both_ways, cases_Bool, cases_eq, cases_lt, eq-eqb, le-leb, le-ltb, lt-leb, lt-ltb, ne_eqb}
use Rattle.std.proofs.lemmas.List.{length-append}
use Rattle.wl_level.specs.declared.Level.{Level}
use Rattle.wl_level.specs.declared.Level.TheVariants.{Dominant, Recessive}
use Rattle.wl_level.specs.Levels.{is_dominant, level_of}
use Rattle.wl_level.specs.Places.{at}
use Rattle.wl_level.proofs.Callers.{at_front, at_new}
use Rattle.wl_segments.specs.Lengths.{bit_quanta, sample_at}
use Rattle.wl_topology.specs.Driven.{any_below}
use Rattle.wl_topology.proofs.Callers.{any_one}
use Rattle.wl_frame.specs.Grammar.{bits_of}
use Rattle.wl_frame.specs.Laws.{IsEdge, up_to_ack}
use Rattle.wl_frame.proofs.Callers.{length_more}
use Rattle.wl_machine.specs.Frames.{stuffed_end}
use Rattle.wl_phase.specs.Clocks.{steady_tick}
use Rattle.wl_buses.specs.OneFrame.Stations.{AreStations, HaveRoom, Stations}
use Rattle.wl_buses.specs.OneFrame.Starts.{BeginBit, Drives, Start, reaches_at}
use Rattle.wl_buses.specs.OneFrame.OneBit.{FollowsOne}
use Rattle.wl_buses.specs.OneFrame.Course.{begins_with_edge, bus_bit, since_edge}
use Rattle.wl_buses.specs.OneFrame.Machines.{HasWon, bus_levels}
use Rattle.wl_buses.specs.OneFrame.Acknowledged.{IsAnsweredByAll, answering}
use Rattle.wl_buses.specs.OneFrame.Expected.{IsOutset, Outset, edge_start, expected_bits, expected_drove, plain_start, settled, wants}
use Rattle.wl_buses.proofs.OneFrame.AckWays.{begin_there, there_drives}
use Rattle.wl_buses.proofs.OneFrame.Settling.{begin_bit, begins_by, caught}
use Rattle.wl_buses.proofs.OneFrame.Expecting.{drives_are, edge_is, from_all, from_sample, none_driven, plain_is}
use Rattle.wl_buses.proofs.OneFrame.Measures.{tick_next}
use Rattle.wl_buses.proofs.OneFrame.Machines.{level_back, levels_length}
use Rattle.wl_buses.proofs.OneFrame.Lines.{no_or}
use Rattle.wl_buses.specs.FrameEnd.Ends.{end_bit}
use Rattle.wl_buses.specs.FrameEnd.Asked.{EndAsAsked}
use Rattle.wl_buses.proofs.FrameEnd.Below.{MachineLaws}
use Rattle.wl_buses.proofs.FrameEnd.Asked.{and_yes, as_asked, not_first}

-- more numbers below which none passes
any_more : (n p : ℕ) (f : ℕ → Bool) → ((j : ℕ) → j < p → f (n + j) ≡ false) → any_below (n + p) f ≡ any_below n f
any_more n zero f none = (let e : n + 0 ≡ n = omega arith in ap (λ k. any_below k f) e)
any_more n (suc p) f none =
    (let e : n + suc p ≡ suc (n + p) = omega arith in
    ap (λ k. any_below k f) e ∙ ap (λ b. any_below (n + p) f || b) (none p (omega arith)) ∙ no_or (any_below (n + p) f) false refl ∙ any_more n p f (λ j less. none j (omega arith)))

module _ (m : MachineLaws) (s : Stations) (are : AreStations s) (room : HaveRoom s) (o : Outset) (is : IsOutset s o) (end : ℕ)
    (valid : (n : ℕ) → n < end → stuffed_end (bus_levels s (expected_bits s o) n) ≡ None)
    (over : stuffed_end (bus_levels s (expected_bits s o) end) ≡ Some end) (won : HasWon s (expected_bits s o) o.frames end) where
  abbrev bits : ℕ → Start
  bits = expected_bits s o

  abbrev own : List Level
  own = bus_levels s bits end

  abbrev tick : ℕ → ℕ → ℕ
  tick k q = steady_tick (s.clocks k) q

  asked : EndAsAsked s o end won.station won.frame
  asked = as_asked m s are room o is end valid over won

  abbrev pub last : ℕ
  last = (not_first s o end over).0

  pub last_is : suc last ≡ end
  last_is = (not_first s o end over).1

  -- at most eight bits have passed since an edge
  at_bus : (n j : ℕ) → j < n → at (bus_levels s bits n) j ≡ level_of (bus_bit s bits j)
  at_bus zero j less = absurd (omega arith)
  at_bus (suc n) j less = elim (cases_lt j n) [
    | inl below ↦ (let e = levels_length s bits n in at_front (bus_levels s bits n) (level_of (bus_bit s bits n) ∷ []) j (omega arith) ∙ at_bus n j below)
    | inr end_of ↦
        (let e : n ≡ j = omega arith in
        subst (λ i. at (bus_levels s bits (suc n)) i ≡ level_of (bus_bit s bits i)) e (ap (at (bus_levels s bits (suc n))) (sym (levels_length s bits n)) ∙ at_new (bus_levels s bits n) (level_of (bus_bit s bits n))))
  ]

  at_ack : (j : ℕ) → j < end → at (up_to_ack own) j ≡ level_of (bus_bit s bits j)
  at_ack j below =
      (let l = levels_length s bits end in
      let b = length-append own (Recessive ∷ []) in
      at_front (own ++ Recessive ∷ []) (Dominant ∷ []) j (omega arith) ∙ at_front own (Recessive ∷ []) j (omega arith) ∙ at_bus end j below)

  at_delimiter : at (up_to_ack own) end ≡ Recessive
  at_delimiter =
      (let l = levels_length s bits end in
      let b = length_more own Recessive in
      at_front (own ++ Recessive ∷ []) (Dominant ∷ []) end (omega arith) ∙ ap (at (own ++ Recessive ∷ [])) (sym l) ∙ at_new own Recessive)

  edge_by : (k : ℕ) → 0 < k → k < end → IsEdge (up_to_ack own) k → begins_with_edge s bits k ≡ true
  edge_by zero some below edge = absurd (omega arith)
  edge_by (suc j) some below edge =
      (let was : bus_bit s bits j ≡ false = sym (level_back (bus_bit s bits j)) ∙ ap is_dominant (sym (at_ack j (omega arith)) ∙ edge.was) in
      let now : bus_bit s bits (suc j) ≡ true = sym (level_back (bus_bit s bits (suc j))) ∙ ap is_dominant (sym (at_ack (suc j) below) ∙ edge.is) in
      ap (λ b. not b && bus_bit s bits (suc j)) was ∙ now)

  since_upto : (n j : ℕ) → j ≤ n → (j ≡ 0) ⊎ (begins_with_edge s bits j ≡ true) → since_edge s bits n ≤ n - j
  since_upto zero j less edge = omega arith
  since_upto (suc n) j less edge = elim (cases_Bool (begins_with_edge s bits (suc n))) [
    | inl here ↦ (let e : since_edge s bits (suc n) ≡ 0 = ap (λ b. cond b 0 (suc (since_edge s bits n))) here in omega arith)
    | inr plain ↦ (let e : since_edge s bits (suc n) ≡ suc (since_edge s bits n) = ap (λ b. cond b 0 (suc (since_edge s bits n))) plain in
        elim (cases_lt j (suc n)) [
          | inl below ↦ (let before = since_upto n j (omega arith) edge in omega arith)
          | inr end_of ↦ (let same : j ≡ suc n = omega arith in elim edge [
            | inl first ↦ absurd (omega (arith, same, first))
            | inr edge_there ↦ absurd (both_ways (begins_with_edge s bits (suc n)) plain (ap (begins_with_edge s bits) (sym same) ∙ edge_there))
          ])
        ])
  ]

  not_recessive : Recessive ≡ Dominant → ⊥
  not_recessive e = cc

  pub few : since_edge s bits last ≤ 8
  few = elim (cases_lt end 10) [
    | inl small ↦ (let b = last_is in let e = since_upto last 0 (omega arith) (inl refl) in omega arith)
    | inr large ↦
        (let b = last_is in
        let l = levels_length s bits end in
        let a = length_more own Recessive in
        let c = length_more (own ++ Recessive ∷ []) Dominant in
        let edge = m.ten (bits_of won.frame) own (end - 9) won.stuffs (omega arith) in
        let low = edge.1 in
        let high = edge.2 in
        elim (cases_eq edge.0 end) [
          | inl here ↦ absurd (not_recessive (sym at_delimiter ∙ ap (at (up_to_ack own)) (sym here) ∙ edge.3.is))
          | inr other ↦
              (let inside : edge.0 < end = omega (arith, other) in
              let by = since_upto last edge.0 (omega arith) (inr (edge_by edge.0 (omega arith) inside edge.3)) in
              omega arith)
        ])
  ]

  -- the CRC delimiter
  bus_end : bus_bit s bits end ≡ false
  bus_end = (let e : end + 0 ≡ end = omega arith in ap (bus_bit s bits) (sym e) ∙ asked.bus 0 (omega arith))

  bus_slot : bus_bit s bits (suc end) ≡ true
  bus_slot = (let e : end + 1 ≡ suc end = omega arith in ap (bus_bit s bits) (sym e) ∙ asked.bus 1 (omega arith))

  bus_after : bus_bit s bits (suc (suc end)) ≡ false
  bus_after = (let e : end + 2 ≡ suc (suc end) = omega arith in ap (bus_bit s bits) (sym e) ∙ asked.bus 2 (omega arith))

  pub D : ℕ → ℕ
  D = (bits end).place

  delimiter_is : (bits (suc last)) ≡ plain_start (wants s o (suc last)) (λ i. (bits last).place i + bit_quanta (s.lengths i))
  delimiter_is =
      plain_is m.steps m.errors m.winner m.stuffed m.six m.ten s are room o is last
      (ap (λ b. not (bus_bit s bits last) && b) (ap (bus_bit s bits) last_is ∙ bus_end) ∙ and_right (not (bus_bit s bits last)) false refl)

  end_is : bits (suc last) ≡ bits end
  end_is = ap bits last_is

  pub delimiter_place : (i : ℕ) → (bits end).place i ≡ (bits last).place i + bit_quanta (s.lengths i)
  delimiter_place i = ap (λ b. b.place i) (sym end_is ∙ delimiter_is)

  pub delimiter_from : (i : ℕ) → (bits end).from i ≡ (bits end).place i
  delimiter_from i = ap (λ b. b.from i) (sym end_is ∙ delimiter_is) ∙ sym (delimiter_place i)

  -- the slot
  abbrev d : ℕ → Bool
  d = wants s o (suc end)

  abbrev due : ℕ → ℕ
  due i = (bits end).place i + bit_quanta (s.lengths i)

  abbrev e : Start
  e = edge_start s d due

  pub slot_edge : begins_with_edge s bits (suc end) ≡ true
  slot_edge = ap (λ b. not b && bus_bit s bits (suc end)) bus_end ∙ bus_slot

  pub slot_is : bits (suc end) ≡ e
  slot_is = edge_is m.steps m.errors m.winner m.stuffed m.six m.ten s are room o is end slot_edge

  pub over_is : bits (suc (suc end)) ≡ plain_start (wants s o (suc (suc end))) (λ i. (bits (suc end)).place i + bit_quanta (s.lengths i))
  over_is =
      plain_is m.steps m.errors m.winner m.stuffed m.six m.ten s are room o is (suc end)
      (ap (λ b. not (bus_bit s bits (suc end)) && b) bus_after ∙ and_right (not (bus_bit s bits (suc end))) false refl)

  -- what is driven in the end of the frame
  abbrev drove : ℕ → ℕ → Bool
  drove = expected_drove s o (end + 13)

  abbrev was : ℕ → ℕ → Bool
  was = expected_drove s o end

  abbrev test : (k u n : ℕ) → Bool
  test k u n = wants s o n k && (nat_le (tick k ((bits n).from k)) u && nat_lt u (tick k ((bits (suc n)).from k)))

  no_test : (k u n place : ℕ) → k < s.count → place ≤ 12 → end + place ≡ n → end_bit place ≡ false → test k u n ≡ false
  no_test k u n place there small same none =
      ap (λ b. b && (nat_le (tick k ((bits n).from k)) u && nat_lt u (tick k ((bits (suc n)).from k))))
      (ap (λ j. wants s o j k) (sym same) ∙ asked.drives place k small there ∙ ap (λ b. b && not (k == won.station)) none)

  pub drove_is : (k u : ℕ) → k < s.count → drove k u ≡ (was k u || test k u (suc end))
  drove_is k u there =
      let more : suc (suc end) + 11 ≡ end + 13 = omega arith in
      ap (λ n. any_below n (test k u)) (sym more)
      ∙ any_more (suc (suc end)) 11 (test k u) (λ j less. no_test k u (suc (suc end) + j) (2 + j) there (omega arith) (omega arith) (ne_eqb (2 + j) 1 (λ f. omega (arith, f))))
      ∙ ap (λ b. (was k u || b) || test k u (suc end)) (no_test k u end 0 there (omega arith) (omega arith) refl)
      ∙ ap (λ b. b || test k u (suc end)) (no_or (was k u) false refl)

  pub slot_from : (k : ℕ) → (bits (suc end)).from k ≡ e.from k
  slot_from k = ap (λ b. b.from k) slot_is

  pub over_from : (k : ℕ) → (bits (suc (suc end))).from k ≡ (bits (suc end)).place k + bit_quanta (s.lengths k)
  over_from k = ap (λ b. b.from k) over_is

  before_test : (k u : ℕ) → u < tick k ((bits (suc end)).from k) → test k u (suc end) ≡ false
  before_test k u less =
      ap (λ b. d k && (b && nat_lt u (tick k ((bits (suc (suc end))).from k)))) (lt-leb (tick k ((bits (suc end)).from k)) u less) ∙ and_right (d k) false refl

  -- before the slot it is what the stuffed part drives
  pub drove_before : (k u : ℕ) → k < s.count → u < tick k ((bits (suc end)).from k) → drove k u ≡ was k u
  drove_before k u there less = drove_is k u there ∙ ap (λ b. was k u || b) (before_test k u less) ∙ no_or (was k u) false refl

  -- and that is nothing from the CRC delimiter on
  pub was_quiet : (k u : ℕ) → k < s.count → tick k ((bits end).place k) ≤ u → was k u ≡ false
  was_quiet k u there from =
      none_driven m.steps m.errors m.winner m.stuffed m.six m.ten s are room o is end valid k u
      (λ n inside dominant low high. (let up = from_all m.steps m.errors m.winner m.stuffed m.six m.ten s are room o is end valid (suc n) end k (omega arith) (omega arith) there in
      let f : tick k ((bits end).from k) ≡ tick k ((bits end).place k) = ap (tick k) (delimiter_from k) in
      absurd (omega arith)))

  -- how the slot begins
  module _ (alone : (i k : ℕ) → i < s.count → k < s.count → i ≢ k → settled s d due k ≡ due k → tick i ((bits end).place i + sample_at (s.lengths i)) < reaches_at s e k i) where
    abbrev sample : ℕ → ℕ
    sample i = tick i ((bits end).place i + sample_at (s.lengths i))

    abbrev Early : ℕ → Type 0
    Early n = (k : ℕ) → k < s.count → tick k (settled s d due k) < n → (i : ℕ) → i < s.count → i ≢ k → sample i < reaches_at s e k i

    own_after : (n : ℕ) → Early n → (i : ℕ) → i < s.count → tick i (settled s d due i) < suc n → sample i ≤ tick i (settled s d due i)
    own_after n early i inside less = elim (begins_by s are d due i inside (caught s are d due i) refl) [
      | inl from ↦ tick_next s are i inside ((bits end).place i + sample_at (s.lengths i)) (settled s d due i) (omega arith)
      | inr by ↦
          (let way = are.line.later by.1 i by.2.inside inside in
          let up = tick_next s are i inside by.0 (settled s d due i) by.4 in
          let reach = by.3 in
          let before = early by.1 by.2.inside (omega arith) i inside (λ f. by.2.other (sym f)) in
          omega arith)
    ]

    early : (n : ℕ) → Early n
    early zero k there less i inside other = absurd (omega arith)
    early (suc n) k there less i inside other = elim (begins_by s are d due k there (caught s are d due k) refl) [
      | inl from ↦ alone i k inside there other from
      | inr by ↦
          (let way = are.line.later by.1 k by.2.inside there in
          let up = tick_next s are k there by.0 (settled s d due k) by.4 in
          let reach = by.3 in
          elim (cases_eq by.1 i) [
            | inl mine ↦
                (let back = are.line.later k i there inside in
                let same : tick by.1 (settled s d due by.1) ≡ tick i (settled s d due i) = ap (λ w. tick w (settled s d due w)) mine in
                let after = own_after n (early n) i inside (omega arith) in
                omega arith)
            | inr third ↦
                (let before = early n by.1 by.2.inside (omega arith) i inside (λ f. third (sym f)) in
                let detour = are.line.detours by.1 k i by.2.inside there inside in
                omega arith)
          ])
    ]

    pub early_all : (i k : ℕ) → i < s.count → k < s.count → i ≢ k → sample i < reaches_at s e k i
    early_all i k inside there other = early (suc (tick k (settled s d due k))) k there (omega arith) i inside other

    pub begin_slot : BeginBit s e
    begin_slot =
        let some = any_one s.count (bits (suc end)).drives bus_slot in
        begin_bit s are d due
        (λ i k inside x. (let early = early_all i k inside x.inside (λ f. x.other (sym f)) in let up = tick_next s are i inside 0 ((bits end).place i + sample_at (s.lengths i)) (omega arith) in omega arith))
        some.0 some.1 (sym (drives_are m.steps m.errors m.winner m.stuffed m.six m.ten s are room o is (suc end) some.0) ∙ some.2)

    pub slot_after : (k : ℕ) → k < s.count → (bits end).place k + sample_at (s.lengths k) < e.from k
    slot_after k there = by (begins_by s are d due k there (caught s are d due k) refl)
      where
        by : (settled s d due k ≡ due k) ⊎ ((q : ℕ) × (w : ℕ) × Drives s e k w × (reaches_at s e w k ≤ tick k q) × (q ≤ settled s d due k))
            → (bits end).place k + sample_at (s.lengths k) < settled s d due k
        by (inl from) = let low = (are.line.book k there).lengths.ps2_low in omega arith
        by (inr x) = elim (cases_lt ((bits end).place k + sample_at (s.lengths k)) x.0) [
          | inl later ↦ (let low = x.4 in omega arith)
          | inr sooner ↦
              (let up = tick_next s are k there x.0 ((bits end).place k + sample_at (s.lengths k)) sooner in
              let early = early_all k x.1 there x.2.inside (λ f. x.2.other (sym f)) in
              let reach = x.3 in
              absurd (omega arith))
        ]

    pub slot_next : (late : ℕ → ℕ → ℕ) (k : ℕ) → k < s.count → (e.from k ≡ (bits end).place k + bit_quanta (s.lengths k)) ⊎ FollowsOne (answering s late) e k
    slot_next late k there = by (begins_by s are d due k there (caught s are d due k) refl)
      where
        by : (settled s d due k ≡ due k) ⊎ ((q : ℕ) × (w : ℕ) × Drives s e k w × (reaches_at s e w k ≤ tick k q) × (q ≤ settled s d due k))
            → (e.from k ≡ (bits end).place k + bit_quanta (s.lengths k)) ⊎ FollowsOne (answering s late) e k
        by (inl from) = inl from
        by (inr x) = inr (x.1, there_drives s (λ i. true) late e k x.1 x.2, (let up = tick_next s are k there x.0 (settled s d due k) x.4 in let reach = x.3 in omega arith))

    pub slot_after_delimiter : (k : ℕ) → k < s.count → tick k ((bits end).place k) ≤ tick k ((bits (suc end)).from k)
    slot_after_delimiter k there =
        let after = slot_after k there in
        let same = slot_from k in
        tick_next s are k there ((bits end).place k) ((bits (suc end)).from k) (omega arith)

    pub drove_slot : (k u : ℕ) → k < s.count → tick k ((bits (suc end)).from k) ≤ u → u < tick k ((bits (suc (suc end))).from k) → drove k u ≡ d k
    drove_slot k u there from less =
        let first = slot_after_delimiter k there in
        drove_is k u there ∙ ap (λ b. b || test k u (suc end)) (was_quiet k u there (omega arith))
        ∙ ap (λ b. d k && (b && nat_lt u (tick k ((bits (suc (suc end))).from k)))) (le-leb (tick k ((bits (suc end)).from k)) u from)
        ∙ ap (λ b. d k && b) (lt-ltb u (tick k ((bits (suc (suc end))).from k)) less) ∙ and_yes (d k)

    pub drove_after : (k u : ℕ) → k < s.count → tick k ((bits (suc end)).from k) ≤ u → tick k ((bits (suc (suc end))).from k) ≤ u → drove k u ≡ false
    drove_after k u there from more =
        let first = slot_after_delimiter k there in
        drove_is k u there ∙ ap (λ b. b || test k u (suc end)) (was_quiet k u there (omega arith))
        ∙ ap (λ b. d k && (nat_le (tick k ((bits (suc end)).from k)) u && b)) (le-ltb u (tick k ((bits (suc (suc end))).from k)) more)
        ∙ ap (λ b. d k && b) (and_right (nat_le (tick k ((bits (suc end)).from k)) u) false refl) ∙ and_right (d k) false refl

    from_sample_slot : (k : ℕ) → k < s.count → (bits (suc end)).from k ≤ (bits (suc end)).place k + sample_at (s.lengths k)
    from_sample_slot k there = from_sample m.steps m.errors m.winner m.stuffed m.six m.ten s are room o is end valid (suc end) k there

    pub over_after : (k : ℕ) → k < s.count → (bits (suc end)).place k + sample_at (s.lengths k) < (bits (suc (suc end))).from k
    over_after k there = let same = over_from k in let low = (are.line.book k there).lengths.ps2_low in omega arith

    pub slot_up : (k : ℕ) → k < s.count → tick k ((bits (suc end)).from k) ≤ tick k ((bits (suc (suc end))).from k)
    slot_up k there =
        let one = from_sample_slot k there in
        let two = over_after k there in
        tick_next s are k there ((bits (suc end)).from k) ((bits (suc (suc end))).from k) (omega arith)

    pub slot_drives : (k : ℕ) → (bits (suc end)).drives k ≡ d k
    slot_drives k = drives_are m.steps m.errors m.winner m.stuffed m.six m.ten s are room o is (suc end) k

    pub slot_wants : (k : ℕ) → k < s.count → d k ≡ not (k == won.station)
    slot_wants k there = (let f : end + 1 ≡ suc end = omega arith in ap (λ n. wants s o n k) (sym f) ∙ asked.drives 1 k (omega arith) there)

    pub answered : (late : ℕ → ℕ → ℕ) (until : ℕ → ℕ) → IsAnsweredByAll s late won.station (bits end).place (bits (suc end)) (bits (suc (suc end))).from drove until
    answered late until = record {
      some = (let two = is.frames.two in omega arith);
      answers = λ k there other. slot_drives k ∙ slot_wants k there ∙ ap not (ne_eqb k won.station other);
      waits = slot_drives won.station ∙ slot_wants won.station won.inside ∙ ap not (eq-eqb won.station won.station refl);
      due = λ k there. ap (λ b. b.due k) slot_is;
      after = λ k there. (let same = slot_from k in let after = slot_after k there in omega arith);
      next = λ k there right. subst (λ b. (b.from k ≡ (bits end).place k + bit_quanta (s.lengths k)) ⊎ FollowsOne (answering s late) b k) (sym slot_is) (slot_next late k there);
      begin = λ right. subst (BeginBit (answering s late)) (sym slot_is) (begin_there s (λ i. true) late e begin_slot);
      later = over_after;
      ends = λ k there right. over_from k;
      quiet = λ k u there from less. (let first = slot_after_delimiter k there in drove_before k u there less ∙ was_quiet k u there from);
      drives = λ k u there right from less. drove_slot k u there from less ∙ sym (slot_drives k);
      rests = λ k u there right from less. (let up = slot_up k there in drove_after k u there (omega arith) from);
    }
