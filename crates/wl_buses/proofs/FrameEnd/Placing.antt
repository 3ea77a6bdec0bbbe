-- Where the bits at the end of a frame are at each station, whatever it finds.
use Rattle.std.proofs.Common.{◌≡◌, ◌∙◌, ◌⊎◌, inl, inr, refl, sym, ap, subst, ℕ, zero, suc, ◌+◌, ◌-◌, ◌*◌, ◌<◌, ◌≤◌, ◌&&◌, ◌||◌, Bool, true, false, Some, None, arith}
use Rattle.std.specs.Prelude.{nat_le, nat_lt}
use Rattle.std.proofs.lemmas.Bool.{cases_Bool, cases_eq, cases_lt, ne_eqb}
use Rattle.wl_segments.specs.Lengths.{bit_quanta}
use Rattle.wl_topology.specs.Driven.{driven}
use Rattle.wl_machine.specs.Frames.{stuffed_end}
use Rattle.wl_phase.specs.Clocks.{steady_tick}
use Rattle.wl_buses.specs.OneFrame.Stations.{AreStations, HaveRoom, Stations}
use Rattle.wl_buses.specs.OneFrame.Starts.{Drives, Start, reaches_at}
use Rattle.wl_buses.specs.OneFrame.Course.{bus_bit}
use Rattle.wl_buses.specs.OneFrame.Machines.{HasWon, bus_levels}
use Rattle.wl_buses.specs.OneFrame.Expected.{IsOutset, Outset, edge_start, expected_bits, expected_drove, expected_sample, settled, wants}
use Rattle.wl_buses.proofs.OneFrame.Expecting.{plain_is}
use Rattle.wl_buses.proofs.OneFrame.Measures.{tick_next}
use Rattle.wl_buses.proofs.OneFrame.Seeing.{place_up, plain_when}
use Rattle.wl_buses.proofs.OneFrame.Settling.{begins_by, caught}
use Rattle.wl_buses.specs.FrameEnd.Ends.{end_bit}
use Rattle.wl_buses.specs.FrameEnd.Asked.{EndAsAsked}
use Rattle.wl_buses.proofs.FrameEnd.Below.{MachineLaws}
use Rattle.wl_buses.proofs.FrameEnd.Asked.{as_asked}
use Rattle.wl_buses.proofs.OneFrame.Lines.{no_or}
use Rattle.wl_buses.proofs.FrameEnd.Delimiter as delimiter
use Rattle.wl_buses.proofs.FrameEnd.Delimiter.{last, last_is, slot_is}

module _ (m : MachineLaws) (s : Stations) (are : AreStations s) (room : HaveRoom s) (o : Outset) (is : IsOutset s o) (end : ℕ)
    (valid : (n : ℕ) → n < end → stuffed_end (bus_levels s (expected_bits s o) n) ≡ None)
    (over : stuffed_end (bus_levels s (expected_bits s o) end) ≡ Some end) (won : HasWon s (expected_bits s o) o.frames end) where
  abbrev bits : ℕ → Start
  bits = expected_bits s o

  abbrev bus : ℕ → Bool
  bus = bus_bit s bits

  abbrev tick : ℕ → ℕ → ℕ
  tick k q = steady_tick (s.clocks k) q

  abbrev dues : ℕ → ℕ → ℕ
  dues n i = (bits n).place i + bit_quanta (s.lengths i)

  abbrev S : ℕ → ℕ → ℕ
  S n i = expected_sample s o n i

  asked : EndAsAsked s o end won.station won.frame
  asked = as_asked m s are room o is end valid over won

  abbrev pub z : ℕ
  z = last m s are room o is end valid over won

  pub z_is : suc z ≡ end
  z_is = last_is m s are room o is end valid over won

  pub bus_at : (place n : ℕ) → place ≤ 12 → end + place ≡ n → bus n ≡ end_bit place
  bus_at place n small e = ap bus (sym e) ∙ asked.bus place small

  pub plain_place : (n i : ℕ) → bus (suc n) ≡ false → (bits (suc n)).place i ≡ dues n i
  plain_place n i e = ap (λ b. b.place i) (plain_is m.steps m.errors m.winner m.stuffed m.six m.ten s are room o is n (plain_when m.steps m.errors m.winner m.stuffed m.six m.ten m.driven s are room o is end valid n e))

  pub plain_from : (n i : ℕ) → bus (suc n) ≡ false → (bits (suc n)).from i ≡ dues n i
  plain_from n i e = ap (λ b. b.from i) (plain_is m.steps m.errors m.winner m.stuffed m.six m.ten s are room o is n (plain_when m.steps m.errors m.winner m.stuffed m.six m.ten m.driven s are room o is end valid n e))

  pub delimiter_wants : (i : ℕ) → i < s.count → wants s o end i ≡ false
  delimiter_wants i inside = (let f : end + 0 ≡ end = omega arith in ap (λ n. wants s o n i) (sym f) ∙ asked.drives 0 i (omega arith) inside)

  -- samples go up
  pub samples_up : (a n i : ℕ) → i < s.count → a ≤ n → S a i ≤ S n i
  samples_up a zero i inside less = (let f : zero ≡ a = omega arith in let g : S zero i ≡ S a i = ap (λ k. S k i) f in omega arith)
  samples_up a (suc n) i inside less = elim (cases_lt n a) [
    | inl end_of ↦ (let f : suc n ≡ a = omega arith in let g : S (suc n) i ≡ S a i = ap (λ k. S k i) f in omega arith)
    | inr below ↦
        (let up = samples_up a n i inside below in
        let l = (are.line.book i inside).lengths in
        let long = l.low in
        let jump = l.sjw_half in
        let one = place_up m.steps m.errors m.winner m.stuffed m.six m.ten m.driven s are room o is end valid n i in
        omega arith)
  ]

  pub sample_more : (n i : ℕ) → i < s.count → S n i < S (suc n) i
  sample_more n i inside =
      let l = (are.line.book i inside).lengths in
      let long = l.low in
      let jump = l.sjw_half in
      let one = place_up m.steps m.errors m.winner m.stuffed m.six m.ten m.driven s are room o is end valid n i in
      omega arith

  -- each bit after the slot is a bit later
  pub place_after : (n i : ℕ) → n ≤ 11 → (bits (suc end + n)).place i ≡ (bits (suc end)).place i + n * bit_quanta (s.lengths i)
  place_after zero i small = (let e : suc end + 0 ≡ suc end = omega arith in ap (λ k. (bits k).place i) e ∙ (let f : (bits (suc end)).place i ≡ (bits (suc end)).place i + 0 * bit_quanta (s.lengths i) = omega arith in f))
  place_after (suc n) i small =
      (let e : suc end + suc n ≡ suc (suc end + n) = omega arith in
      let none = bus_at (2 + n) (suc (suc end + n)) (omega arith) (omega arith) ∙ ne_eqb (2 + n) 1 (λ f. omega (arith, f)) in
      let before = place_after n i (omega arith) in
      let next = plain_place (suc end + n) i none in
      ap (λ k. (bits k).place i) e ∙ omega arith)

  pub last_place : (i : ℕ) → (bits (end + 12)).place i ≡ (bits (suc end)).place i + 11 * bit_quanta (s.lengths i)
  last_place i = (let e : suc end + 11 ≡ end + 12 = omega arith in ap (λ k. (bits k).place i) (sym e) ∙ place_after 11 i (omega arith))

  pub second_place : (i : ℕ) → (bits (end + 11)).place i ≡ (bits (suc end)).place i + 10 * bit_quanta (s.lengths i)
  second_place i = (let e : suc end + 10 ≡ end + 11 = omega arith in ap (λ k. (bits k).place i) (sym e) ∙ place_after 10 i (omega arith))

  -- a station begins each bit after its sample of the one before, if no acknowledgement reaches it before its sample of the CRC delimiter
  module _ (i : ℕ) (inside : i < s.count) (later : (k : ℕ) → Drives s (bits (suc end)) i k → tick i (S end i) < reaches_at s (bits (suc end)) k i) where
    abbrev d : ℕ → Bool
    d = wants s o (suc end)

    abbrev e : Start
    e = edge_start s d (dues end)

    slot_same : bits (suc end) ≡ e
    slot_same = slot_is m s are room o is end valid over won

    pub slot_after : S end i < (bits (suc end)).from i
    slot_after = by (begins_by s are d (dues end) i inside (caught s are d (dues end) i) refl)
      where
        same : (bits (suc end)).from i ≡ e.from i
        same = ap (λ b. b.from i) slot_same

        by : (settled s d (dues end) i ≡ dues end i) ⊎ ((q : ℕ) × (w : ℕ) × Drives s e i w × (reaches_at s e w i ≤ tick i q) × (q ≤ settled s d (dues end) i))
            → S end i < (bits (suc end)).from i
        by (inl from) = let low = (are.line.book i inside).lengths.ps2_low in let f = same in omega arith
        by (inr x) = elim (cases_lt (S end i) x.0) [
          | inl after ↦ (let low = x.4 in let f = same in omega arith)
          | inr sooner ↦
              (let up = tick_next s are i inside x.0 (S end i) sooner in
              let early = later x.1 (subst (λ b. Drives s b i x.1) (sym slot_same) x.2) in
              let g : reaches_at s (bits (suc end)) x.1 i ≡ reaches_at s e x.1 i = ap (λ b. reaches_at s b x.1 i) slot_same in
              let reach = x.3 in
              absurd (omega arith))
        ]

    pub begins_after : (place n : ℕ) → place ≤ 12 → end + place ≡ suc n → S n i < (bits (suc n)).from i
    begins_after place n small at = elim (cases_eq place 1) [
      | inl slot ↦
          (let same : n ≡ end = omega (arith, at, slot) in
          let after = slot_after in
          let f : (bits (suc n)).from i ≡ (bits (suc end)).from i = ap (λ k. (bits (suc k)).from i) same in
          let g : S n i ≡ S end i = ap (λ k. S k i) same in
          omega arith)
      | inr other ↦
          (let f = plain_from n i (bus_at place (suc n) small at ∙ ne_eqb place 1 other) in
          let low_ps2 = (are.line.book i inside).lengths.ps2_low in
          omega arith)
    ]

    -- up to its sample of the CRC delimiter it finds what the stuffed part drives
    abbrev u_at : ℕ → ℕ → ℕ
    u_at q k = tick i q - s.delay k i

    same_drove : (k q : ℕ) → k < s.count → q ≤ S end i → s.delay k i ≤ tick i q → d k ≡ true → expected_drove s o (end + 13) k (u_at q k) ≡ expected_drove s o end k (u_at q k)
    same_drove k q there by_end come dominant =
        let up = tick_next s are i inside q (S end i) by_end in
        delimiter.drove_before m s are room o is end valid over won k (u_at q k) there (elim (cases_eq k i) [
          | inl own ↦
              (let after = slot_after in
              let next = tick_next s are i inside (S end i) ((bits (suc end)).from i) (omega arith) in
              let loop = are.line.later i i inside inside in
              subst (λ w. tick i q - s.delay w i < tick w ((bits (suc end)).from w)) (sym own) (omega arith))
          | inr other ↦
              (let first = later k (record { inside = there; other = other; dominant = ap (λ b. b.drives k) slot_same ∙ dominant }) in omega arith)
        ])

    no_drove : (k u : ℕ) → k < s.count → d k ≡ false → expected_drove s o (end + 13) k u ≡ expected_drove s o end k u
    no_drove k u there none =
        delimiter.drove_is m s are room o is end valid over won k u there
        ∙ ap (λ b. expected_drove s o end k u || (b && (nat_le (tick k ((bits (suc end)).from k)) u && nat_lt u (tick k ((bits (suc (suc end))).from k))))) none
        ∙ no_or (expected_drove s o end k u) false refl

    pub found_was : (q : ℕ) → q ≤ S end i
        → driven s.count s.delay (expected_drove s o (end + 13)) i (tick i q) ≡ driven s.count s.delay (expected_drove s o end) i (tick i q)
    found_was q by_end =
        m.driven.same s.count s.delay (expected_drove s o (end + 13)) (expected_drove s o end) i (tick i q)
        (λ k there come. elim (cases_Bool (d k)) [
          | inl dominant ↦ same_drove k q there by_end come dominant
          | inr none ↦ no_drove k (u_at q k) there none
        ])
