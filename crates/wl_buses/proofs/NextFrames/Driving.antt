-- What a node drives in a frame that it goes through, quantum by quantum.
use Rattle.std.proofs.Common.{◌≡◌, ◌∙◌, inl, inr, sym, ap, ℕ, zero, suc, ◌+◌, ◌-◌, ◌<◌, ◌≤◌, ◌&&◌, not, refl, Bool, false, Some, None, arith}
use Rattle.std.specs.Prelude.{◌==◌, nat_le, nat_lt}
use Rattle.std.proofs.lemmas.Bool.{and_right, cases_eq, cases_lt, le-leb, le-ltb, lt-leb, lt-ltb, ne_eqb}
use Rattle.std.proofs.Math.Bool.{and-true}
use Rattle.wl_level.specs.declared.Level.{Level}
use Rattle.wl_level.specs.Levels.{is_dominant, level_of}
use Rattle.wl_topology.proofs.Callers.{any_none}
use Rattle.wl_frame.specs.Grammar.{Content}
use Rattle.wl_machine.specs.Frames.{stuffed_end}
use Rattle.wl_node.specs.declared.setup.NodeSetup.{NodeSetup}
use Rattle.wl_node.specs.History.{History}
use Rattle.wl_phase.specs.Clocks.{steady_tick}
use Rattle.wl_buses.specs.OneFrame.Expected.{IsOutset, Outset, expected_bits, expected_drove, expected_sample, wants}
use Rattle.wl_buses.specs.OneFrame.Machines.{HasWon, bus_levels}
use Rattle.wl_buses.specs.OneFrame.Starts.{Drives, reaches_at}
use Rattle.wl_buses.specs.OneFrame.Stations.{AreStations, HaveRoom, Stations}
use Rattle.wl_buses.proofs.OneFrame.Expecting.{after_there, from_sample}
use Rattle.wl_buses.proofs.OneFrame.Machines.{level_back}
use Rattle.wl_buses.proofs.OneFrame.Measures.{tick_next}
use Rattle.wl_buses.specs.FrameEnd.Asked.{EndAsAsked}
use Rattle.wl_buses.proofs.FrameEnd.Below.{MachineLaws}
use Rattle.wl_buses.proofs.FrameEnd.Placing.{begins_after, samples_up}
use Rattle.wl_buses.specs.NextFrames.NextNodes.{GoesThrough}
use Rattle.wl_buses.proofs.NextFrames.Windows.{any_alone}

module _ (m : MachineLaws) (s : Stations) (are : AreStations s) (room : HaveRoom s) (o : Outset) (is : IsOutset s o) (end : ℕ)
    (valid : (n : ℕ) → n < end → stuffed_end (bus_levels s (expected_bits s o) n) ≡ None)
    (over : stuffed_end (bus_levels s (expected_bits s o) end) ≡ Some end) (won : HasWon s (expected_bits s o) o.frames end)
    (asked : EndAsAsked s o end won.station won.frame) (i : ℕ) (inside : i < s.count)
    (later : (k : ℕ) → Drives s (expected_bits s o (suc end)) i k → steady_tick (s.clocks i) (expected_sample s o end i) < reaches_at s (expected_bits s o (suc end)) k i) where
  abbrev S : ℕ → ℕ
  S n = expected_sample s o n i

  abbrev from : ℕ → ℕ
  from n = (expected_bits s o n).from i

  abbrev tick : ℕ → ℕ
  tick q = steady_tick (s.clocks i) q

  -- each bit begins after the sample of the one before, and by its own
  begun : (n : ℕ) → n < end + 12 → S n < from (suc n)
  begun n less = elim (cases_lt n end) [
    | inl early ↦ after_there m.steps m.errors m.winner m.stuffed m.six m.ten s are room o is end valid n i early inside
    | inr late ↦ begins_after m s are room o is end valid over won i inside later (suc n - end) n (omega arith) (omega arith)
  ]

  by_sample : (n : ℕ) → from n ≤ S n
  by_sample n = from_sample m.steps m.errors m.winner m.stuffed m.six m.ten s are room o is end valid n i inside

  pub from_later : (a n : ℕ) → a ≤ n → n ≤ end + 12 → from a ≤ from n
  from_later a n less high = elim (cases_eq a n) [
    | inl same ↦ (let e : from a ≡ from n = ap from same in omega arith)
    | inr other ↦
        (let one = by_sample a in
        let two = samples_up m s are room o is end valid over won a (n - 1) i inside (omega (arith, other, less)) in
        let three = begun (n - 1) (omega (arith, other, less)) in
        let e : suc (n - 1) ≡ n = omega (arith, other, less) in
        let f : from (suc (n - 1)) ≡ from n = ap from e in
        omega arith)
  ]

  ticks : (a n : ℕ) → a ≤ n → tick a ≤ tick n
  ticks a n less = tick_next s are i inside a n less

  -- nothing in the two bits before the next frame may begin
  last_none : (place : ℕ) → 11 ≤ place → place ≤ 12 → wants s o (end + place) i ≡ false
  last_none place low high = asked.drives place i high inside ∙ ap (λ b. b && not (i == won.station)) (ne_eqb place 1 (λ f. omega (arith, f)))

  abbrev drove : ℕ → Bool
  drove t = expected_drove s o (end + 13) i t

  abbrev term : ℕ → ℕ → Bool
  term t n = wants s o n i && (nat_le (tick (from n)) t && nat_lt t (tick (from (suc n))))

  early : (t n : ℕ) → t < tick (from n) → term t n ≡ false
  early t n less = ap (λ b. wants s o n i && (b && nat_lt t (tick (from (suc n))))) (lt-leb (tick (from n)) t less) ∙ and_right (wants s o n i) false refl

  late : (t n : ℕ) → tick (from (suc n)) ≤ t → term t n ≡ false
  late t n more =
      ap (λ b. wants s o n i && (nat_le (tick (from n)) t && b)) (le-ltb t (tick (from (suc n))) more)
      ∙ ap (λ b. wants s o n i && b) (and_right (nat_le (tick (from n)) t) false refl) ∙ and_right (wants s o n i) false refl

  third_term : (t n : ℕ) → n ≡ end + 12 → term t n ≡ false
  third_term t n e = ap (term t) e ∙ ap (λ b. b && (nat_le (tick (from (end + 12))) t && nat_lt t (tick (from (suc (end + 12)))))) (last_none 12 (omega arith) (omega arith))

  -- before its start of frame it drives nothing of it, and nothing after its third bit of the intermission
  pub before_none : (t : ℕ) → t < tick (from 0) → drove t ≡ false
  before_none t less =
      any_none (end + 13) (term t) (λ n inside_bits. (let up = from_later 0 n (omega arith) (omega arith) in let time = ticks (from 0) (from n) up in early t n (omega arith)))

  pub after_none : (t : ℕ) → tick (suc (S (end + 12))) ≤ t → drove t ≡ false
  after_none t more = any_none (end + 13) (term t) (λ n inside_bits. elim (cases_eq n (end + 12)) [
    | inl third ↦ third_term t n third
    | inr other ↦
        (let up = from_later (suc n) (end + 12) (omega (arith, other, inside_bits)) (omega arith) in
        let last = by_sample (end + 12) in
        let time = ticks (from (suc n)) (suc (S (end + 12))) (omega arith) in
        late t n (omega arith))
  ])

  -- in a bit
  in_one : (b t : ℕ) → b ≤ end + 12 → tick (from b) ≤ t → (b < end + 12 → t < tick (from (suc b))) → drove t ≡ wants s o b i
  in_one b t small low high =
      any_alone (end + 13) b (term t) (omega arith) (λ n inside_bits apart. elim (cases_lt n b) [
        | inl sooner ↦ (let up = from_later (suc n) b (omega arith) small in let time = ticks (from (suc n)) (from b) up in late t n (omega arith))
        | inr later ↦
            (let up = from_later (suc b) n (omega (arith, apart, later)) (omega arith) in
            let time = ticks (from (suc b)) (from n) up in
            let h = high (omega (arith, apart, later, inside_bits)) in
            early t n (omega arith))
      ])
      ∙ own
    where
      own : term t b ≡ wants s o b i
      own = elim (cases_eq b (end + 12)) [
        | inl third ↦ third_term t b third ∙ sym (ap (λ n. wants s o n i) third ∙ last_none 12 (omega arith) (omega arith))
        | inr other ↦
            ap (λ c. wants s o b i && (c && nat_lt t (tick (from (suc b))))) (le-leb (tick (from b)) t low)
            ∙ ap (λ c. wants s o b i && c) (lt-ltb t (tick (from (suc b))) (high (omega (arith, other, small)))) ∙ and-true (wants s o b i)
      ]

  -- which bit a quantum is in
  record InOne (k n : ℕ) : Type 0 where
    bit : ℕ
    small : bit ≤ n
    low : from bit ≤ k
    high : bit < n → k < from (suc bit)

  in_bit : (k n : ℕ) → from 0 ≤ k → InOne k n
  in_bit k zero low = record { bit = 0; small = omega arith; low = low; high = λ less. absurd (omega arith) }
  in_bit k (suc n) low = elim (cases_lt k (from (suc n))) [
    | inl before ↦
        (let x = in_bit k n low in
        record {
          bit = x.bit;
          small = (let h = x.small in omega arith);
          low = x.low;
          high = λ less. elim (cases_eq x.bit n) [
            | inl same ↦ (let f : from (suc x.bit) ≡ from (suc n) = ap (λ j. from (suc j)) same in omega arith)
            | inr other ↦ x.high (let h = x.small in omega (arith, other))
          ];
        })
    | inr upto ↦ record { bit = suc n; small = omega arith; low = upto; high = λ less. absurd (omega arith) }
  ]

  -- a node that goes through it
  module _ (frame : Content) (setup : NodeSetup) (levels : ℕ → Level) (node : ℕ → History) (since : ℕ) (x : GoesThrough s o end won.station i frame setup levels node since) where
    drive_before : (b q : ℕ) → b < end + 12 → S b < q → q ≤ from (suc b) → (node q).drive ≡ level_of (wants s o b i)
    drive_before b q small low high = elim (cases_lt (suc b) (end + 12)) [
      | inl more ↦ (x.next b more).before q low high
      | inr last ↦
          (let e : b ≡ end + 11 = omega arith in
          let f : S b ≡ S (end + 11) = ap S e in
          let g : from (suc b) ≡ from (end + 12) = ap (λ j. from (suc j)) e ∙ ap from (let h : suc (end + 11) ≡ end + 12 = omega arith in h) in
          let by = by_sample (end + 12) in
          x.ends.rests.drive q (omega arith) (omega arith) ∙ ap level_of (sym (ap (λ j. wants s o j i) e ∙ last_none 11 (omega arith) (omega arith))))
    ]

    drive_after : (b q : ℕ) → b ≤ end + 12 → from b < q → q ≤ suc (S b) → (node q).drive ≡ level_of (wants s o b i)
    drive_after zero q small low high = x.begins.after q low high
    drive_after (suc b) q small low high = elim (cases_lt (suc b) (end + 12)) [
      | inl more ↦ (x.next b more).after q low high
      | inr last ↦
          (let e : suc b ≡ end + 12 = omega arith in
          let f : S (suc b) ≡ S (end + 12) = ap S e in
          let g : S b ≡ S (end + 11) = ap S (let h : b ≡ end + 11 = omega arith in h) in
          let after = begun b (omega arith) in
          x.ends.rests.drive q (omega arith) (omega arith) ∙ ap level_of (sym (ap (λ j. wants s o j i) e ∙ last_none 12 (omega arith) (omega arith))))
    ]

    drive_at : (b k : ℕ) → b ≤ end + 12 → from b ≤ k → (b < end + 12 → k < from (suc b)) → k ≤ S (end + 12) → (node (suc k)).drive ≡ level_of (wants s o b i)
    drive_at b k small low high by = elim (cases_lt (S b) k) [
      | inl more ↦
          (let inner : b < end + 12 = elim (cases_eq b (end + 12)) [
            | inl same ↦ (let f : S b ≡ S (end + 12) = ap S same in absurd (omega arith))
            | inr other ↦ omega (arith, other, small)
          ] in
          let h = high inner in
          drive_before b (suc k) inner (omega arith) (omega arith))
      | inr few ↦ drive_after b (suc k) small (omega arith) (omega arith)
    ]

    pub drives_there : (k t : ℕ) → since ≤ k → k ≤ S (end + 12) → tick k ≤ t → t < tick (suc k) → drove t ≡ is_dominant (node (suc k)).drive
    drives_there k t after by low high = elim (cases_lt k (from 0)) [
      | inl sooner ↦
          (let time = ticks (suc k) (from 0) sooner in
          before_none t (omega arith) ∙ sym (ap is_dominant (x.begins.before (suc k) (omega arith) sooner)))
      | inr upto ↦
          (let b = in_bit k (end + 12) upto in
          let first = ticks (from b.bit) k b.low in
          in_one b.bit t b.small (omega arith) (λ inner. (let h = b.high inner in let time = ticks (suc k) (from (suc b.bit)) h in omega arith))
          ∙ sym (ap is_dominant (drive_at b.bit k b.small b.low b.high by) ∙ level_back (wants s o b.bit i)))
    ]
