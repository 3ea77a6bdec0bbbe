-- A node on a line that falls silent, whatever it did before: where its bits lie, what it samples, and that it wants nothing.
use Rattle.std.proofs.Common.{◌≡◌, ◌≢◌, ◌∙◌, inl, inr, refl, sym, ap, subst, ℕ, zero, suc, ◌+◌, ◌-◌, ◌*◌, ◌<◌, ◌≤◌, cond, List, [], ◌∷◌, ◌++◌, length, Some, None, arith, append-nil}
use Rattle.std.specs.Prelude.{nat_le, nat_lt}
use Rattle.std.proofs.lemmas.Bool.{and_from, cases_eq, cases_lt, le-leb, lt-ltb, ne_eqb}
use Rattle.wl_level.specs.declared.Level.{Level}
use Rattle.wl_level.specs.declared.Level.TheVariants.{Recessive}
use Rattle.wl_confine.specs.declared.Mode.TheVariants.{Active}
use Rattle.wl_confine.specs.Counts.{counts_of, mode_of}
use Rattle.wl_segments.specs.Lengths.{Lengths, bit_quanta, sample_at}
use Rattle.wl_sync.specs.declared.Beat.TheVariants as beats
use Rattle.wl_sync.specs.declared.Seen.{Seen}
use Rattle.wl_sync.specs.Bits.{beat_of, sync_of}
use Rattle.wl_sync.specs.Running.{Running, clock_after}
use Rattle.wl_sync.specs.SampleLaws.{SampleLaws, quanta_to_sample}
use Rattle.wl_sync.specs.Skips.{moved_place, steady_clock}
use Rattle.wl_machine.specs.Stretch.{Sampled, Stretch}
use Rattle.wl_machine.specs.Stretch.Input.{Sample}
use Rattle.wl_machine.specs.Judged.{drive_of, judged, stretch_after, stretch_of}
use Rattle.wl_machine.proofs.Callers.{stretch_next}
use Rattle.wl_node.specs.declared.setup.NodeSetup.{NodeSetup}
use Rattle.wl_node.specs.History.{History, sampled_next, switched_off}
use Rattle.wl_phase.specs.InStep.{seen_before}
use Rattle.wl_phase.specs.Ways.{ByTheBook, WayLaws, sample_way, way_after}
use Rattle.wl_phase.proofs.Callers.{Goes, valid_at, way_before, way_past}
use Rattle.wl_heal.specs.Silence.{IsSilence, stretch_on}
use Rattle.wl_buses.specs.OneFrame.Clocked.{BitIs, EdgeLaws, NoEdgeLaws, SamplesBy}
use Rattle.wl_buses.specs.OneFrame.Nodes.{IsRun, clock_sees}
use Rattle.wl_buses.proofs.Callers.{drive_by as driven_by, frames_by, happened_by, inputs_by}

-- the laws of a bit clock that this rests on
pub record SilentClock : Type 0 where
  pub goes : Goes
  pub ways : WayLaws
  pub calm : NoEdgeLaws
  pub edges : EdgeLaws
  pub samples : SampleLaws

module _ (laws : SilentClock) (setup : NodeSetup) (book : ByTheBook setup.segments) (levels : ℕ → Level) (node : ℕ → History) (run : IsRun setup levels node) where
  abbrev l : Lengths
  l = setup.segments

  abbrev S : ℕ
  S = sample_at l

  abbrev B : ℕ
  B = bit_quanta l

  abbrev sees : ℕ → Seen
  sees = clock_sees levels node

  abbrev way : ℕ → ℕ
  way q = sample_way l (seen_before sees q)

  abbrev clock : ℕ → Running
  clock q = clock_after l (seen_before sees q)

  long : 1 < B
  long = let h = book.lengths.low in omega arith

  -- the next sample comes within a bit
  way_few : (q : ℕ) → way q < B
  way_few q = elim (cases_lt (moved_place (clock q)) (clock q).quanta) [
    | inl past ↦
        (let e = way_past (clock q) past in
        let low = book.lengths.ps2_low in
        omega arith)
    | inr before ↦
        (let e = way_before (clock q) before in
        let begun = (valid_at laws.goes l book sees q).begun in
        let some : quanta_to_sample l (seen_before sees q) ≡ Some (suc (moved_place (clock q)) - (clock q).quanta) =
        ap (λ b. cond b (Some (suc (moved_place (clock q)) - (clock q).quanta)) None)
        (and_from (nat_lt 0 (clock q).quanta) (nat_le (clock q).quanta (moved_place (clock q))) (lt-ltb 0 (clock q).quanta begun) (le-leb (clock q).quanta (moved_place (clock q)) before)) in
        let few = laws.samples.few l (seen_before sees q) (suc (moved_place (clock q)) - (clock q).quanta) some in
        let low = book.lengths.ps2_low in
        omega arith)
  ]

  none_at : (q : ℕ) → levels q ≡ Recessive → sync_of l (seen_before sees q) (sees q) ≡ None
  none_at q silent = laws.calm.recessive l (seen_before sees q) (sees q) book silent

  way_next : (q : ℕ) → levels q ≡ Recessive → way q ≢ 0 → way (suc q) ≡ way q - 1
  way_next q silent apart =
      laws.ways.way l (seen_before sees q) (sees q) book ∙ ap (way_after l (way q)) (none_at q silent) ∙ ap (λ x. cond x (B - 1) (way q - 1)) (ne_eqb (way q) 0 apart)

  -- a silence, from a quantum up to another one
  module _ (first last : ℕ) (silent : (q : ℕ) → first ≤ q → q ≤ last → levels q ≡ Recessive) (enough : first + 2 * B ≤ last) where
    abbrev begin : ℕ
    begin = first + S

    way_down : (n : ℕ) → n ≤ way begin → way (begin + n) + n ≡ way begin
    way_down zero less = let e : begin + 0 ≡ begin = omega arith in let f = ap way e in omega arith
    way_down (suc n) less =
        let before = way_down n (omega arith) in
        let few = way_few begin in
        let e : begin + suc n ≡ suc (begin + n) = omega arith in
        let f = ap way e in
        let next = way_next (begin + n) (silent (begin + n) (omega arith) (omega arith)) (λ z. absurd (omega arith)) in
        omega arith

    -- where place 0 of its bits is, from that of its first sample on
    pub place : ℕ → ℕ
    place zero = first + way begin
    place (suc n) = place n + B

    pub place_first : place 0 ≡ first + way begin
    unfolding place
    place_first = refl

    pub place_next : (n : ℕ) → place (suc n) ≡ place n + B
    unfolding place
    place_next n = refl

    pub place_is : (n : ℕ) → place n ≡ place 0 + n * B
    unfolding place
    place_is zero = omega arith
    place_is (suc n) = let before = place_is n in omega arith

    pub place_low : (n : ℕ) → first ≤ place n
    unfolding place
    place_low zero = omega arith
    place_low (suc n) = let before = place_low n in omega arith

    pub place_high : (n : ℕ) → place n < first + suc n * B
    unfolding place
    place_high zero = let few = way_few begin in omega arith
    place_high (suc n) = let before = place_high n in omega arith

    sampled_first : SamplesBy l sees (place 0 + S) Recessive
    unfolding place
    sampled_first =
        let few = way_few begin in
        let e : begin + way begin ≡ first + way begin + S = omega arith in
        let now : way (begin + way begin) ≡ 0 = (let h = way_down (way begin) (omega arith) in omega arith) in
        let there = silent (begin + way begin) (omega arith) (omega arith) in
        subst (λ q. SamplesBy l sees q Recessive) e
        (laws.ways.sample l (seen_before sees (begin + way begin)) (sees (begin + way begin)) book (none_at (begin + way begin) there) now ∙ ap beats.Sample there)

    abbrev pub next : ℕ → ℕ
    next n = place n + B + S

    next_is : (n : ℕ) → place (suc n) + S ≡ next n
    unfolding place
    next_is n = refl

    bit_from : (n : ℕ) → SamplesBy l sees (place n + S) Recessive → next n ≤ last → BitIs l sees (place n + S) (place n + B) (place n + B) Recessive
    bit_from n before in_time = laws.edges.silent l sees (place n) Recessive book before (λ q more less. let low = place_low n in silent q (omega arith) (omega arith))

    pub sampled : (n : ℕ) → place n + S ≤ last → SamplesBy l sees (place n + S) Recessive
    unfolding place
    sampled zero in_time = sampled_first
    sampled (suc n) in_time = (bit_from n (sampled n (omega arith)) in_time).samples.beat

    bit : (n : ℕ) → next n ≤ last → BitIs l sees (place n + S) (place n + B) (place n + B) Recessive
    bit n in_time = bit_from n (sampled n (omega arith)) in_time

    -- what is kept by its bit clock
    pub steady : (n : ℕ) → next n ≤ last → clock_after l (seen_before sees (suc (next n))) ≡ steady_clock l
    steady n in_time =
        let low = place_low n in
        laws.edges.steady l sees (place n) Recessive book (sampled n (omega arith)) (λ q more less. none_at q (silent q (omega arith) (omega arith))) (silent (next n) (omega arith) (omega arith))

    -- in a bit, from its sample to the next one
    abbrev pub N : ℕ → History
    N n = node (suc (place n + S))

    abbrev pub X : ℕ → Stretch
    X n = stretch_of (N n).inputs

    pub record SameIn (n q : ℕ) : Type 0 where
      pub inputs : (node q).inputs ≡ (N n).inputs
      pub happened : (node q).happened ≡ (N n).happened
      pub frames : (node q).frames ≡ (N n).frames
      pub drive : place n + B < q → (node q).drive ≡ drive_of (X n)

    same_step : (n q : ℕ) → next n ≤ last → place n + S < q → q < next n → SameIn n q → SameIn n (suc q)
    same_step n q in_time more less a = elim (cases_eq q (place n + B)) [
      | inl here ↦
          (let b : beat_of l (seen_before sees q) (sees q) ≡ beats.Start = ap (λ k. beat_of l (seen_before sees k) (sees k)) here ∙ (bit n in_time).starts.starts in
          record {
            inputs = inputs_by setup levels node run q beats.Start b ∙ a.inputs;
            happened = happened_by setup levels node run q beats.Start b ∙ a.happened;
            frames = frames_by setup levels node run q beats.Start b ∙ a.frames;
            drive = λ h. driven_by setup levels node run q beats.Start b ∙ ap (λ v. drive_of (stretch_of v)) a.inputs;
          })
      | inr apart ↦
          (let b = (bit n in_time).starts.others q more less apart in
          record {
            inputs = inputs_by setup levels node run q beats.Plain b ∙ a.inputs;
            happened = happened_by setup levels node run q beats.Plain b ∙ a.happened;
            frames = frames_by setup levels node run q beats.Plain b ∙ a.frames;
            drive = λ h. driven_by setup levels node run q beats.Plain b ∙ a.drive (omega (arith, apart));
          })
    ]

    same_up : (n m : ℕ) → next n ≤ last → suc (place n + S) + m ≤ next n → SameIn n (suc (place n + S) + m)
    same_up n zero in_time less =
        subst (SameIn n) (let e : suc (place n + S) ≡ suc (place n + S) + 0 = omega arith in e)
        (record { inputs = refl; happened = refl; frames = refl; drive = λ h. (let low = book.lengths.ps2_low in absurd (omega arith)) })
    same_up n (suc m) in_time less =
        subst (SameIn n) (let e : suc (suc (place n + S) + m) ≡ suc (place n + S) + suc m = omega arith in e)
        (same_step n (suc (place n + S) + m) in_time (omega arith) (omega arith) (same_up n m in_time (omega arith)))

    pub same_in : (n q : ℕ) → next n ≤ last → place n + S < q → q ≤ next n → SameIn n q
    same_in n q in_time more less = subst (SameIn n) (let e : suc (place n + S) + (q - suc (place n + S)) ≡ q = omega arith in e) (same_up n (q - suc (place n + S)) in_time (omega arith))

    -- it drives nothing, and is error active
    module _ (limit : ℕ) (room : limit + B ≤ last) (drives : (q : ℕ) → first ≤ q → q ≤ limit → (node (suc q)).drive ≡ Recessive)
        (active : (q : ℕ) → first ≤ q → q ≤ limit → mode_of (counts_of (node (suc q)).happened) ≡ Active) where
      pub wants_none : (n : ℕ) → place n + B ≤ limit → drive_of (X n) ≡ Recessive
      wants_none n in_time =
          let low = place_low n in
          let some = long in
          let deep : 0 < S = omega arith in
          sym ((same_in n (suc (place n + B)) (omega arith) (omega arith) (omega arith)).drive (omega arith)) ∙ drives (place n + B) (omega arith) in_time

      abbrev pub given : ℕ → Sampled
      given n = sampled_next setup (node (next n)) (levels (next n))

      pub given_level : (n : ℕ) → next n ≤ limit → (given n).level ≡ Recessive
      given_level n in_time = let low = place_low n in silent (next n) (omega arith) (omega arith)

      active_at : (q : ℕ) → first < q → q ≤ limit → mode_of (counts_of (node q).happened) ≡ Active
      active_at zero later in_time = absurd (omega arith)
      active_at (suc q) later in_time = active q (omega arith) (omega arith)

      pub given_mode : (n : ℕ) → next n ≤ limit → (given n).mode ≡ Active
      given_mode n in_time = let low = place_low n in let some = long in active_at (next n) (omega arith) in_time

      pub beat_next : (n : ℕ) → next n ≤ limit → beat_of l (seen_before sees (next n)) (sees (next n)) ≡ beats.Sample Recessive
      beat_next n in_time = (bit n (omega arith)).samples.beat

      same_next : (n : ℕ) → next n ≤ limit → SameIn n (next n)
      same_next n in_time = same_in n (next n) (omega arith) (let some = long in omega arith) (omega arith)

      happened_next : (n : ℕ) → next n ≤ limit → (node (suc (next n))).happened ≡ (node (next n)).happened ++ (judged (stretch_of (node (next n)).inputs) (given n)).happened ∷ []
      happened_next n in_time = happened_by setup levels node run (next n) (beats.Sample Recessive) (beat_next n in_time)

      none_off : (n : ℕ) → next n ≤ limit
          → switched_off (given n).mode (mode_of (counts_of ((node (next n)).happened ++ (judged (stretch_of (node (next n)).inputs) (given n)).happened ∷ []))) ≡ []
      none_off n in_time =
          let low = place_low n in
          ap (λ m. switched_off m (mode_of (counts_of ((node (next n)).happened ++ (judged (stretch_of (node (next n)).inputs) (given n)).happened ∷ [])))) (given_mode n in_time)
          ∙ ap (λ h. switched_off Active (mode_of (counts_of h))) (sym (happened_next n in_time)) ∙ ap (switched_off Active) (active (next n) (omega arith) in_time)

      pub stretch_then : (n : ℕ) → next n ≤ limit → X (suc n) ≡ stretch_after (X n) (Sample (given n))
      unfolding place
      stretch_then n in_time =
          ap stretch_of
          (inputs_by setup levels node run (next n) (beats.Sample Recessive) (beat_next n in_time)
          ∙ ap (λ v. ((node (next n)).inputs ++ Sample (given n) ∷ []) ++ v) (none_off n in_time) ∙ append-nil ((node (next n)).inputs ++ Sample (given n) ∷ []))
          ∙ stretch_next (node (next n)).inputs (Sample (given n)) ∙ ap (λ v. stretch_after (stretch_of v) (Sample (given n))) (same_next n in_time).inputs

      -- its samples, from one on
      pub given_from : ℕ → ℕ → List Sampled
      given_from k zero = []
      given_from k (suc n) = given k ∷ given_from (suc k) n

      pub length_from : (k n : ℕ) → length (given_from k n) ≡ n
      unfolding given_from
      length_from k zero = refl
      length_from k (suc n) = ap suc (length_from (suc k) n)

      place_up : (k n : ℕ) → place k ≤ place (k + n)
      unfolding place
      place_up k zero = let e : k + 0 ≡ k = omega arith in let f = ap place e in omega arith
      place_up k (suc n) = let e : k + suc n ≡ suc (k + n) = omega arith in let f = ap place e in let before = place_up k n in omega arith

      earlier : (k n : ℕ) → place (k + suc n) + S ≤ limit → next k ≤ limit
      unfolding place
      earlier k n in_time = let e : k + suc n ≡ suc k + n = omega arith in let f = ap place e in let up = place_up (suc k) n in omega arith

      pub samples_on : (k n : ℕ) → place (k + n) + S ≤ limit → stretch_on (X k) (given_from k n) ≡ X (k + n)
      unfolding given_from
      samples_on k zero in_time = ap X (let e : k ≡ k + 0 = omega arith in e)
      samples_on k (suc n) in_time =
          let e : suc k + n ≡ k + suc n = omega arith in
          ap (λ s. stretch_on s (given_from (suc k) n)) (sym (stretch_then k (earlier k n in_time))) ∙ samples_on (suc k) n (subst (λ j. place j + S ≤ limit) (sym e) in_time) ∙ ap X e

      pub silence_on : (k n : ℕ) → place (k + n) + S ≤ limit → IsSilence (X k) (given_from k n)
      unfolding given_from
      silence_on k zero in_time = tt
      silence_on k (suc n) in_time =
          let e : suc k + n ≡ k + suc n = omega arith in
          let early = earlier k n in_time in (
            given_level k early,
            wants_none k (omega arith),
            subst (λ s. IsSilence s (given_from (suc k) n)) (stretch_then k early) (silence_on (suc k) n (subst (λ j. place j + S ≤ limit) (sym e) in_time)),
          )
