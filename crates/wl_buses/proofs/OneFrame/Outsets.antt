-- A node that rests begins a frame as is expected of it.
use Rattle.std.proofs.Common.{◌≡◌, ◌≢◌, ◌∙◌, inl, inr, refl, sym, ap, subst, ℕ, zero, suc, ◌+◌, ◌-◌, ◌<◌, ◌≤◌, ◌&&◌, cond, Bool, true, false, List, [], ◌∷◌, ◌++◌, Some, None, arith}
use Rattle.std.specs.Prelude.{nat_le, nat_lt, slice_get}
use Rattle.std.proofs.lemmas.Bool.{and_parts, both_ways, cases_Bool, cases_eq, cases_lt, false_from_ne_true, le-leb, leb-true, lt-leb}
use Rattle.wl_level.specs.declared.Level.{Level}
use Rattle.wl_level.specs.declared.Level.TheVariants.{Dominant, Recessive}
use Rattle.wl_level.specs.Levels.{is_dominant, level_of}
use Rattle.wl_confine.specs.declared.Mode.TheVariants.{Active}
use Rattle.wl_confine.specs.Counts.{counts_of, mode_of, no_counts}
use Rattle.wl_confine.specs.declared.Happened.TheVariants as happens
use Rattle.wl_segments.specs.Lengths.{Lengths, bit_quanta, sample_at}
use Rattle.wl_sync.specs.declared.Beat.{Beat}
use Rattle.wl_sync.specs.declared.Beat.TheVariants.{Plain, Sample, Start}
use Rattle.wl_sync.specs.declared.Seen.{Seen}
use Rattle.wl_sync.specs.Bits.{beat_of}
use Rattle.wl_sync.specs.Running.{clock_after}
use Rattle.wl_sync.specs.Skips.{steady_clock}
use Rattle.wl_topology.specs.Driven.{DrivenLaws, any_below, driven}
use Rattle.wl_topology.proofs.Callers.{any_from, any_one, any_same}
use Rattle.wl_frame.specs.Grammar.{Content}
use Rattle.wl_machine.specs.Stretch.{Sampled, Stretch, begins}
use Rattle.wl_machine.specs.Stretch.Sort.{Framing, Idle}
use Rattle.wl_machine.specs.Stretch.Input.{Sample as Given}
use Rattle.wl_machine.specs.Frames.{stuffed_end}
use Rattle.wl_machine.specs.BetweenFrames.{idle_on}
use Rattle.wl_machine.specs.Judged.{awaits_by, awaits_start, is_idle_sort, judged, judged_by, or_next, stretch_after, stretch_of}
use Rattle.wl_machine.specs.States.{stretch_by}
use Rattle.wl_machine.proofs.Callers.{stretch_next}
use Rattle.wl_node.specs.declared.setup.NodeSetup.{NodeSetup}
use Rattle.wl_node.specs.History.{handed, head_at_next, is_integration, sampled_next, History}
use Rattle.wl_phase.specs.Clocks.{steady_tick}
use Rattle.wl_phase.specs.Ways.{ByTheBook, WayLaws}
use Rattle.wl_phase.specs.InStep.{seen_before}
use Rattle.wl_phase.proofs.Callers.{Goes}
use Rattle.wl_wire.specs.InStep.{is_fine}
use Rattle.wl_wire.specs.Wire.{sampled}
use Rattle.wl_buses.specs.OneFrame.Stations.{AreStations, HaveRoom, Stations}
use Rattle.wl_buses.specs.OneFrame.Starts.{BeginsAlone, Drives, FollowsHard, reaches_at}
use Rattle.wl_buses.specs.OneFrame.Course.{bus_bit}
use Rattle.wl_buses.specs.OneFrame.Machines.{HasTwoBits, MayBeginOrJoin, bus_levels}
use Rattle.wl_buses.specs.OneFrame.Clocked.{BitIs, BitPlaceLaws, BitStartLaws, EdgeLaws, NoEdgeLaws, SamplesBy, StartsOnce}
use Rattle.wl_buses.specs.OneFrame.Expected.{IsOutset, Outset, expected_bits, expected_drove, expected_sample, past_at, wants}
use Rattle.wl_buses.specs.OneFrame.Nodes.{HandsAsExpected, IsInBit, IsRun, clock_sees}
use Rattle.wl_buses.specs.OneFrame.Lines.{BeginsAfter}
use Rattle.wl_buses.proofs.OneFrame.Calm.{LevelGoes, SampleGoes}
use Rattle.wl_buses.proofs.OneFrame.Counting.{plain_before, samples_start, starts_there, unsampled_before}
use Rattle.wl_buses.proofs.OneFrame.Expecting.{driven_at, drives_are, from_all, joins_are, sent_at, wants_sends}
use Rattle.wl_buses.proofs.OneFrame.Ideal.{fine}
use Rattle.wl_buses.proofs.OneFrame.Machines.{FindNoErrors, LeastWins, SendStuffed, SixOrFront, StayInStep, TenHaveEdge, on_after}
use Rattle.wl_buses.proofs.OneFrame.Measures.{tick_next}
use Rattle.wl_buses.proofs.OneFrame.Nodes.{Passes, all_seen, beat_at, counts_there, drive_there, expected, expected_new, expected_old, fine_same, old_before, same_at, seen_before_same, stretch_there}
use Rattle.wl_buses.proofs.OneFrame.Seeing.{not_before, right_at, sends_on}

-- an idle machine that samples a start of frame
idle_takes : (s : Stretch) (z : Sampled) → s.sort ≡ Idle → z.level ≡ Dominant → (is_fine (judged s z).happened ≡ true) × (stretch_after s (Given z) ≡ stretch_by (Framing None) (Dominant ∷ []))
idle_takes s z e d = (
  ap (λ q. is_fine (judged_by q s.own z).happened) e ∙ ap (λ l. is_fine (cond (is_dominant l) (begins happens.Nothing (Framing None) (z.level ∷ [])) (idle_on z.head)).happened) d,
  ap (λ q. or_next (judged_by q s.own z).next (stretch_by q (s.own ++ z.level ∷ []))) e
      ∙ ap (λ l. or_next (cond (is_dominant l) (begins happens.Nothing (Framing None) (l ∷ [])) (idle_on z.head)).next (stretch_by Idle (s.own ++ l ∷ []))) d,
)

waits : (frames : ℕ → List Content) (k : ℕ) (x : Stretch) → MayBeginOrJoin frames k x → awaits_start x ≡ true
waits frames k x (inl (inl idle)) = ap (λ q. awaits_by q x.own) idle
waits frames k x (inl (inr due)) = ap awaits_start due.2
waits frames k x (inr two) = ap awaits_start two.1

-- A node is at rest: it has sampled a recessive bit with its place 0 at the quantum `rest`, as before a frame. What it has done before doesn't matter.
pub record IsAtRest (s : Stations) (o : Outset) (i : ℕ) (setup : NodeSetup) (levels : ℕ → Level) (node : ℕ → History) (rest : ℕ) : Type 0 where
  pub sampled : SamplesBy (s.lengths i) (clock_sees levels node) (rest + sample_at (s.lengths i)) Recessive
  pub clock : clock_after (s.lengths i) (seen_before (clock_sees levels node) (suc (rest + sample_at (s.lengths i)))) ≡ steady_clock (s.lengths i)
  pub stretch : stretch_of (node (suc (rest + sample_at (s.lengths i)))).inputs ≡ stretch_of (o.past i)
  pub takes : HasTwoBits (stretch_of (o.past i)) → HandsAsExpected s o i setup node
  pub counts : counts_of (node (suc (rest + sample_at (s.lengths i)))).happened ≡ no_counts
  pub drive : (node (suc (rest + sample_at (s.lengths i)))).drive ≡ Recessive

module _ (steps : StayInStep) (errors : FindNoErrors) (winner : LeastWins) (stuffed : SendStuffed) (six : SixOrFront) (ten : TenHaveEdge) (laws : DrivenLaws)
    (goes : Goes) (level_goes : LevelGoes) (sample_goes : SampleGoes) (ways : WayLaws) (places : BitPlaceLaws) (starts : BitStartLaws) (edges : EdgeLaws) (calm : NoEdgeLaws)
    (s : Stations) (are : AreStations s) (room : HaveRoom s) (o : Outset) (is : IsOutset s o) (total : ℕ) (some : 0 < total)
    (valid : (n : ℕ) → n < total → stuffed_end (bus_levels s (expected_bits s o) n) ≡ None)
    (i : ℕ) (inside : i < s.count) (setup : NodeSetup) (segments : setup.segments ≡ s.lengths i) (levels : ℕ → Level) (node : ℕ → History) (run : IsRun setup levels node)
    (rest : ℕ) (r : IsAtRest s o i setup levels node rest) (b : BeginsAfter s o i rest)
    (finds : (q : ℕ) → rest + sample_at (s.lengths i) < q → q ≤ expected_sample s o 0 i → levels q ≡ level_of (driven s.count s.delay (expected_drove s o total) i (steady_tick (s.clocks i) q))) where
  abbrev drove : ℕ → ℕ → Bool
  drove = expected_drove s o total

  abbrev l : Lengths
  l = s.lengths i

  abbrev tick : ℕ → ℕ → ℕ
  tick k q = steady_tick (s.clocks k) q

  abbrev R : ℕ
  R = rest + sample_at l

  abbrev last : ℕ
  last = expected_sample s o 0 i

  abbrev F : ℕ
  F = o.start.from i

  abbrev X : Stretch
  X = stretch_of (o.past i)

  abbrev d : Bool
  d = wants s o 0 i

  abbrev drives : ℕ → Bool
  drives q = cond (nat_le q F) false d

  book : ByTheBook l
  book = are.line.book i inside

  drives_before : (q : ℕ) → q ≤ F → drives q ≡ false
  drives_before q less = ap (λ c. cond c false d) (le-leb q F less)

  drives_after : (q : ℕ) → F < q → drives q ≡ d
  drives_after q more = ap (λ c. cond c false d) (lt-leb q F more)

  -- what is found up to the sample of the start of frame
  record Driver (q : ℕ) : Type 0 where
    by : ℕ
    there : by < s.count
    dominant : wants s o 0 by ≡ true
    reaches : reaches_at s o.start by i ≤ tick i q

  driver_by : (q w m : ℕ) → q ≤ last → w < s.count → s.delay w i ≤ tick i q → m < total → wants s o m w ≡ true → tick w ((expected_bits s o m).from w) ≤ tick i q - s.delay w i → Driver q
  driver_by q w zero by_last there come less dominant low_m = record { by = w; there = there; dominant = dominant; reaches = omega arith }
  driver_by q w (suc m) by_last there come less dominant low_m =
      (let sender = sent_at steps errors winner stuffed six ten s are room o is 1 (suc m) w (omega arith) (wants_sends steps errors winner stuffed six ten s are room o is total valid (suc m) w (omega arith) there dominant) in
      let later = not_before steps errors winner stuffed six ten laws s are room o is total valid 0 i w some inside there sender in
      let up = from_all steps errors winner stuffed six ten s are room o is total valid 1 (suc m) w (omega arith) (omega arith) there in
      let end = tick_next s are i inside q last by_last in
      absurd (omega arith))

  driver_at : (q : ℕ) → q ≤ last → driven s.count s.delay drove i (tick i q) ≡ true → Driver q
  driver_at q by_last e =
      let w = laws.dominant_by s.count s.delay drove i (tick i q) e in
      let u = tick i q - s.delay w.0 i in
      let x = any_one total (λ m. wants s o m w.0 && (nat_le (tick w.0 ((expected_bits s o m).from w.0)) u && nat_lt u (tick w.0 ((expected_bits s o (suc m)).from w.0)))) w.3 in
      let p = and_parts (wants s o x.0 w.0) (nat_le (tick w.0 ((expected_bits s o x.0).from w.0)) u && nat_lt u (tick w.0 ((expected_bits s o (suc x.0)).from w.0))) x.2 in
      let c = and_parts (nat_le (tick w.0 ((expected_bits s o x.0).from w.0)) u) (nat_lt u (tick w.0 ((expected_bits s o (suc x.0)).from w.0))) p.1 in
      driver_by q w.0 x.0 by_last w.1 w.2 x.1 p.0 (leb-true (tick w.0 ((expected_bits s o x.0).from w.0)) u c.0)

  driven_then : (w q : ℕ) → w < s.count → wants s o 0 w ≡ true → reaches_at s o.start w i ≤ tick i q → q ≤ last → driven s.count s.delay drove i (tick i q) ≡ true
  driven_then w q there dominant reach by_last =
      let later = not_before steps errors winner stuffed six ten laws s are room o is total valid 0 i w some inside there (sends_on steps errors winner stuffed six ten laws s are room o is total valid 0 w some there dominant) in
      let end = tick_next s are i inside q last by_last in
      let driving = driven_at steps errors winner stuffed six ten s are room o is total valid 0 w (tick i q - s.delay w i) some there (omega arith) (omega arith) ∙ dominant in
      laws.dominant_from s.count s.delay drove w i (tick i q) there (omega arith) driving

  level_at : (q : ℕ) (c : Bool) → R < q → q ≤ last → driven s.count s.delay drove i (tick i q) ≡ c → levels q ≡ level_of c
  level_at q c more less e = finds q more less ∙ ap level_of e

  bus_first : bus_bit s (expected_bits s o) 0 ≡ true
  bus_first = any_from s.count is.some.0 o.start.drives is.some.1 is.some.2

  last_level : R < last → levels last ≡ Dominant
  last_level more = level_at last true more (omega arith) (right_at steps errors winner stuffed six ten laws s are room o is total valid 0 i some inside ∙ bus_first)

  own_late : (w q : ℕ) → w ≡ i → reaches_at s o.start w i ≤ tick i q → q ≤ F → ⊥
  own_late w q e reach by_from =
      let up = tick_next s are i inside q F by_from in
      let loop = are.line.later i i inside inside in
      let f : reaches_at s o.start w i ≡ reaches_at s o.start i i = ap (λ k. reaches_at s o.start k i) e in
      omega arith

  as_driver : (w : ℕ) → w < s.count → w ≢ i → wants s o 0 w ≡ true → Drives s o.start i w
  as_driver w there other dominant = record { inside = there; other = other; dominant = is.drives w ∙ dominant }

  silent_until : (end : ℕ) → end ≤ F → end ≤ last → ((w : ℕ) → Drives s o.start i w → (q : ℕ) → q ≤ end → tick i q < reaches_at s o.start w i) → (q : ℕ) → R < q → q ≤ end → levels q ≡ Recessive
  silent_until end by_from by_last unfound q more less =
      level_at q false more (omega arith) (false_from_ne_true (driven s.count s.delay drove i (tick i q)) (λ e. (let w = driver_at q (omega arith) e in
      let reach = w.reaches in
      elim (cases_eq w.by i) [
        | inl own ↦ own_late w.by q own reach (omega arith)
        | inr other ↦ (let un = unfound w.by (as_driver w.by w.there other w.dominant) q less in absurd (omega arith))
      ])))

  -- the start of frame, once its clock is known
  module _ (rests_before : R < F) (from_last : F < last) where
    drive_first : (node (suc R)).drive ≡ level_of (drives (suc R))
    drive_first = r.drive ∙ ap level_of (sym (drives_before (suc R) rests_before))

    abbrev exp : ℕ → Seen
    exp = expected setup levels node run l segments R last X drives r.stretch drive_first

    abbrev Later : ℕ → Type 0
    Later = Passes setup levels node run l segments R last X drives r.stretch drive_first

    new_in : (q : ℕ) → R < q → exp q ≡ record { level = levels q; idle = is_idle_sort X.sort; awaits = awaits_start X; integrates = is_integration X.sort; driving = drives q }
    new_in = expected_new setup levels node run l segments R last X drives r.stretch drive_first

    old_in : (k : ℕ) → k ≤ suc R → seen_before exp k ≡ seen_before (clock_sees levels node) k
    old_in = old_before setup levels node run l segments R last X drives r.stretch drive_first

    sampled_in : SamplesBy l exp R Recessive
    sampled_in =
        ap (λ v. beat_of l v (exp R)) (old_in R (omega arith))
        ∙ ap (beat_of l (seen_before (clock_sees levels node) R)) (expected_old setup levels node run l segments R last X drives r.stretch drive_first R (omega arith)) ∙ r.sampled

    steady_in : clock_after l (seen_before exp (suc R)) ≡ steady_clock l
    steady_in = ap (clock_after l) (old_in (suc R) (omega arith)) ∙ r.clock

    abbrev first : Sampled
    first = sampled (level_of (any_below s.count (wants s o 0))) (o.frames i) (o.handed 0 i)

    bus_wants : any_below s.count (wants s o 0) ≡ bus_bit s (expected_bits s o) 0
    bus_wants = any_same s.count (wants s o 0) o.start.drives (λ k lt. sym (is.drives k))

    first_level : first.level ≡ Dominant
    first_level = ap level_of (bus_wants ∙ bus_first)

    abbrev next : Stretch
    next = stretch_of (past_at s o 1 i)

    next_is : next ≡ stretch_after X (Given first)
    next_is = stretch_next (o.past i) (Given first)

    first_fine : is_fine (judged X first).happened ≡ true
    first_fine =
        ap (λ c. is_fine (judged X (sampled (level_of c) (o.frames i) (o.handed 0 i))).happened) bus_wants
        ∙ fine steps errors winner stuffed six ten s o is (expected_bits s o) (drives_are steps errors winner stuffed six ten s are room o is)
        (joins_are steps errors winner stuffed six ten s are room o is) 0 i (o.handed 0 i) (valid 0 some) inside

    -- in the third bit of its intermission its queue hands it what is expected
    given_first : HandsAsExpected s o i setup node → (z : Sampled) → z ≡ sampled_next setup (node last) (levels last) → z.mode ≡ Active → z.level ≡ Dominant → z ≡ first
    given_first hands z same active e =
        same ∙ (λ j. record { level = level_is j; head = head_is j; mode = mode_is j }) ∙ ap (λ v. sampled v (o.frames i) (o.handed 0 i)) (sym first_level)
      where
        level_is : levels last ≡ Dominant
        level_is = sym (ap (λ y. y.level) same) ∙ e

        head_is : handed (levels last) setup.segments.sync (head_at_next setup (node last)) ≡ slice_get (o.frames i) (o.handed 0 i).which
        head_is =
            ap (λ v. handed v setup.segments.sync (head_at_next setup (node last))) level_is
            ∙ ap (λ m. handed Dominant m.sync (head_at_next setup (node last))) segments ∙ ap (λ r. handed Dominant r (head_at_next setup (node last))) book.book ∙ hands.queue

        mode_is : mode_of (counts_of (node last).happened) ≡ (o.handed 0 i).mode
        mode_is = sym (ap (λ y. y.mode) same) ∙ active ∙ sym hands.active

    takes_by : MayBeginOrJoin o.frames i X → (z : Sampled) → z ≡ sampled_next setup (node last) (levels last) → z.mode ≡ Active → z.level ≡ Dominant
        → (is_fine (judged X z).happened ≡ true) × (stretch_after X (Given z) ≡ next)
    takes_by (inr two) z same active e =
        (let given : z ≡ first = given_first (r.takes two) z same active e in
        (ap (λ y. is_fine (judged X y).happened) given ∙ first_fine, ap (λ y. stretch_after X (Given y)) given ∙ sym next_is))
    takes_by (inl (inl idle)) z same active e = (let one = idle_takes X z idle e in let two = idle_takes X first idle first_level in (one.0, one.1 ∙ sym two.1 ∙ sym next_is))
    takes_by (inl (inr due)) z same active e =
        (let f : is_fine (judged X first).happened ≡ true = first_fine in
        let g = fine_same X (Some due.0) [] first z due.2 refl (first_level ∙ sym e) f in (
          g,
          on_after X z (Some due.0) [] due.2 refl g ∙ ap (λ v. stretch_by (Framing (Some due.0)) (v ∷ [])) (e ∙ sym first_level)
              ∙ sym (on_after X first (Some due.0) [] due.2 refl f) ∙ sym next_is,
        ))

    takes : (z : Sampled) → z ≡ sampled_next setup (node last) (levels last) → z.mode ≡ Active → z.level ≡ Dominant → (is_fine (judged X z).happened ≡ true) × (stretch_after X (Given z) ≡ next)
    takes = takes_by (is.may i inside)

    -- so it begins
    module _ (passes : (q : ℕ) → R < q → q < last → Later q) (beat : beat_at setup levels node run l segments R last X drives r.stretch drive_first last ≡ Sample Dominant) where
      longer : R < last
      longer = omega arith

      seen_in : (j : ℕ) → j < suc last → exp j ≡ clock_sees levels node j
      seen_in = all_seen setup levels node run l segments R last X drives r.stretch drive_first passes longer Dominant beat next r.counts (last_level longer) takes

      bit_first : IsInBit s o i levels node 0
      bit_first = record {
        clock = record {
          sampled =
              ap (λ v. beat_of l v (clock_sees levels node last)) (sym (seen_before_same exp (clock_sees levels node) last (λ j less. seen_in j (omega arith))))
              ∙ ap (beat_of l (seen_before exp last)) (sym (seen_in last (omega arith))) ∙ beat ∙ ap Sample (sym (ap level_of bus_first));
          steady = λ e. absurd (both_ways (bus_bit s (expected_bits s o) 0) e bus_first);
        };
        stretch = stretch_there setup levels node run l segments R last X drives r.stretch drive_first passes longer Dominant beat next r.counts (last_level longer) takes;
        counts = counts_there setup levels node run l segments R last X drives r.stretch drive_first passes longer Dominant beat next r.counts (last_level longer) takes;
        drive =
            drive_there setup levels node run l segments R last X drives r.stretch drive_first passes longer Dominant beat next r.counts (last_level longer) takes
            ∙ ap level_of (drives_after last from_last);
      }

      before_first : (q : ℕ) → R < q → q ≤ F → (node q).drive ≡ Recessive
      before_first q more less = (same_at setup levels node run l segments R last X drives r.stretch drive_first passes longer q more (omega arith)).drive ∙ ap level_of (drives_before q less)

      after_first : (q : ℕ) → F < q → q ≤ suc last → (node q).drive ≡ level_of (wants s o 0 i)
      after_first q more less = elim (cases_lt last q) [
        | inl above ↦ (let e : suc last ≡ q = omega arith in subst (λ k. (node k).drive ≡ level_of (wants s o 0 i)) e bit_first.drive)
        | inr few ↦ (same_at setup levels node run l segments R last X drives r.stretch drive_first passes longer q (omega arith) few).drive ∙ ap level_of (drives_after q more)
      ]

      begun : IsInBit s o i levels node 0 × ((q : ℕ) → R < q → q ≤ F → (node q).drive ≡ Recessive) × ((q : ℕ) → F < q → q ≤ suc last → (node q).drive ≡ level_of (wants s o 0 i))
      begun = (bit_first, before_first, after_first)

  abbrev pub HasBegun : Type 0
  HasBegun = IsInBit s o i levels node 0 × ((q : ℕ) → R < q → q ≤ F → (node q).drive ≡ Recessive) × ((q : ℕ) → F < q → q ≤ suc last → (node q).drive ≡ level_of (wants s o 0 i))

  -- it begins by itself
  module _ (itself : BeginsAlone s o.start i) where
    due_is : o.start.place i ≡ rest + bit_quanta l
    due_is = itself.place ∙ b.alone itself

    from_is : F ≡ rest + bit_quanta l
    from_is = itself.from ∙ due_is

    rests_alone : R < F
    rests_alone = let e = from_is in let low = book.lengths.ps2_low in omega arith

    last_is : last ≡ rest + bit_quanta l + sample_at l
    last_is = ap (λ q. q + sample_at l) due_is

    from_alone : F < last
    from_alone = let e = from_is in let f = last_is in omega arith

    d_is : d ≡ true
    d_is = sym (is.drives i) ∙ itself.dominant

    silent_alone : (q : ℕ) → R < q → q ≤ rest + bit_quanta l → levels q ≡ Recessive
    silent_alone =
        silent_until (rest + bit_quanta l) (let e = from_is in omega arith) (let e = last_is in omega arith)
        (λ w x q less. (let un = itself.unfound w x in let up = tick_next s are i inside q (o.start.place i) (let e = due_is in omega arith) in omega arith))

    abbrev exp_alone : ℕ → Seen
    exp_alone = exp rests_alone from_alone

    bit_alone : BitIs l exp_alone R (rest + bit_quanta l) (rest + bit_quanta l) (exp_alone (rest + bit_quanta l + sample_at l)).level
    bit_alone =
        edges.own l exp_alone rest Recessive book (sampled_in rests_alone from_alone) (λ q more less. ap (λ x. x.level) (new_in rests_alone from_alone q more) ∙ silent_alone q more less)
        (λ q more less. (let e = from_is in let low = book.lengths.ps2_low in ap (λ x. x.driving) (new_in rests_alone from_alone q (omega arith)) ∙ drives_after q (omega arith) ∙ d_is))

    alone_level : (exp_alone (rest + bit_quanta l + sample_at l)).level ≡ Dominant
    alone_level =
        let e = last_is in
        let low = book.lengths.ps2_low in
        ap (λ x. x.level) (new_in rests_alone from_alone (rest + bit_quanta l + sample_at l) (omega arith)) ∙ ap levels (sym e) ∙ last_level (let f = rests_alone in let g = from_alone in omega arith)

    passes_alone : (q : ℕ) → R < q → q < last → Later rests_alone from_alone q
    passes_alone q more less = elim (cases_eq q (rest + bit_quanta l)) [
      | inl here ↦
          (let e = from_is in
          inr (
            ap (λ k. beat_of l (seen_before exp_alone k) (exp_alone k)) here ∙ bit_alone.starts.starts,
            drives_after (suc q) (omega (arith, here)),
          ))
      | inr apart ↦
          (let e = from_is in
          let f = last_is in
          inl (
            bit_alone.starts.others q more (omega arith) apart,
            elim (cases_lt q F) [
              | inl before ↦ drives_before (suc q) before ∙ sym (drives_before q (omega arith))
              | inr from ↦ drives_after (suc q) (omega (arith, apart)) ∙ sym (drives_after q (omega (arith, apart)))
            ],
          ))
    ]

    pub begun_alone : HasBegun
    begun_alone =
        begun rests_alone from_alone passes_alone
        (ap (λ k. beat_of l (seen_before exp_alone k) (exp_alone k)) last_is ∙ bit_alone.samples.beat ∙ ap Sample alone_level)

  -- or by an edge
  module _ (h : FollowsHard s o.start i) where
    from_hard : F ≡ h.found
    from_hard = h.from

    last_hard : last ≡ h.found - 1 + sample_at l
    last_hard = let p = h.place in omega arith

    rests_hard : R < F
    rests_hard = let e = from_hard in let later = b.later h in omega arith

    from_last_hard : F < last
    from_last_hard = let e = from_hard in let f = last_hard in let a = book.lengths.prop_low in let c = book.lengths.ps1_low in let g = h.finds.later in omega arith

    silent_hard : (q : ℕ) → R < q → q < h.found → levels q ≡ Recessive
    silent_hard q more less =
        silent_until q (let e = from_hard in omega arith) (let e = from_hard in let f = from_last_hard in omega arith)
        (λ w x j low. (let un = h.finds.finds.unseen q less in let up = tick_next s are i inside j q low in let f = h.finds.first w x in omega arith)) q more (omega arith)

    dominant_hard : (q : ℕ) → h.found ≤ q → q ≤ last → levels q ≡ Dominant
    dominant_hard q more less =
        level_at q true (let later = b.later h in omega arith) less (driven_then h.by q h.finds.by.inside (sym (is.drives h.by) ∙ h.finds.by.dominant)
        (let seen_by = h.finds.finds.seen in let up = tick_next s are i inside h.found q more in omega arith) less)

    abbrev exp_hard : ℕ → Seen
    exp_hard = exp rests_hard from_last_hard

    new_hard : (q : ℕ) → R < q → exp_hard q ≡ record { level = levels q; idle = is_idle_sort X.sort; awaits = awaits_start X; integrates = is_integration X.sort; driving = drives q }
    new_hard = new_in rests_hard from_last_hard

    silent_seen : (q : ℕ) → R < q → q < h.found → (exp_hard q).level ≡ Recessive
    silent_seen q more less = ap (λ x. x.level) (new_hard q more) ∙ silent_hard q more less

    there_seen : (q : ℕ) → h.found ≤ q → q ≤ h.found - 1 + sample_at l → (exp_hard q).level ≡ Dominant
    there_seen q more less = (let later = b.later h in let e = last_hard in ap (λ x. x.level) (new_hard q (omega arith)) ∙ dominant_hard q more (omega arith))

    awaits_seen : (exp_hard h.found).awaits ≡ true
    awaits_seen = ap (λ x. x.awaits) (new_hard h.found (b.later h)) ∙ waits o.frames i X (is.may i inside)

    driving_seen : (exp_hard h.found).driving ≡ false
    driving_seen = (let e = from_hard in ap (λ x. x.driving) (new_hard h.found (b.later h)) ∙ drives_before h.found (omega arith))

    starts_hard : StartsOnce l exp_hard (h.found - 1) (h.found - 1 + sample_at l) (suc (h.found - 1))
    starts_hard =
        starts_there goes level_goes sample_goes ways places starts calm l book exp_hard rest h.found (sampled_in rests_hard from_last_hard) (steady_in rests_hard from_last_hard)
        (b.later h) (b.inside h) silent_seen there_seen awaits_seen driving_seen

    before_found : (q : ℕ) → R < q → q < h.found → (c : Beat) → beat_of l (seen_before exp_hard q) (exp_hard q) ≡ c → Later rests_hard from_last_hard q
    before_found q more less Plain e = (let f = from_hard in inl (e, drives_before (suc q) (omega arith) ∙ sym (drives_before q (omega arith))))
    before_found q more less (Sample v) e =
        absurd (unsampled_before goes level_goes sample_goes ways places starts calm l book exp_hard rest h.found (sampled_in rests_hard from_last_hard) (steady_in rests_hard from_last_hard)
        (b.later h) (b.inside h) silent_seen there_seen awaits_seen driving_seen q more less v e)
    before_found q more less Start e = (let f = from_hard in inr (
      e,
      drives_before (suc q) (omega arith) ∙ sym (elim (cases_Bool d) [
        | inl own ↦
            (let by_due = b.in_time h (is.drives i ∙ own) in
            let plain =
            plain_before goes level_goes sample_goes ways places starts calm l book exp_hard rest h.found (sampled_in rests_hard from_last_hard) (steady_in rests_hard from_last_hard)
            (b.later h) (b.inside h) silent_seen there_seen awaits_seen driving_seen q more less (omega arith) in
            absurd (not_both (sym plain ∙ e)))
        | inr none ↦ none
      ]),
    ))
      where
        not_both : Plain ≡ Start → ⊥
        not_both e = cc

    passes_hard : (q : ℕ) → R < q → q < last → Later rests_hard from_last_hard q
    passes_hard q more less = elim (cases_lt q h.found) [
      | inl before ↦ before_found q more before (beat_of l (seen_before exp_hard q) (exp_hard q)) refl
      | inr from ↦ elim (cases_lt h.found q) [
        | inl above ↦
            (let f = from_hard in
            let g = last_hard in
            let positive = h.finds.later in
            inl (starts_hard.others q (omega arith) (omega arith) (λ e. omega (arith, e)), drives_after (suc q) (omega arith) ∙ sym (drives_after q (omega arith))))
        | inr below ↦
            (let f = from_hard in
            let positive = h.finds.later in
            let here : q ≡ suc (h.found - 1) = omega arith in
            inr (ap (λ k. beat_of l (seen_before exp_hard k) (exp_hard k)) here ∙ starts_hard.starts, drives_after (suc q) (omega arith)))
      ]
    ]

    pub begun_hard : HasBegun
    begun_hard =
        begun rests_hard from_last_hard passes_hard
        (ap (λ k. beat_of l (seen_before exp_hard k) (exp_hard k)) last_hard
        ∙ samples_start goes level_goes sample_goes ways places starts calm l book exp_hard rest h.found (sampled_in rests_hard from_last_hard) (steady_in rests_hard from_last_hard)
        (b.later h) (b.inside h) silent_seen there_seen awaits_seen driving_seen)

  pub has_begun : HasBegun
  has_begun = elim (is.begin i inside) [
    | inl itself ↦ begun_alone itself
    | inr h ↦ begun_hard h
  ]
