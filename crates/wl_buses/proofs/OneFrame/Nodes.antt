-- A node in a frame, from one sample to the next.
use Rattle.std.proofs.Common.{◌≡◌, ◌∙◌, ◌⊎◌, inl, inr, refl, sym, ap, subst, ℕ, zero, suc, ◌+◌, ◌-◌, ◌<◌, ◌≤◌, ◌&&◌, cond, Bool, true, false, List, [], ◌∷◌, ◌++◌, length, Option, Some, None, arith, append-nil}
use Rattle.std.specs.Prelude.{nat_le}
use Rattle.std.proofs.lemmas.Bool.{cases_eq, cases_lt, le-leb, lt-leb}
use Rattle.std.proofs.lemmas.List.Sums.{fold-append}
use Rattle.wl_level.specs.declared.Level.{Level}
use Rattle.wl_level.specs.Levels.{is_dominant, level_of, same}
use Rattle.wl_level.specs.Places.{before}
use Rattle.wl_confine.specs.declared.ErrorKind.TheVariants.{Bit, Stuff}
use Rattle.wl_confine.specs.declared.Happened.TheVariants as happens
use Rattle.wl_confine.specs.declared.Mode.TheVariants.{Active}
use Rattle.wl_confine.specs.Counts.{counts_after, counts_of, mode_of, no_counts}
use Rattle.wl_segments.specs.Lengths.{Lengths}
use Rattle.wl_sync.specs.declared.Beat.{Beat}
use Rattle.wl_sync.specs.declared.Beat.TheVariants.{Plain, Sample, Start}
use Rattle.wl_sync.specs.declared.Seen.{Seen}
use Rattle.wl_sync.specs.Bits.{beat_of}
use Rattle.wl_sync.specs.Running.{clock_after}
use Rattle.wl_topology.specs.Driven.{driven}
use Rattle.wl_frame.specs.Stuffing.{destuffed_bits, is_stuff}
use Rattle.wl_frame.specs.Grammar.{Content, bits_of, is_arbitration, layout_of}
use Rattle.wl_machine.specs.declared.state.Role.{Role}
use Rattle.wl_machine.specs.declared.state.Role.TheVariants.{Rx, Tx}
use Rattle.wl_machine.specs.Stretch.{Judgement, Sampled, Stretch, begins, continues}
use Rattle.wl_machine.specs.Stretch.Sort.{Flagging, Framing}
use Rattle.wl_machine.specs.Stretch.Input.{Sample as Given}
use Rattle.wl_machine.specs.Flags.{error_flag, fails}
use Rattle.wl_machine.specs.Frames.{frame_role, framing_by, framing_received, framing_sent, sent_at, stuffed_end}
use Rattle.wl_machine.specs.Judged.{awaits_start, drive_of, is_idle_sort, judged, stretch_after, stretch_of}
use Rattle.wl_machine.specs.States.{stretch_by}
use Rattle.wl_machine.proofs.Callers.{stretch_next}
use Rattle.wl_node.specs.declared.setup.NodeSetup.{NodeSetup}
use Rattle.wl_node.specs.History.{History, by_beat, sampled_next, switched_off, is_integration}
use Rattle.wl_phase.specs.Clocks.{steady_tick}
use Rattle.wl_phase.specs.InStep.{seen_before}
use Rattle.wl_wire.specs.InStep.{is_fine}
use Rattle.wl_wire.proofs.Callers.{fine_counts}
use Rattle.wl_buses.specs.OneFrame.Stations.{Stations}
use Rattle.wl_buses.specs.OneFrame.Course.{bus_bit}
use Rattle.wl_buses.specs.OneFrame.Clocked.{BitIs}
use Rattle.wl_buses.specs.OneFrame.Expected.{HasSampled, Outset, SeesExpected, expected_bits, expected_drove, expected_sample, past_at, wants}
use Rattle.wl_buses.specs.OneFrame.Machines.{bus_levels}
use Rattle.wl_buses.specs.OneFrame.Nodes.{GoesToNext, IsInBit, IsRun, clock_sees}
use Rattle.wl_buses.proofs.OneFrame.Machines.{level_back, on_after}
use Rattle.wl_buses.proofs.BothProofs.Small.{level_same}

-- whether a sample in the stuffed part is fine is a matter of its level alone
fine_differing : (sm a b c d : Bool) (e f g h : Judgement) → is_fine e.happened ≡ false → is_fine f.happened ≡ false → is_fine g.happened ≡ false → is_fine h.happened ≡ false
    → is_fine (cond sm (continues happens.Nothing) (cond a e (cond b (cond c f e) (cond d (continues happens.Nothing) e)))).happened
    ≡ is_fine (cond sm (continues happens.Nothing) (cond a g (cond b (cond c h g) (cond d (continues happens.Nothing) g)))).happened
fine_differing true a b c d e f g h p q r t = refl
fine_differing false true b c d e f g h p q r t = p ∙ sym r
fine_differing false false true true d e f g h p q r t = q ∙ sym t
fine_differing false false true false d e f g h p q r t = p ∙ sym r
fine_differing false false false c true e f g h p q r t = refl
fine_differing false false false c false e f g h p q r t = p ∙ sym r

fine_received : (six : Bool) (e g : Judgement) → is_fine e.happened ≡ false → is_fine g.happened ≡ false
    → is_fine (cond six e (continues happens.Nothing)).happened ≡ is_fine (cond six g (continues happens.Nothing)).happened
fine_received true e g p r = p ∙ sym r
fine_received false e g p r = refl

fine_sent : (h : Content) (own : List Level) (x y : Sampled) → x.level ≡ y.level → is_fine (framing_sent h own None x).happened ≡ is_fine (framing_sent h own None y).happened
fine_sent h own x y e =
    fine_differing (same (sent_at h own (length own)) x.level) (is_dominant (sent_at h own (length own))) (is_stuff own (length own))
    (nat_le (length (destuffed_bits own (length own))) (layout_of (bits_of h)).rtr) (is_arbitration (bits_of h) (length (destuffed_bits own (length own))))
    (fails Tx x.mode Bit) (begins happens.TxFree (Flagging (error_flag x.mode) Tx) []) (fails Tx y.mode Bit) (begins happens.TxFree (Flagging (error_flag y.mode) Tx) []) refl refl refl refl
    ∙ ap (λ l. is_fine (cond (same (sent_at h own (length own)) l) (continues happens.Nothing)
    (cond (is_dominant (sent_at h own (length own))) (fails Tx y.mode Bit)
    (cond (is_stuff own (length own)) (cond (nat_le (length (destuffed_bits own (length own))) (layout_of (bits_of h)).rtr) (begins happens.TxFree (Flagging (error_flag y.mode) Tx) []) (fails Tx y.mode Bit))
    (cond (is_arbitration (bits_of h) (length (destuffed_bits own (length own)))) (continues happens.Nothing) (fails Tx y.mode Bit))))).happened) e

fine_other : (own : List Level) (x y : Sampled) → x.level ≡ y.level → is_fine (framing_received own None x).happened ≡ is_fine (framing_received own None y).happened
fine_other own x y e =
    fine_received (is_stuff own (length own) && same x.level (before own (length own))) (fails Rx x.mode Stuff) (fails Rx y.mode Stuff) refl refl
    ∙ ap (λ l. is_fine (cond (is_stuff own (length own) && same l (before own (length own))) (fails Rx y.mode Stuff) (continues happens.Nothing)).happened) e

fine_by : (role : Role) (head : Option Content) (own : List Level) (x y : Sampled) → stuffed_end own ≡ None → x.level ≡ y.level
    → is_fine (framing_by role head own x).happened ≡ is_fine (framing_by role head own y).happened
fine_by Tx (Some h) own x y none e =
    ap (λ o. is_fine (framing_sent h own o x).happened) none ∙ fine_sent h own x y e ∙ ap (λ o. is_fine (framing_sent h own o y).happened) (sym none)
fine_by Tx None own x y none e =
    ap (λ o. is_fine (framing_received own o x).happened) none ∙ fine_other own x y e ∙ ap (λ o. is_fine (framing_received own o y).happened) (sym none)
fine_by Rx head own x y none e =
    ap (λ o. is_fine (framing_received own o x).happened) none ∙ fine_other own x y e ∙ ap (λ o. is_fine (framing_received own o y).happened) (sym none)

-- a sample of the stuffed part that is fine for one is fine for all of its level
pub fine_same : (s : Stretch) (head : Option Content) (own : List Level) (x y : Sampled) → s ≡ stretch_by (Framing head) own → stuffed_end own ≡ None → x.level ≡ y.level
    → is_fine (judged s x).happened ≡ true → is_fine (judged s y).happened ≡ true
fine_same s head own x y e none l fine =
    ap (λ t. is_fine (judged t y).happened) e ∙ sym (fine_by (frame_role head own) head own x y none l) ∙ ap (λ t. is_fine (judged t x).happened) (sym e) ∙ fine

pub seen_before_same : (a b : ℕ → Seen) (k : ℕ) → ((j : ℕ) → j < k → a j ≡ b j) → seen_before a k ≡ seen_before b k
seen_before_same a b zero h = refl
seen_before_same a b (suc k) h = ap (λ v. v ++ a k ∷ []) (seen_before_same a b k (λ j less. h j (omega arith))) ∙ ap (λ x. seen_before b k ++ x ∷ []) (h k (omega arith))

module _ (setup : NodeSetup) (levels : ℕ → Level) (node : ℕ → History) (run : IsRun setup levels node) where
  abbrev sees : ℕ → Seen
  sees = clock_sees levels node

  pub seen_are : (q : ℕ) → (node q).seen ≡ seen_before sees q
  seen_are zero = ap (λ h. h.seen) run.first
  seen_are (suc q) = ap (λ h. h.seen) (run.next q) ∙ ap (λ v. v ++ sees q ∷ []) (seen_are q)

  -- what a quantum with this beat leaves
  module _ (q : ℕ) (b : Beat) (e : beat_of setup.segments (seen_before sees q) (sees q) ≡ b) where
    beat_is : beat_of setup.segments (node q).seen (sees q) ≡ b
    beat_is = ap (λ v. beat_of setup.segments v (sees q)) (seen_are q) ∙ e

    pub inputs_by : (node (suc q)).inputs ≡ (by_beat setup (node q) (levels q) b).inputs
    inputs_by = ap (λ h. h.inputs) (run.next q) ∙ ap (λ x. (by_beat setup (node q) (levels q) x).inputs) beat_is

    pub drive_by : (node (suc q)).drive ≡ (by_beat setup (node q) (levels q) b).drive
    drive_by = ap (λ h. h.drive) (run.next q) ∙ ap (λ x. (by_beat setup (node q) (levels q) x).drive) beat_is

    pub happened_by : (node (suc q)).happened ≡ (by_beat setup (node q) (levels q) b).happened
    happened_by = ap (λ h. h.happened) (run.next q) ∙ ap (λ x. (by_beat setup (node q) (levels q) x).happened) beat_is

    pub frames_by : (node (suc q)).frames ≡ (by_beat setup (node q) (levels q) b).frames
    frames_by = ap (λ h. h.frames) (run.next q) ∙ ap (λ x. (by_beat setup (node q) (levels q) x).frames) beat_is

  -- from one sample on to the next one, if what the node sees in between makes its bit clock go so
  module _ (l : Lengths) (segments : setup.segments ≡ l) (R S' : ℕ) (X : Stretch) (drives : ℕ → Bool)
      (stretch_first : stretch_of (node (suc R)).inputs ≡ X) (drive_first : (node (suc R)).drive ≡ level_of (drives (suc R))) where
    abbrev later : ℕ → Seen
    later q = record { level = levels q; idle = is_idle_sort X.sort; awaits = awaits_start X; integrates = is_integration X.sort; driving = drives q }

    -- what it is expected to see
    pub expected : ℕ → Seen
    expected q = cond (nat_le q R) (sees q) (later q)

    pub expected_old : (q : ℕ) → q ≤ R → expected q ≡ sees q
    unfolding expected
    expected_old q less = ap (λ b. cond b (sees q) (later q)) (le-leb q R less)

    pub expected_new : (q : ℕ) → R < q → expected q ≡ later q
    unfolding expected
    expected_new q more = ap (λ b. cond b (sees q) (later q)) (lt-leb q R more)

    pub old_before : (k : ℕ) → k ≤ suc R → seen_before expected k ≡ seen_before sees k
    old_before k less = seen_before_same expected sees k (λ j below. expected_old j (omega arith))

    abbrev pub beat_at : ℕ → Beat
    beat_at q = beat_of l (seen_before expected q) (expected q)

    -- a quantum in between begins no bit and leaves the drive, or begins one with what the machine wants
    abbrev pub Passes : ℕ → Type 0
    Passes q = ((beat_at q ≡ Plain) × (drives (suc q) ≡ drives q)) ⊎ ((beat_at q ≡ Start) × (drives (suc q) ≡ is_dominant (drive_of X)))

    module _ (passes : (q : ℕ) → R < q → q < S' → Passes q) (longer : R < S') where
      pub record Same (q : ℕ) : Type 0 where
        pub inputs : (node q).inputs ≡ (node (suc R)).inputs
        pub happened : (node q).happened ≡ (node (suc R)).happened
        pub drive : (node q).drive ≡ level_of (drives q)
        pub seen : (j : ℕ) → j < q → expected j ≡ sees j

      -- it sees what is expected
      sees_there : (q : ℕ) → R < q → Same q → expected q ≡ sees q
      sees_there q more x =
          let stretch : X ≡ stretch_of (node q).inputs = sym (ap stretch_of x.inputs ∙ stretch_first) in
          let idle : is_idle_sort X.sort ≡ is_idle_sort (stretch_of (node q).inputs).sort = ap (λ y. is_idle_sort y.sort) stretch in
          let awaits : awaits_start X ≡ awaits_start (stretch_of (node q).inputs) = ap awaits_start stretch in
          let integrates : is_integration X.sort ≡ is_integration (stretch_of (node q).inputs).sort = ap (λ y. is_integration y.sort) stretch in
          let driving : drives q ≡ is_dominant (node q).drive = sym (ap is_dominant x.drive ∙ level_back (drives q)) in
          expected_new q more ∙ (λ j. record { level = levels q; idle = idle j; awaits = awaits j; integrates = integrates j; driving = driving j })

      beat_there : (q : ℕ) (b : Beat) → R < q → Same q → beat_at q ≡ b → beat_of setup.segments (seen_before sees q) (sees q) ≡ b
      beat_there q b more x e =
          ap (λ m. beat_of m (seen_before sees q) (sees q)) segments ∙ ap (λ v. beat_of l v (sees q)) (sym (seen_before_same expected sees q x.seen))
          ∙ ap (beat_of l (seen_before expected q)) (sym (sees_there q more x)) ∙ e

      seen_more : (q : ℕ) → R < q → Same q → (j : ℕ) → j < suc q → expected j ≡ sees j
      seen_more q more x j less = elim (cases_lt j q) [
        | inl before ↦ x.seen j before
        | inr last ↦ (let e : q ≡ j = omega arith in subst (λ k. expected k ≡ sees k) e (sees_there q more x))
      ]

      step : (q : ℕ) → R < q → Same q → Passes q → Same (suc q)
      step q more x (inl plain) =
          (let b = beat_there q Plain more x plain.0 in
          record {
            inputs = inputs_by q Plain b ∙ x.inputs;
            happened = happened_by q Plain b ∙ x.happened;
            drive = drive_by q Plain b ∙ x.drive ∙ ap level_of (sym plain.1);
            seen = seen_more q more x;
          })
      step q more x (inr start) =
          (let b = beat_there q Start more x start.0 in
          record {
            inputs = inputs_by q Start b ∙ x.inputs;
            happened = happened_by q Start b ∙ x.happened;
            drive =
                drive_by q Start b ∙ ap (λ v. drive_of (stretch_of v)) x.inputs ∙ ap drive_of stretch_first ∙ sym (level_same (drive_of X)) ∙ ap level_of (sym start.1);
            seen = seen_more q more x;
          })

      same_up : (m : ℕ) → suc R + m ≤ S' → Same (suc R + m)
      same_up zero less =
          subst Same (let e : suc R ≡ suc R + 0 = omega arith in e)
          (record { inputs = refl; happened = refl; drive = drive_first; seen = λ j below. expected_old j (omega arith) })
      same_up (suc m) less =
          (let e : suc (suc R + m) ≡ suc R + suc m = omega arith in
          subst Same e (step (suc R + m) (omega arith) (same_up m (omega arith)) (passes (suc R + m) (omega arith) (omega arith))))

      pub same_at : (q : ℕ) → R < q → q ≤ S' → Same q
      same_at q more less = (let e : suc R + (q - suc R) ≡ q = omega arith in subst Same e (same_up (q - suc R) (omega arith)))

      -- the sample
      module _ (lv : Level) (beat : beat_at S' ≡ Sample lv) (next : Stretch) (counts_first : counts_of (node (suc R)).happened ≡ no_counts) (found : levels S' ≡ lv)
          (takes : (z : Sampled) → z ≡ sampled_next setup (node S') (levels S') → z.mode ≡ Active → z.level ≡ lv → (is_fine (judged X z).happened ≡ true) × (stretch_after X (Given z) ≡ next)) where
        last : Same S'
        last = same_at S' longer (omega arith)

        abbrev given : Sampled
        given = sampled_next setup (node S') (levels S')

        mode_then : given.mode ≡ Active
        mode_then = ap mode_of (ap counts_of last.happened ∙ counts_first)

        given_takes : (is_fine (judged X given).happened ≡ true) × (stretch_after X (Given given) ≡ next)
        given_takes = takes given refl mode_then found

        at_stretch : stretch_of (node S').inputs ≡ X
        at_stretch = ap stretch_of last.inputs ∙ stretch_first

        sample_beat : beat_of setup.segments (seen_before sees S') (sees S') ≡ Sample lv
        sample_beat = beat_there S' (Sample lv) longer last beat

        abbrev judgement : Judgement
        judgement = judged (stretch_of (node S').inputs) given

        counts_then : counts_of ((node S').happened ++ judgement.happened ∷ []) ≡ no_counts
        counts_then =
            fold-append counts_after no_counts (node S').happened (judgement.happened ∷ [])
            ∙ ap (λ c. counts_after c judgement.happened) (ap counts_of last.happened ∙ counts_first)
            ∙ fine_counts judgement.happened (ap (λ t. is_fine (judged t given).happened) at_stretch ∙ given_takes.0)

        none_off : switched_off given.mode (mode_of (counts_of ((node S').happened ++ judgement.happened ∷ []))) ≡ []
        none_off =
            ap (λ m. switched_off m (mode_of (counts_of ((node S').happened ++ judgement.happened ∷ [])))) mode_then ∙ ap (λ c. switched_off Active (mode_of c)) counts_then

        pub stretch_there : stretch_of (node (suc S')).inputs ≡ next
        stretch_there =
            ap stretch_of (inputs_by S' (Sample lv) sample_beat ∙ ap (λ v. ((node S').inputs ++ Given given ∷ []) ++ v) none_off ∙ append-nil ((node S').inputs ++ Given given ∷ []))
            ∙ stretch_next (node S').inputs (Given given) ∙ ap (λ t. stretch_after t (Given given)) at_stretch ∙ given_takes.1

        pub counts_there : counts_of (node (suc S')).happened ≡ no_counts
        counts_there = ap counts_of (happened_by S' (Sample lv) sample_beat) ∙ counts_then

        pub drive_there : (node (suc S')).drive ≡ level_of (drives S')
        drive_there = drive_by S' (Sample lv) sample_beat ∙ last.drive

        pub all_seen : (j : ℕ) → j < suc S' → expected j ≡ sees j
        all_seen = seen_more S' longer last

-- the next bit of a frame
module _ (setup : NodeSetup) (levels : ℕ → Level) (node : ℕ → History) (run : IsRun setup levels node) (s : Stations) (o : Outset) (i n : ℕ) (segments : setup.segments ≡ s.lengths i)
    (at : IsInBit s o i levels node n) (begins_after : expected_sample s o n i < (expected_bits s o (suc n)).from i) where
  abbrev S : ℕ
  S = expected_sample s o n i

  abbrev S' : ℕ
  S' = expected_sample s o (suc n) i

  abbrev F : ℕ
  F = (expected_bits s o (suc n)).from i

  abbrev X : Stretch
  X = stretch_of (past_at s o (suc n) i)

  abbrev pub drives : ℕ → Bool
  drives q = cond (nat_le q F) (wants s o n i) (wants s o (suc n) i)

  drives_before : (q : ℕ) → q ≤ F → drives q ≡ wants s o n i
  drives_before q less = ap (λ b. cond b (wants s o n i) (wants s o (suc n) i)) (le-leb q F less)

  drives_after : (q : ℕ) → F < q → drives q ≡ wants s o (suc n) i
  drives_after q more = ap (λ b. cond b (wants s o n i) (wants s o (suc n) i)) (lt-leb q F more)

  pub drive_first : (node (suc S)).drive ≡ level_of (drives (suc S))
  drive_first = at.drive ∙ ap level_of (sym (drives_before (suc S) begins_after))

  -- what it is expected to see
  abbrev pub sees_in : ℕ → Seen
  sees_in = expected setup levels node run (s.lengths i) segments S S' X drives at.stretch drive_first

  abbrev new_in : (q : ℕ) → S < q → sees_in q ≡ record { level = levels q; idle = is_idle_sort X.sort; awaits = awaits_start X; integrates = is_integration X.sort; driving = drives q }
  new_in = expected_new setup levels node run (s.lengths i) segments S S' X drives at.stretch drive_first

  pub sees_expected : awaits_start X ≡ false → (length : ℕ)
      → ((q : ℕ) → S < q → q ≤ S' → levels q ≡ level_of (driven s.count s.delay (expected_drove s o length) i (steady_tick (s.clocks i) q)))
      → SeesExpected s o length i sees_in n
  sees_expected none length finds = record {
    level = λ q a b. ap (λ x. x.level) (new_in q a) ∙ finds q a b;
    awaits = λ q a b. ap (λ x. x.awaits) (new_in q a) ∙ none;
    before = λ q a b. ap (λ x. x.driving) (new_in q a) ∙ drives_before q b;
    after = λ q a b. ap (λ x. x.driving) (new_in q (omega arith)) ∙ drives_after q a;
  }

  pub has_expected : HasSampled s o i sees_in n
  has_expected =
      let old = old_before setup levels node run (s.lengths i) segments S S' X drives at.stretch drive_first in
      record {
        sampled =
            ap (λ v. beat_of (s.lengths i) v (sees_in S)) (old S (omega arith))
            ∙ ap (beat_of (s.lengths i) (seen_before (clock_sees levels node) S)) (expected_old setup levels node run (s.lengths i) segments S S' X drives at.stretch drive_first S (omega arith))
            ∙ at.clock.sampled;
        steady = λ e. ap (clock_after (s.lengths i)) (old (suc S) (omega arith)) ∙ at.clock.steady e;
      }

  -- so it goes
  module _ (bit : BitIs (s.lengths i) sees_in S ((expected_bits s o (suc n)).place i) F (level_of (bus_bit s (expected_bits s o) (suc n))))
      (head : Option Content) (framing : X ≡ stretch_by (Framing head) (bus_levels s (expected_bits s o) (suc n)))
      (going : stuffed_end (bus_levels s (expected_bits s o) (suc n)) ≡ None) (y : Sampled) (y_level : y.level ≡ level_of (bus_bit s (expected_bits s o) (suc n)))
      (fine : is_fine (judged X y).happened ≡ true) (next_is : past_at s o (suc (suc n)) i ≡ past_at s o (suc n) i ++ Given y ∷ [])
      (found : levels S' ≡ level_of (bus_bit s (expected_bits s o) (suc n))) (longer : S < S') (has_next : HasSampled s o i sees_in (suc n)) where
    passes : (q : ℕ) → S < q → q < S' → Passes setup levels node run (s.lengths i) segments S S' X drives at.stretch drive_first q
    passes q more less = elim (cases_eq q F) [
      | inl here ↦ inr (
        ap (λ k. beat_of (s.lengths i) (seen_before sees_in k) (sees_in k)) here ∙ bit.starts.starts,
        drives_after (suc q) (omega (arith, here)),
      )
      | inr apart ↦ inl (
        bit.starts.others q more less apart,
        elim (cases_lt q F) [
          | inl before ↦ drives_before (suc q) before ∙ sym (drives_before q (omega arith))
          | inr from ↦ drives_after (suc q) (omega (arith, apart)) ∙ sym (drives_after q (omega (arith, apart)))
        ],
      )
    ]

    abbrev next_of : Stretch
    next_of = stretch_by (Framing head) (bus_levels s (expected_bits s o) (suc (suc n)))

    takes : (z : Sampled) → z.level ≡ level_of (bus_bit s (expected_bits s o) (suc n)) → (is_fine (judged X z).happened ≡ true) × (stretch_after X (Given z) ≡ next_of)
    takes z e =
        let f = fine_same X head (bus_levels s (expected_bits s o) (suc n)) y z framing going (y_level ∙ sym e) fine in (
          f,
          on_after X z head (bus_levels s (expected_bits s o) (suc n)) framing going f
              ∙ ap (λ l. stretch_by (Framing head) (bus_levels s (expected_bits s o) (suc n) ++ l ∷ [])) e,
        )

    pub goes_to_next : GoesToNext s o i levels node n
    goes_to_next =
        let seen = all_seen setup levels node run (s.lengths i) segments S S' X drives at.stretch drive_first passes longer (level_of (bus_bit s (expected_bits s o) (suc n))) bit.samples.beat next_of
        at.counts found (λ z same active e. takes z e) in
        let there = stretch_there setup levels node run (s.lengths i) segments S S' X drives at.stretch drive_first passes longer (level_of (bus_bit s (expected_bits s o) (suc n))) bit.samples.beat next_of
        at.counts found (λ z same active e. takes z e) in
        let counts = counts_there setup levels node run (s.lengths i) segments S S' X drives at.stretch drive_first passes longer (level_of (bus_bit s (expected_bits s o) (suc n))) bit.samples.beat next_of
        at.counts found (λ z same active e. takes z e) in
        let drive = drive_there setup levels node run (s.lengths i) segments S S' X drives at.stretch drive_first passes longer (level_of (bus_bit s (expected_bits s o) (suc n))) bit.samples.beat next_of
        at.counts found (λ z same active e. takes z e) ∙ ap level_of (drives_after S' bit.starts.inside) in
        let same = same_at setup levels node run (s.lengths i) segments S S' X drives at.stretch drive_first passes longer in
        record {
          bit = record {
            clock = record {
              sampled =
                  ap (λ v. beat_of (s.lengths i) v (clock_sees levels node S')) (sym (seen_before_same sees_in (clock_sees levels node) S' (λ j less. seen j (omega arith))))
                  ∙ ap (beat_of (s.lengths i) (seen_before sees_in S')) (sym (seen S' (omega arith))) ∙ has_next.sampled;
              steady = λ e. ap (clock_after (s.lengths i)) (sym (seen_before_same sees_in (clock_sees levels node) (suc S') seen)) ∙ has_next.steady e;
            };
            stretch = there ∙ sym (ap stretch_of next_is ∙ stretch_next (past_at s o (suc n) i) (Given y) ∙ (takes y y_level).1);
            counts = counts;
            drive = drive;
          };
          before = λ q a b. (same q a (let h = bit.starts.inside in omega arith)).drive ∙ ap level_of (drives_before q b);
          after = λ q a b. elim (cases_lt S' q) [
            | inl above ↦ (let e : suc S' ≡ q = omega arith in subst (λ k. (node k).drive ≡ level_of (wants s o (suc n) i)) e drive)
            | inr inside ↦ (same q (omega arith) inside).drive ∙ ap level_of (drives_after q a)
          ];
        }
