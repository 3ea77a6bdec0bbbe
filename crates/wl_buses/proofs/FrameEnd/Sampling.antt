-- A node at one of its samples, if what it sees before makes its bit clock go so.
use Rattle.std.proofs.Common.{◌≡◌, ◌∙◌, inl, inr, sym, ap, subst, ℕ, suc, ◌<◌, ◌≤◌, cond, Bool, true, List, [], ◌∷◌, ◌++◌, length, arith, append-nil}
use Rattle.std.proofs.lemmas.Bool.{cases_eq, cases_lt, le-leb, lt-leb}
use Rattle.std.proofs.lemmas.List.Sums.{fold-append}
use Rattle.wl_level.specs.declared.Level.{Level}
use Rattle.wl_level.specs.Levels.{is_dominant, level_of}
use Rattle.wl_confine.specs.declared.Happened.{Happened}
use Rattle.wl_confine.specs.declared.Mode.TheVariants.{Active}
use Rattle.wl_confine.specs.Counts.{counts_after, counts_of, mode_of, no_counts}
use Rattle.wl_sync.specs.declared.Beat.TheVariants.{Sample}
use Rattle.wl_sync.specs.declared.Seen.{Seen}
use Rattle.wl_sync.specs.Bits.{beat_of}
use Rattle.wl_sync.specs.Running.{clock_after}
use Rattle.wl_machine.specs.Stretch.{Judgement, Sampled, Stretch}
use Rattle.wl_machine.specs.Stretch.Input.{Sample as Given}
use Rattle.wl_machine.specs.Judged.{awaits_start, is_idle_sort, judged, stretch_after, stretch_of}
use Rattle.wl_machine.proofs.Callers.{stretch_next}
use Rattle.wl_node.specs.declared.setup.NodeSetup.{NodeSetup}
use Rattle.wl_node.specs.History.{is_integration, History, by_beat, passed_frames, sampled_next, switched_off}
use Rattle.wl_phase.specs.InStep.{seen_before}
use Rattle.wl_wire.specs.InStep.{is_fine}
use Rattle.wl_wire.proofs.Callers.{fine_counts}
use Rattle.wl_buses.specs.OneFrame.Stations.{Stations}
use Rattle.wl_buses.specs.OneFrame.Course.{bus_bit}
use Rattle.wl_buses.specs.OneFrame.Clocked.{BitIs}
use Rattle.wl_buses.specs.OneFrame.Expected.{HasSampled, Outset, expected_bits, expected_sample, past_at, wants}
use Rattle.wl_buses.specs.OneFrame.Nodes.{IsInBit, IsRun, clock_sees}
use Rattle.wl_buses.proofs.OneFrame.Nodes.{Passes, Same, drive_by, drive_first, drives, expected_new, happened_by, inputs_by, same_at, seen_are, seen_before_same, sees_in}
use Rattle.wl_buses.proofs.OneFrame.Machines.{level_back}
use Rattle.wl_buses.proofs.FirstFrame.Silent.{seen_length}

-- what is fine counts nothing, and leaves the bus to nobody
counts_stay : (happened : List Happened) (h : Happened) → counts_of happened ≡ no_counts → is_fine h ≡ true
    → (counts_of (happened ++ h ∷ []) ≡ no_counts) × (switched_off (mode_of (counts_of happened)) (mode_of (counts_of (happened ++ h ∷ []))) ≡ [])
counts_stay happened h before fine =
    (let after : counts_of (happened ++ h ∷ []) ≡ no_counts = fold-append counts_after no_counts happened (h ∷ []) ∙ ap (λ c. counts_after c h) before ∙ fine_counts h fine in (
      after,
      ap (λ c. switched_off (mode_of c) (mode_of (counts_of (happened ++ h ∷ [])))) before ∙ ap (λ c. switched_off Active (mode_of c)) after,
    ))

module _ (setup : NodeSetup) (levels : ℕ → Level) (node : ℕ → History) (run : IsRun setup levels node) (s : Stations) (o : Outset) (i n : ℕ) (segments : setup.segments ≡ s.lengths i)
    (at : IsInBit s o i levels node n) (begins_after : expected_sample s o n i < (expected_bits s o (suc n)).from i) where
  abbrev pub S : ℕ
  S = expected_sample s o n i

  abbrev pub S' : ℕ
  S' = expected_sample s o (suc n) i

  abbrev pub F : ℕ
  F = (expected_bits s o (suc n)).from i

  abbrev pub X : Stretch
  X = stretch_of (past_at s o (suc n) i)

  abbrev pub v : ℕ → Bool
  v = drives setup levels node run s o i n segments at begins_after

  abbrev pub first : (node (suc S)).drive ≡ level_of (v (suc S))
  first = drive_first setup levels node run s o i n segments at begins_after

  abbrev pub sees : ℕ → Seen
  sees = sees_in setup levels node run s o i n segments at begins_after

  pub before_start : (q : ℕ) → q ≤ F → v q ≡ wants s o n i
  before_start q less = ap (λ b. cond b (wants s o n i) (wants s o (suc n) i)) (le-leb q F less)

  pub after_start : (q : ℕ) → F < q → v q ≡ wants s o (suc n) i
  after_start q more = ap (λ b. cond b (wants s o n i) (wants s o (suc n) i)) (lt-leb q F more)

  pub new_there : (q : ℕ) → S < q → sees q ≡ record { level = levels q; idle = is_idle_sort X.sort; awaits = awaits_start X; integrates = is_integration X.sort; driving = v q }
  new_there = expected_new setup levels node run (s.lengths i) segments S S' X v at.stretch first

  -- between its samples of a bit and of the next one nothing is sampled
  pub passes : (level : Level) → BitIs (s.lengths i) sees S ((expected_bits s o (suc n)).place i) F level → (q : ℕ) → S < q → q < S'
      → Passes setup levels node run (s.lengths i) segments S S' X v at.stretch first q
  passes level bit q more less = elim (cases_eq q F) [
    | inl here ↦ inr (ap (λ k. beat_of (s.lengths i) (seen_before sees k) (sees k)) here ∙ bit.starts.starts, after_start (suc q) (omega (arith, here)))
    | inr apart ↦ inl (
      bit.starts.others q more less apart,
      elim (cases_lt q F) [
        | inl before ↦ before_start (suc q) before ∙ sym (before_start q (omega arith))
        | inr from ↦ after_start (suc q) (omega (arith, apart)) ∙ sym (after_start q (omega (arith, apart)))
      ],
    )
  ]

  -- the sample of the next bit
  module _ (bit : BitIs (s.lengths i) sees S ((expected_bits s o (suc n)).place i) F (level_of (bus_bit s (expected_bits s o) (suc n))))
      (longer : S < S') (found : levels S' ≡ level_of (bus_bit s (expected_bits s o) (suc n)))
      (fine : (z : Sampled) → z.level ≡ level_of (bus_bit s (expected_bits s o) (suc n)) → is_fine (judged X z).happened ≡ true) where
    abbrev lv : Level
    lv = level_of (bus_bit s (expected_bits s o) (suc n))

    same : (q : ℕ) → S < q → q ≤ S' → Same setup levels node run (s.lengths i) segments S S' X v at.stretch first (passes lv bit) longer q
    same = same_at setup levels node run (s.lengths i) segments S S' X v at.stretch first (passes lv bit) longer

    last : Same setup levels node run (s.lengths i) segments S S' X v at.stretch first (passes lv bit) longer S'
    last = same S' longer (omega arith)

    abbrev given : Sampled
    given = sampled_next setup (node S') (levels S')

    stretch_at : X ≡ stretch_of (node S').inputs
    stretch_at = sym (ap stretch_of last.inputs ∙ at.stretch)

    -- it sees what is expected, also then
    seen_all : (j : ℕ) → j < suc S' → sees j ≡ clock_sees levels node j
    seen_all j less = elim (cases_lt j S') [
      | inl before ↦ last.seen j before
      | inr end_of ↦ (let e : S' ≡ j = omega arith in subst (λ k. sees k ≡ clock_sees levels node k) e there)
    ]
      where
        there : sees S' ≡ clock_sees levels node S'
        there =
            let stretch : X ≡ stretch_of (node S').inputs = stretch_at in
            let idle : is_idle_sort X.sort ≡ is_idle_sort (stretch_of (node S').inputs).sort = ap (λ y. is_idle_sort y.sort) stretch in
            let awaits : awaits_start X ≡ awaits_start (stretch_of (node S').inputs) = ap awaits_start stretch in
            let integrates : is_integration X.sort ≡ is_integration (stretch_of (node S').inputs).sort = ap (λ y. is_integration y.sort) stretch in
            let driving : v S' ≡ is_dominant (node S').drive = sym (ap is_dominant last.drive ∙ level_back (v S')) in
            new_there S' longer ∙ (λ j. record { level = levels S'; idle = idle j; awaits = awaits j; integrates = integrates j; driving = driving j })

    beat : beat_of setup.segments (seen_before (clock_sees levels node) S') (clock_sees levels node S') ≡ Sample lv
    beat =
        ap (λ m. beat_of m (seen_before (clock_sees levels node) S') (clock_sees levels node S')) segments
        ∙ ap (λ w. beat_of (s.lengths i) w (clock_sees levels node S')) (sym (seen_before_same sees (clock_sees levels node) S' (λ j less. seen_all j (omega arith))))
        ∙ ap (beat_of (s.lengths i) (seen_before sees S')) (sym (seen_all S' (omega arith))) ∙ bit.samples.beat

    abbrev judgement : Judgement
    judgement = judged (stretch_of (node S').inputs) given

    given_fine : is_fine judgement.happened ≡ true
    given_fine = ap (λ t. is_fine (judged t given).happened) (sym stretch_at) ∙ fine given found

    counts_before : counts_of (node S').happened ≡ no_counts
    counts_before = ap counts_of last.happened ∙ at.counts

    stays : (counts_of ((node S').happened ++ judgement.happened ∷ []) ≡ no_counts) × (switched_off given.mode (mode_of (counts_of ((node S').happened ++ judgement.happened ∷ []))) ≡ [])
    stays = counts_stay (node S').happened judgement.happened counts_before given_fine

    pub mode_then : given.mode ≡ Active
    mode_then = ap mode_of counts_before

    pub stretch_then : stretch_of (node (suc S')).inputs ≡ stretch_after X (Given given)
    stretch_then =
        ap stretch_of (inputs_by setup levels node run S' (Sample lv) beat ∙ ap (λ w. ((node S').inputs ++ Given given ∷ []) ++ w) stays.1 ∙ append-nil ((node S').inputs ++ Given given ∷ []))
        ∙ stretch_next (node S').inputs (Given given) ∙ ap (λ t. stretch_after t (Given given)) (sym stretch_at)

    pub quiet_there : (counts_of (node (suc S')).happened ≡ no_counts) × ((node (suc S')).drive ≡ level_of (wants s o (suc n) i))
    quiet_there = (
      ap counts_of (happened_by setup levels node run S' (Sample lv) beat) ∙ stays.0,
      drive_by setup levels node run S' (Sample lv) beat ∙ last.drive ∙ ap level_of (after_start S' bit.starts.inside),
    )

    pub frames_there : (node (suc S')).frames ≡ (node S').frames ++ passed_frames S' (judged X given).ended
    frames_there =
        ap (λ h. h.frames) (run.next S')
        ∙ ap (λ x. (by_beat setup (node S') (levels S') x).frames) (ap (λ w. beat_of setup.segments w (clock_sees levels node S')) (seen_are setup levels node run S') ∙ beat)
        ∙ ap (λ q. (node S').frames ++ passed_frames q judgement.ended) (ap length (seen_are setup levels node run S') ∙ seen_length (clock_sees levels node) S')
        ∙ ap (λ t. (node S').frames ++ passed_frames S' (judged t given).ended) (sym stretch_at)

    pub clock_there : HasSampled s o i sees (suc n) → HasSampled s o i (clock_sees levels node) (suc n)
    clock_there has = record {
      sampled =
          ap (λ w. beat_of (s.lengths i) w (clock_sees levels node S')) (sym (seen_before_same sees (clock_sees levels node) S' (λ j less. seen_all j (omega arith))))
          ∙ ap (beat_of (s.lengths i) (seen_before sees S')) (sym (seen_all S' (omega arith))) ∙ has.sampled;
      steady = λ e. ap (clock_after (s.lengths i)) (sym (seen_before_same sees (clock_sees levels node) (suc S') seen_all)) ∙ has.steady e;
    }

    pub driven_before : (q : ℕ) → S < q → q ≤ F → (node q).drive ≡ level_of (wants s o n i)
    driven_before q a b = (same q a (let h = bit.starts.inside in omega arith)).drive ∙ ap level_of (before_start q b)

    pub driven_after : (q : ℕ) → F < q → q ≤ suc S' → (node q).drive ≡ level_of (wants s o (suc n) i)
    driven_after q a b = elim (cases_lt S' q) [
      | inl above ↦ (let e : suc S' ≡ q = omega arith in subst (λ k. (node k).drive ≡ level_of (wants s o (suc n) i)) e quiet_there.1)
      | inr inside ↦ (same q (let h = bit.starts.after in omega arith) inside).drive ∙ ap level_of (after_start q a)
    ]
