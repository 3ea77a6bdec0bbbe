-- A node on a silent line: until the bus is idle to it, and until it begins a frame of its own.
use Rattle.std.proofs.Common.{◌≡◌, ◌≢◌, ◌∙◌, inl, inr, refl, sym, ap, subst, ℕ, zero, suc, ◌+◌, ◌-◌, ◌*◌, ◌<◌, ◌≤◌, min, List, [], ◌∷◌, ◌++◌, length, replicate, Bool, true, cond, Some, None, arith, append-nil}
use Rattle.std.specs.Prelude.{◌==◌}
use Rattle.std.proofs.lemmas.Bool.{cases_lt, cases_eq, cases_order, ne_eqb}
use Rattle.std.proofs.Math.Nat.{mul-le-mul_right, lt_of_mul-lt-mul_right}
use Rattle.wl_level.specs.declared.Level.{Level}
use Rattle.wl_level.specs.declared.Level.TheVariants.{Dominant, Recessive}
use Rattle.wl_level.specs.Levels.{is_dominant}
use Rattle.wl_level.specs.Places.{run_at_end}
use Rattle.wl_level.proofs.Callers.{snoc, run_more}
use Rattle.wl_segments.specs.Lengths.{sample_at, bit_quanta}
use Rattle.wl_segments.specs.declared.SyncRules.{SyncRules}
use Rattle.wl_segments.specs.declared.SyncRules.TheVariants.{After, Book}
use Rattle.wl_sync.specs.Running.{clock_after}
use Rattle.wl_confine.specs.declared.Happened.TheVariants.{Nothing}
use Rattle.wl_confine.specs.declared.Mode.TheVariants.{Active}
use Rattle.wl_frame.specs.Grammar.{Content}
use Rattle.wl_machine.specs.Stretch.{Stretch, Sampled, continues, begins, free}
use Rattle.wl_machine.specs.Stretch.Sort.{Integration, Idle, Framing}
use Rattle.wl_machine.specs.BetweenFrames.{idle_on}
use Rattle.wl_machine.specs.Judged.{awaits_start, judged, or_next, drive_of}
use Rattle.wl_machine.specs.States.{stretch_by}
use Rattle.wl_node.specs.declared.setup.NodeSetup.{NodeSetup}
use Rattle.wl_node.specs.declared.setup.Passed.{Passed}
use Rattle.wl_node.specs.declared.setup.Queued.{Queued}
use Rattle.wl_node.specs.History.{handed, staying_history, passed_frames, unsent_of, sampled_next}
use Rattle.wl_phase.specs.Ways.{ByTheBook}
use Rattle.wl_buses.specs.BothProofs.Levels.{levels_before}
use Rattle.wl_phase.proofs.Callers.{IsSilent, first_silent, now_recessive}
use Rattle.wl_buses.proofs.OneSender.Bits.{at_place, glide}
use Rattle.wl_buses.proofs.OneSender.Nodes.{ClockGoes, IsGoing, IsCalm, Does, Completes, Takes, node, node_first, seen_length, clock_at, calm_nothing, mode_is, going_same, level_before, sample_before, sample_on, sample_start, does_first, beat_sample, step_complete, step_on, step_sample, step_start, unmoved_recessive, sees_at}
use Rattle.wl_buses.specs.BothProofs.Queues.{head_at, unsent_after}
use Rattle.wl_buses.proofs.BothProofs.Heads as heads
use Rattle.wl_buses.proofs.BothProofs.Heads.{unsent_none}

-- recessive samples in a row
run_of : (c : ℕ) → run_at_end Recessive (replicate c Recessive) ≡ c
run_of zero = refl
run_of (suc c) =
    ap (run_at_end Recessive) (snoc [] Recessive c) ∙ run_more Recessive (replicate c Recessive) Recessive ∙ ap suc (run_of c)

-- what a machine makes of one more
pub integrates : (c : ℕ) (x : Sampled) → c ≢ 10 → x.level ≡ Recessive → judged (stretch_by Integration (replicate c Recessive)) x ≡ continues Nothing
integrates c x apart e =
    ap (λ l. cond (run_at_end Recessive (replicate c Recessive ++ l ∷ []) == 11) (begins Nothing (free x.head) []) (continues Nothing)) e
    ∙ ap (λ n. cond (n == 11) (begins Nothing (free x.head) []) (continues Nothing)) (ap (run_at_end Recessive) (sym (snoc [] Recessive c)) ∙ run_of (suc c))
    ∙ ap (λ b. cond b (begins Nothing (free x.head) []) (continues Nothing)) (ne_eqb (suc c) 11 (λ f. apart (omega arith)))

pub integrated : (x : Sampled) → x.level ≡ Recessive → judged (stretch_by Integration (replicate 10 Recessive)) x ≡ begins Nothing (free x.head) []
integrated x e = ap (λ l. cond (run_at_end Recessive (replicate 10 Recessive ++ l ∷ []) == 11) (begins Nothing (free x.head) []) (continues Nothing)) e

pub idles : (own : List Level) (x : Sampled) → x.level ≡ Recessive → judged (stretch_by Idle own) x ≡ idle_on x.head
idles own x e = ap (λ l. cond (is_dominant l) (begins Nothing (Framing None) (l ∷ [])) (idle_on x.head)) e

-- a node that awaits a start of frame, and takes the next dominant bit for one if it has no frame of its own
pub record AwaitsFrame (s : Stretch) : Type 0 where
  pub awaits : awaits_start s ≡ true
  pub takes : (x : Sampled) → x.level ≡ Dominant → x.head ≡ None → judged s x ≡ begins Nothing (Framing None) (Dominant ∷ [])

idle_awaits : (own : List Level) → AwaitsFrame (stretch_by Idle own)
idle_awaits own = record {
  awaits = refl;
  takes = λ x now none. ap (λ l. cond (is_dominant l) (begins Nothing (Framing None) (l ∷ [])) (idle_on x.head)) now;
}

-- What a sample of a stretch leaves: nothing that counts, and these frames.
pub record Leaves (s : Stretch) (quantum : ℕ) (x : Sampled) (more : List Passed) (next : Stretch) : Type 0 where
  pub calm : IsCalm (judged s x).happened
  pub ended : passed_frames quantum (judged s x).ended ≡ more
  pub stretch : or_next (judged s x).next (stretch_by s.sort (s.own ++ Recessive ∷ [])) ≡ next

-- How the bus becomes idle with the eleventh recessive sample. These are the stretches after fewer of them, and the frames that have passed by then. The first
-- of the bits begins with the quantum `base`. From so many samples on the node awaits a start of frame.
pub record Waits (base S B : ℕ) : Type 0 where
  pub stretch : ℕ → Stretch
  pub passed : ℕ → List Passed
  pub silent : (c : ℕ) → c ≤ 10 → drive_of (stretch c) ≡ Recessive
  pub on : (c : ℕ) (x : Sampled) → c < 10 → x.level ≡ Recessive
      → (more : List Passed) × (passed (suc c) ≡ passed c ++ more) × Leaves (stretch c) (base + c * B + S) x more (stretch (suc c))
  pub over : (x : Sampled) → x.level ≡ Recessive → x.mode ≡ Active → judged (stretch 10) x ≡ begins Nothing (free x.head) []
  pub enough : ℕ
  pub many : 10 ≤ enough
  pub awaits : enough ≤ 10 → AwaitsFrame (stretch 10)

-- where a node is after so many
pub record IsWaiting (stretch : ℕ → Stretch) (c : ℕ) (s : Stretch) : Type 0 where
  pub counting : c ≤ 10 → s ≡ stretch c
  pub idle : 11 ≤ c → (own : List Level) × (s ≡ stretch_by Idle own)

module _ (base S B : ℕ) (w : Waits base S B) (c : ℕ) (s : Stretch) (is : IsWaiting w.stretch c s) where
  pub waiting_drives : drive_of s ≡ Recessive
  waiting_drives = elim (cases_lt 10 c) [
    | inl idle ↦ ap drive_of (is.idle idle).1
    | inr counting ↦ ap drive_of (is.counting counting) ∙ w.silent c counting
  ]

  pub waiting_awaits : w.enough ≤ c → AwaitsFrame s
  waiting_awaits h = elim (cases_lt 10 c) [
    | inl idle ↦ subst AwaitsFrame (sym (is.idle idle).1) (idle_awaits (is.idle idle).0)
    | inr counting ↦
        (let many = w.many in
        let ten : c ≡ 10 = omega arith in
        subst AwaitsFrame (sym (is.counting counting ∙ ap w.stretch ten)) (w.awaits (omega arith)))
  ]

-- after the power-up
unfoldable pub integrating : (S B : ℕ) → Waits 0 S B
integrating S B = record {
  stretch = λ c. stretch_by Integration (replicate c Recessive);
  passed = λ c. [];
  silent = λ c h. refl;
  on = λ c x less now. (
    [],
    refl,
    record {
      calm = calm_nothing (judged (stretch_by Integration (replicate c Recessive)) x).happened (ap (λ j. j.happened) (integrates c x (λ e. omega arith) now));
      ended = ap (λ j. passed_frames (0 + c * B + S) j.ended) (integrates c x (λ e. omega arith) now);
      stretch =
          ap (λ j. or_next j.next (stretch_by Integration (replicate c Recessive ++ Recessive ∷ []))) (integrates c x (λ e. omega arith) now)
          ∙ ap (stretch_by Integration) (sym (snoc [] Recessive c));
    },
  );
  over = λ x now mode. integrated x now;
  enough = 11;
  many = omega arith;
  awaits = λ h. absurd (omega arith);
}

-- two ways to count quanta by bits
same_count : (B S base m c p : ℕ) → S < B → 1 ≤ S → 1 ≤ p → p ≤ B → (p ≤ S → base + m * B + S ≡ base + c * B + p) → (S < p → base + m * B + S + B ≡ base + c * B + p) → (c ≡ m) × (p ≡ S)
same_count B S base m c p less some low high early late = elim (cases_order c m) [
  | inl e ↦
      (let f : c * B ≡ m * B = ap (λ n. n * B) e in
      elim (cases_lt S p) [
        | inl after ↦ (let g = late after in absurd (omega arith))
        | inr up_to ↦ (let g = early up_to in (e, omega arith))
      ])
  | inr o ↦ elim o [
    | inl fewer ↦
        (let f : suc c * B ≤ m * B = mul-le-mul_right B fewer in
        let g : suc c * B ≡ c * B + B = omega arith in
        elim (cases_lt S p) [
          | inl after ↦ (let h = late after in absurd (omega arith))
          | inr up_to ↦ (let h = early up_to in absurd (omega arith))
        ])
    | inr more ↦
        (let f : suc m * B ≤ c * B = mul-le-mul_right B more in
        let g : suc m * B ≡ m * B + B = omega arith in
        elim (cases_lt S p) [
          | inl after ↦ (let h = late after in absurd (omega arith))
          | inr up_to ↦ (let h = early up_to in absurd (omega arith))
        ])
  ]
]

-- the frames that are left to send, if these have passed
abbrev pub left_of : NodeSetup → List Passed → List Queued
left_of setup passed = unsent_after setup passed

-- A node begins a frame after bit m of those that begin with a quantum, as soon as one is ready and the bus is idle.
pub record Decides (setup : NodeSetup) (passed : List Passed) (base S B : ℕ) (head : Content) (m : ℕ) : Type 0 where
  pub idle : 10 ≤ m
  pub ready : head_at setup (left_of setup passed) (base + m * B + S) ≡ Some head
  pub unready : (n : ℕ) → 10 ≤ n → n < m → head_at setup (left_of setup passed) (base + n * B + S) ≡ None

-- how many bits were sampled by a quantum, as far as ten
pub record CountsTo (base S B k count : ℕ) : Type 0 where
  pub more : (c : ℕ) → c < 10 → base + c * B + S < k → c < count
  pub less : (c : ℕ) → c < 10 → c < count → base + c * B + S < k

pub ten_counted : (base S B k : ℕ) → base + 9 * B + S < k → CountsTo base S B k 10
ten_counted base S B k past = record {
  more = λ c few h. few;
  less = λ c few h. (let bits : c * B ≤ 9 * B = mul-le-mul_right B (omega arith) in omega arith);
}

pub left_none : (setup : NodeSetup) (passed : List Passed) → setup.queue ≡ [] → left_of setup passed ≡ []
left_none setup passed e = unsent_none setup passed e

module _ (clocks : ClockGoes) (setup : NodeSetup) (book : ByTheBook setup.segments) (levels : ℕ → Level) where
  abbrev S : ℕ
  S = sample_at setup.segments

  abbrev B : ℕ
  B = bit_quanta setup.segments

  abbrev Going : (passed : List Passed) (k p longer : ℕ) (fresh : Bool) (s : Stretch) (drive : Level) → Type 0
  Going = IsGoing clocks setup book levels

  abbrev Taking : (k : ℕ) (s next : Stretch) → Type 0
  Taking = Takes clocks setup book levels

  abbrev pub given : ℕ → Sampled
  given k = sampled_next setup (node clocks setup book levels k) (levels k)

  pub takes_on : (k : ℕ) (s : Stretch) → judged s (given k) ≡ continues Nothing → Taking k s (stretch_by s.sort (s.own ++ levels k ∷ []))
  takes_on k s e = record {
    calm = calm_nothing (judged s (given k)).happened (ap (λ j. j.happened) e);
    ended = ap (λ j. passed_frames k j.ended) e;
    stretch = ap (λ j. or_next j.next (stretch_by s.sort (s.own ++ levels k ∷ []))) e;
  }

  pub takes_new : (k : ℕ) (s next : Stretch) → judged s (given k) ≡ begins Nothing next.sort next.own → Taking k s next
  takes_new k s next e = record {
    calm = calm_nothing (judged s (given k)).happened (ap (λ j. j.happened) e);
    ended = ap (λ j. passed_frames k j.ended) e;
    stretch = ap (λ j. or_next j.next (stretch_by s.sort (s.own ++ levels k ∷ []))) e;
  }

  abbrev left : List Passed → List Queued
  left = left_of setup

  -- what is handed to a machine
  pub head_is : {passed : List Passed} (k : ℕ) (s : Stretch) (drive : Level) → Does clocks setup book levels passed k s drive → levels k ≡ Recessive
      → (given k).head ≡ head_at setup (left passed) k
  head_is {passed = passed} k s drive d e =
      ap (λ l. handed l setup.segments.sync (head_at setup (unsent_of setup (node clocks setup book levels k)) (length (node clocks setup book levels k).seen))) e
      ∙ ap (λ fs. head_at setup (unsent_after setup fs) (length (node clocks setup book levels k).seen)) d.frames
      ∙ ap (head_at setup (left passed)) (seen_length clocks setup book levels k)

  -- and to one that has none to send
  pub head_none : (k : ℕ) → setup.queue ≡ [] → (given k).head ≡ None
  head_none k e =
      ap (λ q. handed (levels k) setup.segments.sync (head_at setup q (length (node clocks setup book levels k).seen))) (unsent_none setup (node clocks setup book levels k).frames e)
      ∙ ap (handed (levels k) setup.segments.sync) (heads.head_none setup (length (node clocks setup book levels k).seen)) ∙ none_handed (levels k) setup.segments.sync
    where
      none_handed : (v : Level) (s : SyncRules) → handed v s None ≡ None
      none_handed Recessive s = refl
      none_handed Dominant Book = refl
      none_handed Dominant After = refl

  module _ (base : ℕ) (w : Waits base S B) where
    -- where a node is after c recessive samples
    pub record IsSilentAt (k : ℕ) : Type 0 where
      pub count : ℕ
      pub p : ℕ
      pub low : 1 ≤ p
      pub high : p ≤ B
      pub early : p ≤ S → k ≡ base + count * B + p
      pub late : S < p → k + B ≡ base + count * B + p
      pub stretch : Stretch
      pub waiting : IsWaiting w.stretch count stretch
      pub going : Going (w.passed (min count 10)) k p 0 true stretch Recessive
      pub sample : (clock_at clocks setup book levels k).sample ≡ Recessive
      pub level : (clock_at clocks setup book levels k).level ≡ Recessive

    -- it has run a quantum, if it has sampled
    pub begun_by : (k : ℕ) → (a : IsSilentAt k) → 0 < a.count → 0 < k
    begun_by k a some =
        let bit : 1 * B ≤ a.count * B = mul-le-mul_right B some in
        let low = a.low in
        elim (cases_lt S a.p) [
          | inl after ↦ (let e = a.late after in omega arith)
          | inr before ↦ (let e = a.early before in omega arith)
        ]

    -- more samples than come before it
    pub counted : (k n : ℕ) → (a : IsSilentAt k) → base + n * B + S < k → n < a.count
    counted k n a past = elim (cases_lt n a.count) [
      | inl more ↦ more
      | inr few ↦
          (let bits : a.count * B ≤ n * B = mul-le-mul_right B few in
          let high = a.high in
          elim (cases_lt S a.p) [
            | inl after ↦ (let e = a.late after in absurd (omega arith))
            | inr before ↦ (let e = a.early before in absurd (omega arith))
          ])
    ]

    pub counts_to : (k : ℕ) → (a : IsSilentAt k) → CountsTo base S B k a.count
    counts_to k a = record {
      more = λ c few past. counted k c a past;
      less = λ c few fewer.
          (let bits : suc c * B ≤ a.count * B = mul-le-mul_right B fewer in
          let one : suc c * B ≡ c * B + B = omega arith in
          let low = book.lengths.ps2_low in
          let more = a.low in
          elim (cases_lt S a.p) [
            | inl after ↦ (let e = a.late after in omega arith)
            | inr before ↦ (let e = a.early before in omega arith)
          ]);
    }

    module _ (start most : ℕ) (silent : (k : ℕ) → start ≤ k → k < most → levels k ≡ Recessive)
        (unready : (c : ℕ) → 10 ≤ c → start ≤ base + c * B + S → base + c * B + S < most → head_at setup (left (w.passed 10)) (base + c * B + S) ≡ None) where
      -- one more recessive sample
      samples_one : (k : ℕ) → start ≤ k → k < most → (a : IsSilentAt k) → a.p ≡ S
          → (next : Stretch) × (more : List Passed) × IsWaiting w.stretch (suc a.count) next × (w.passed (min (suc a.count) 10) ≡ w.passed (min a.count 10) ++ more)
          × Completes clocks setup book levels more k a.stretch next
      samples_one k begun less a here =
          let now = silent k begun less in
          let place : k ≡ base + a.count * B + S = (let e = a.early (omega arith) in omega arith) in
          elim (cases_lt a.count 10) [
            | inl few ↦
                (let is = a.waiting.counting (omega arith) in
                let step = w.on a.count (given k) few now in
                let old : min a.count 10 ≡ a.count = omega arith in
                let new : min (suc a.count) 10 ≡ suc a.count = omega arith in (
                  w.stretch (suc a.count),
                  step.0,
                  record { counting = λ h. refl; idle = λ h. absurd (omega arith) },
                  ap w.passed new ∙ step.1 ∙ ap (λ n. w.passed n ++ step.0) (sym old),
                  subst (λ v. Completes clocks setup book levels step.0 k v (w.stretch (suc a.count))) (sym is)
                      (record {
                        calm = step.2.calm;
                        ended = ap (λ n. passed_frames n (judged (w.stretch a.count) (given k)).ended) place ∙ step.2.ended;
                        stretch =
                            ap (λ v. or_next (judged (w.stretch a.count) (given k)).next (stretch_by (w.stretch a.count).sort ((w.stretch a.count).own ++ v ∷ []))) now
                            ∙ step.2.stretch;
                      }),
                ))
            | inr many ↦
                (let ten : min a.count 10 ≡ 10 = omega arith in
                let ten_more : min (suc a.count) 10 ≡ 10 = omega arith in
                let stay : w.passed (min (suc a.count) 10) ≡ w.passed (min a.count 10) ++ [] =
                ap w.passed (ten_more ∙ sym ten) ∙ sym (append-nil (w.passed (min a.count 10))) in
                let head : (given k).head ≡ None =
                head_is k a.stretch Recessive a.going.does now ∙ ap (λ n. head_at setup (left (w.passed n)) k) ten
                ∙ ap (head_at setup (left (w.passed 10))) place ∙ unready a.count many (omega arith) (omega arith) in
                elim (cases_eq a.count 10) [
                  | inl at_ten ↦
                      (let is : a.stretch ≡ w.stretch 10 = a.waiting.counting (omega arith) ∙ ap w.stretch at_ten in (
                        stretch_by Idle [],
                        [],
                        record { counting = λ h. absurd (omega arith); idle = λ h. ([], refl) },
                        stay,
                        takes_new k a.stretch (stretch_by Idle [])
                            (ap (λ v. judged v (given k)) is ∙ w.over (given k) now (mode_is clocks setup book levels k a.stretch Recessive a.going.does)
                            ∙ ap (λ h. begins Nothing (free h) []) head),
                      ))
                  | inr more ↦
                      (let is = a.waiting.idle (omega arith) in (
                        stretch_by Idle (is.0 ++ levels k ∷ []),
                        [],
                        record { counting = λ h. absurd (omega arith); idle = λ h. (is.0 ++ levels k ∷ [], refl) },
                        stay,
                        subst (λ v. Taking k a.stretch v) (ap (λ v. stretch_by v.sort (v.own ++ levels k ∷ [])) is.1)
                            (takes_on k a.stretch (ap (λ v. judged v (given k)) is.1 ∙ idles is.0 (given k) now ∙ ap idle_on head)),
                      ))
                ])
          ]

      one_more : (k : ℕ) → start ≤ k → k < most → IsSilentAt k → IsSilentAt (suc k)
      one_more k begun less a =
          let now = silent k begun less in
          let low = a.low in
          let high = a.high in
          let few = book.lengths.ps2_low in
          let unmoved = unmoved_recessive clocks setup book levels k a.p true now in
          let quiet = now_recessive (clock_at clocks setup book levels k) (sees_at clocks setup book levels k) now in
          elim (cases_eq a.p B) [
            | inl over ↦
                (let late = a.late (omega arith) in
                record {
                  count = a.count;
                  p = 1;
                  low = omega arith;
                  high = omega arith;
                  early = λ h. omega arith;
                  late = λ h. absurd (omega arith);
                  stretch = a.stretch;
                  waiting = a.waiting;
                  going = subst (λ v. Going (w.passed (min a.count 10)) (suc k) 1 0 true a.stretch v) (waiting_drives base S B w a.count a.stretch a.waiting)
                      (step_start clocks setup book levels k a.p 0 true a.stretch Recessive a.going quiet over true);
                  sample = sample_start clocks setup book levels k a.p 0 true a.stretch Recessive a.going quiet over ∙ a.sample;
                  level = level_before clocks setup book levels k ∙ now;
                })
            | inr inside ↦ elim (cases_eq a.p S) [
              | inl here ↦
                  (let t = samples_one k begun less a here in
                  let early = a.early (omega arith) in
                  let beat = beat_sample clocks setup book levels k a.p 0 true a.stretch Recessive a.going unmoved here in
                  record {
                    count = suc a.count;
                    p = suc a.p;
                    low = omega arith;
                    high = omega arith;
                    early = λ h. absurd (omega arith);
                    late = λ h. omega arith;
                    stretch = t.0;
                    waiting = t.2;
                    going = subst (λ v. Going v (suc k) (suc a.p) 0 true t.0 Recessive) (sym t.3)
                        (step_complete clocks setup book levels k a.p 0 true a.stretch Recessive a.going t.1 t.0 unmoved here t.4);
                    sample = sample_before clocks setup book levels k (levels k) beat ∙ now;
                    level = level_before clocks setup book levels k ∙ now;
                  })
              | inr apart ↦ record {
                count = a.count;
                p = suc a.p;
                low = omega arith;
                high = omega arith;
                early = λ h. (let e = a.early (omega arith) in omega arith);
                late = λ h. (let e = a.late (omega (arith, apart)) in omega arith);
                stretch = a.stretch;
                waiting = a.waiting;
                going = step_on clocks setup book levels k a.p 0 true a.stretch Recessive a.going unmoved (omega (arith, inside)) apart;
                sample = sample_on clocks setup book levels k a.p 0 true a.stretch Recessive a.going unmoved (omega (arith, inside)) apart ∙ a.sample;
                level = level_before clocks setup book levels k ∙ now;
              }
            ]
          ]

      module _ (first : IsSilentAt start) where
        silent_after : (n : ℕ) → start + n ≤ most → IsSilentAt (start + n)
        silent_after zero h = let e : start ≡ start + 0 = omega arith in subst IsSilentAt e first
        silent_after (suc n) h =
            let e : suc (start + n) ≡ start + suc n = omega arith in
            subst IsSilentAt e (one_more (start + n) (omega arith) (omega arith) (silent_after n (omega arith)))

        pub silent_at : (k : ℕ) → start ≤ k → k ≤ most → IsSilentAt k
        silent_at k low h = let e : start + (k - start) ≡ k = omega arith in subst IsSilentAt e (silent_after (k - start) (omega arith))

    module _ (head : Content) (m start : ℕ) (is : Decides setup (w.passed 10) base S B head m) (begun : start ≤ base + m * B + S)
        (silent : (k : ℕ) → start ≤ k → k ≤ base + suc m * B → levels k ≡ Recessive) (first : IsSilentAt start) where
      abbrev Begun : Stretch
      Begun = stretch_by (Framing (Some head)) []

      next_bit : base + suc m * B ≡ base + m * B + B
      next_bit = omega arith

      unready_at : (n : ℕ) → 10 ≤ n → start ≤ base + n * B + S → base + n * B + S < base + m * B + S → head_at setup (left (w.passed 10)) (base + n * B + S) ≡ None
      unready_at n many late less = is.unready n many (lt_of_mul-lt-mul_right B (let f : n * B < m * B = omega arith in f))

      before_it : (k : ℕ) → start ≤ k → k ≤ base + m * B + S → IsSilentAt k
      before_it k low h =
          silent_at start (base + m * B + S) (λ i late less. silent i late (let e = next_bit in let few = book.lengths.ps2_low in omega arith)) unready_at first k low h

      -- the sample at which it decides to send
      decided : Going (w.passed 10) (suc (base + m * B + S)) (suc S) 0 true Begun Recessive
      decided =
          let a = before_it (base + m * B + S) begun (omega arith) in
          let low = book.lengths.ps2_low in
          let p = same_count B S base m a.count a.p (omega arith) (omega arith) a.low a.high a.early a.late in
          let now : levels (base + m * B + S) ≡ Recessive = silent (base + m * B + S) begun (let e = next_bit in omega arith) in
          let many = is.idle in
          let ten : min a.count 10 ≡ 10 = (let e = p.0 in omega arith) in
          let g : Going (w.passed 10) (base + m * B + S) a.p 0 true a.stretch Recessive =
          subst (λ n. Going (w.passed n) (base + m * B + S) a.p 0 true a.stretch Recessive) ten a.going in
          let head_here = head_is (base + m * B + S) a.stretch Recessive g.does now ∙ is.ready in
          at_place clocks setup book levels (suc (base + m * B + S)) (suc (base + m * B + S)) (suc a.p) (suc S) 0 true Begun Recessive refl (ap suc p.1)
          (step_sample clocks setup book levels (base + m * B + S) a.p 0 true a.stretch Recessive g Begun
          (unmoved_recessive clocks setup book levels (base + m * B + S) a.p true now) p.1
          (takes_new (base + m * B + S) a.stretch Begun (makes a p.0 now head_here)))
        where
          makes : (a : IsSilentAt (base + m * B + S)) → a.count ≡ m → levels (base + m * B + S) ≡ Recessive
              → (given (base + m * B + S)).head ≡ Some head
              → judged a.stretch (given (base + m * B + S)) ≡ begins Nothing (Framing (Some head)) []
          makes a count now head_here = elim (cases_eq m 10) [
            | inl ten ↦
                ap (λ v. judged v (given (base + m * B + S))) (a.waiting.counting (omega arith) ∙ ap w.stretch (count ∙ ten))
                ∙ w.over (given (base + m * B + S)) now (mode_is clocks setup book levels (base + m * B + S) a.stretch Recessive a.going.does)
                ∙ ap (λ h. begins Nothing (free h) []) head_here
            | inr more ↦
                (let many = is.idle in
                let i = a.waiting.idle (omega arith) in
                ap (λ v. judged v (given (base + m * B + S))) i.1
                ∙ idles i.0 (given (base + m * B + S)) now ∙ ap idle_on head_here)
          ]

      waits : (p : ℕ) → S < p → p ≤ B → Going (w.passed 10) (base + m * B + p) p 0 true Begun Recessive
      waits p low high =
          at_place clocks setup book levels (suc (base + m * B + S) + (p - suc S)) (base + m * B + p) (suc S + (p - suc S)) p 0 true Begun Recessive (omega arith) (omega arith)
          (glide clocks setup book levels (p - suc S) (suc (base + m * B + S)) (suc S) 0 true Begun Recessive (omega arith) (inl (omega arith))
          (λ i less e. unmoved_recessive clocks setup book levels (suc (base + m * B + S) + i) (suc S + i) true
          (silent (suc (base + m * B + S) + i) (omega arith) (let f = next_bit in omega arith)))
          decided)

      -- it is about to begin its frame
      pub about : Going (w.passed 10) (base + suc m * B) B 0 true Begun Recessive
      about =
          let low = book.lengths.ps2_low in
          at_place clocks setup book levels (base + m * B + B) (base + suc m * B) B B 0 true Begun Recessive (omega arith) refl (waits B (omega arith) (omega arith))

      -- before its frame it drives recessive, and has no error
      pub idle_still : (k : ℕ) → start ≤ k → k ≤ base + suc m * B
          → (c : ℕ) × (s : Stretch) × Does clocks setup book levels (w.passed (min c 10)) k s Recessive × CountsTo base S B k c
      idle_still k late h = elim (cases_lt (base + m * B + S) k) [
        | inl past ↦
            (let e = next_bit in
            let f : base + m * B + (k - (base + m * B)) ≡ k = omega arith in (
              10,
              Begun,
              subst (λ i. Does clocks setup book levels (w.passed 10) i Begun Recessive) f (waits (k - (base + m * B)) (omega arith) (omega arith)).does,
              ten_counted base S B k (let bits : 10 * B ≤ m * B = mul-le-mul_right B is.idle in omega arith),
            ))
        | inr up_to ↦ (let a = before_it k late up_to in (a.count, a.stretch, a.going.does, counts_to k a))
      ]

  -- a node after its power-up
  pub at_first : IsSilentAt 0 (integrating S B) 0
  unfolding integrating
  at_first =
      let none : (node clocks setup book levels 0).seen ≡ [] = ap (λ h. h.seen) (node_first clocks setup book levels) in
      let s : IsSilent setup.segments (clock_at clocks setup book levels 0) =
      subst (λ v. IsSilent setup.segments (clock_after setup.segments v)) (sym none) (first_silent setup.segments book.book) in
      let low = book.lengths.low in
      let few = book.lengths.ps2_low in
      record {
        count = 0;
        p = B;
        low = omega arith;
        high = omega arith;
        early = λ h. absurd (omega arith);
        late = λ h. omega arith;
        stretch = stretch_by Integration [];
        waiting = record { counting = λ h. refl; idle = λ h. absurd (omega arith) };
        going = record {
          place = record {
            quanta = (let q = s.quanta in omega arith);
            longer_is = s.longer;
            shorter = s.shorter;
            nominal = λ h. refl;
            low = omega arith;
            high = omega arith;
            unsynced = λ f. s.synced;
          };
          does = does_first clocks setup book levels;
        };
        sample = s.sample;
        level = s.level;
      }

-- what rests on the levels before a quantum alone
module _ (clocks : ClockGoes) (setup : NodeSetup) (book : ByTheBook setup.segments) (u v : ℕ → Level) (base : ℕ) (w : Waits base (sample_at setup.segments) (bit_quanta setup.segments)) (k : ℕ)
    (e : levels_before u k ≡ levels_before v k) where
  pub silent_same : IsSilentAt clocks setup book u base w k → IsSilentAt clocks setup book v base w k
  silent_same a = record {
    count = a.count;
    p = a.p;
    low = a.low;
    high = a.high;
    early = a.early;
    late = a.late;
    stretch = a.stretch;
    waiting = a.waiting;
    going = going_same clocks setup book u v k e a.p 0 true a.stretch Recessive a.going;
    sample = ap (λ ls. (clock_after setup.segments (staying_history setup ls).seen).sample) (sym e) ∙ a.sample;
    level = ap (λ ls. (clock_after setup.segments (staying_history setup ls).seen).level) (sym e) ∙ a.level;
  }
