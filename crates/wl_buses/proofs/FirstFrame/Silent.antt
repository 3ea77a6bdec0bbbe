-- A node on a silent line, from its power-up on: what it has sampled, and that nothing counts.
use Rattle.std.proofs.Common.{◌≡◌, ◌≢◌, ◌∙◌, ◌⊎◌, inl, inr, refl, sym, ap, subst, ℕ, zero, suc, ◌+◌, ◌-◌, ◌*◌, ◌<◌, ◌≤◌, cond, Bool, true, false, List, [], ◌∷◌, ◌++◌, length, replicate, Option, None, arith, add-one}
use Rattle.std.specs.Prelude.{◌==◌, count_by}
use Rattle.std.proofs.lemmas.Bool.{cases_eq, cases_lt, lt-leb, ne_eqb}
use Rattle.std.proofs.Math.Nat.{lt_of_mul-lt-mul_right}
use Rattle.wl_level.specs.declared.Level.{Level}
use Rattle.wl_level.specs.declared.Level.TheVariants.{Recessive}
use Rattle.wl_level.specs.Places.{run_at_end}
use Rattle.wl_level.proofs.Callers.{length_more}
use Rattle.wl_confine.specs.declared.Happened.{Happened}
use Rattle.wl_confine.specs.declared.Happened.TheVariants.{Nothing}
use Rattle.wl_confine.specs.declared.Mode.TheVariants.{Active}
use Rattle.wl_confine.specs.Counts.{counts_of, is_error, no_counts}
use Rattle.wl_segments.specs.Lengths.{Lengths, bit_quanta, sample_at}
use Rattle.wl_sync.specs.declared.Beat.{Beat}
use Rattle.wl_sync.specs.declared.Beat.TheVariants as beats
use Rattle.wl_sync.specs.declared.Seen.{Seen}
use Rattle.wl_sync.specs.Bits.{beat_of, sync_of}
use Rattle.wl_sync.specs.Running.{Running, clock_after}
use Rattle.wl_sync.specs.Skips.{moved_place, quanta_before_sample, steady_clock}
use Rattle.wl_sync.specs.Steps.{end_of}
use Rattle.wl_frame.specs.Grammar.{Content}
use Rattle.wl_machine.specs.Stretch.{Stretch, begins, continues, free}
use Rattle.wl_machine.specs.Stretch.Sort.{Idle, Integration}
use Rattle.wl_machine.specs.Stretch.Input.{Sample}
use Rattle.wl_machine.specs.Judged.{drive_by, drive_of, judged, judged_by, or_next, stretch_after, stretch_of}
use Rattle.wl_machine.specs.States.{sample_of, stretch_by}
use Rattle.wl_machine.proofs.Callers.{stretch_next}
use Rattle.wl_node.specs.declared.setup.NodeSetup.{NodeSetup}
use Rattle.wl_node.specs.History.{History, error_count, handed, sampled_next, unsent_of}
use Rattle.wl_phase.specs.InStep.{seen_before}
use Rattle.wl_phase.specs.Ways.{ByTheBook, WayLaws, sample_way, way_after}
use Rattle.wl_phase.proofs.Callers.{IsSilent, first_silent}
use Rattle.wl_buses.specs.OneFrame.Clocked.{EdgeLaws, NoEdgeLaws, SamplesBy}
use Rattle.wl_buses.specs.OneFrame.Machines.{no_frame_sample}
use Rattle.wl_buses.specs.OneFrame.Nodes.{IsRun, clock_sees}
use Rattle.wl_buses.specs.FirstFrame.Faults.{fault_count, is_fault}
use Rattle.wl_buses.proofs.OneFrame.TakenOn as taken
use Rattle.wl_buses.proofs.OneFrame.Nodes.{drive_by as driven_by, happened_by, inputs_by, seen_are, frames_by}
use Rattle.wl_buses.proofs.OneFrame.Waited.{one_more}
use Rattle.wl_buses.proofs.OneFrame.TakenOn.{TakesOn, goes_idle}
use Rattle.wl_buses.specs.BothProofs.Queues.{head_at, unsent_after}
use Rattle.wl_buses.proofs.BothProofs.Heads.{unsent_first}

-- a machine between frames
pub record IsQuiet (s : Stretch) : Type 0 where
  pub sort : (s.sort ≡ Integration) ⊎ (s.sort ≡ Idle)

ends_integration : (b : Bool) (head : Option Content) → TakesOn (cond b (begins Nothing (free head) []) (continues Nothing))
ends_integration true head = record { happened = refl; ended = refl }
ends_integration false head = record { happened = refl; ended = refl }

pub takes_on : (s : Stretch) (head : Option Content) → IsQuiet s → TakesOn (judged s (sample_of Recessive head Active))
takes_on s head q = elim q.sort [
  | inl integrates ↦ subst (λ k. TakesOn (judged_by k s.own (sample_of Recessive head Active))) (sym integrates) (ends_integration (run_at_end Recessive (s.own ++ Recessive ∷ []) == 11) head)
  | inr idles ↦ subst (λ k. TakesOn (judged_by k s.own (sample_of Recessive head Active))) (sym idles) (goes_idle head)
]

drives_none : (s : Stretch) → IsQuiet s → drive_of s ≡ Recessive
drives_none s q = elim q.sort [ inl integrates ↦ ap (λ k. drive_by k s.own) integrates | inr idles ↦ ap (λ k. drive_by k s.own) idles ]

integrates_on : (b : Bool) (own : List Level) → IsQuiet (or_next (cond b (begins Nothing (free None) []) (continues Nothing)).next (stretch_by Integration own))
integrates_on true own = record { sort = inr refl }
integrates_on false own = record { sort = inl refl }

stays_quiet : (s : Stretch) → IsQuiet s → IsQuiet (stretch_after s no_frame_sample)
stays_quiet s q = elim q.sort [
  | inl integrates ↦
      subst (λ k. IsQuiet (stretch_after (stretch_by k s.own) no_frame_sample)) (sym integrates)
      (integrates_on (run_at_end Recessive (s.own ++ Recessive ∷ []) == 11) (s.own ++ Recessive ∷ []))
  | inr idles ↦ subst (λ k. IsQuiet (stretch_after (stretch_by k s.own) no_frame_sample)) (sym idles) (record { sort = inr refl })
]

pub quiet_after : (n : ℕ) → IsQuiet (stretch_of (replicate n no_frame_sample))
quiet_after zero = record { sort = inl refl }
quiet_after (suc n) =
    subst IsQuiet (sym (ap stretch_of (one_more n) ∙ stretch_next (replicate n no_frame_sample) no_frame_sample)) (stays_quiet (stretch_of (replicate n no_frame_sample)) (quiet_after n))

pub none_driven_after : (n : ℕ) → drive_of (stretch_of (replicate n no_frame_sample)) ≡ Recessive
none_driven_after n = drives_none (stretch_of (replicate n no_frame_sample)) (quiet_after n)

-- a machine that integrates asks for no frame
integrates : (c : ℕ) (head : Option Content) → c < 10 → stretch_after (stretch_of (replicate c no_frame_sample)) (Sample (sample_of Recessive head Active))
    ≡ stretch_after (stretch_of (replicate c no_frame_sample)) no_frame_sample
integrates zero head few = refl
integrates (suc zero) head few = refl
integrates (suc (suc zero)) head few = refl
integrates (suc (suc (suc zero))) head few = refl
integrates (suc (suc (suc (suc zero)))) head few = refl
integrates (suc (suc (suc (suc (suc zero))))) head few = refl
integrates (suc (suc (suc (suc (suc (suc zero)))))) head few = refl
integrates (suc (suc (suc (suc (suc (suc (suc zero))))))) head few = refl
integrates (suc (suc (suc (suc (suc (suc (suc (suc zero)))))))) head few = refl
integrates (suc (suc (suc (suc (suc (suc (suc (suc (suc zero))))))))) head few = refl
integrates (suc (suc (suc (suc (suc (suc (suc (suc (suc (suc c)))))))))) head few = absurd (omega arith)

pub next_of : (n : ℕ) → stretch_after (stretch_of (replicate n no_frame_sample)) no_frame_sample ≡ stretch_of (replicate (suc n) no_frame_sample)
next_of n = sym (ap stretch_of (one_more n) ∙ stretch_next (replicate n no_frame_sample) no_frame_sample)

any_head : (c : ℕ) (head : Option Content) → (c < 10) ⊎ (head ≡ None)
    → stretch_after (stretch_of (replicate c no_frame_sample)) (Sample (sample_of Recessive head Active)) ≡ stretch_of (replicate (suc c) no_frame_sample)
any_head c head (inl few) = integrates c head few ∙ next_of c
any_head c head (inr none) = ap (λ h. stretch_after (stretch_of (replicate c no_frame_sample)) (Sample (sample_of Recessive h Active))) none ∙ next_of c

abbrev pub IsUntouched : History → Type 0
IsUntouched h = (h.frames ≡ []) × (error_count h ≡ 0) × (fault_count h ≡ 0)

abbrev pub NoneCounts : History → Type 0
NoneCounts h = counts_of h.happened ≡ no_counts

pub seen_length : (seen : ℕ → Seen) (k : ℕ) → length (seen_before seen k) ≡ k
seen_length seen zero = refl
seen_length seen (suc k) = length_more (seen_before seen k) (seen k) ∙ add-one (length (seen_before seen k)) ∙ ap suc (seen_length seen k)

module _ (ways : WayLaws) (calm : NoEdgeLaws) (edges : EdgeLaws) (setup : NodeSetup) (book : ByTheBook setup.segments) (levels : ℕ → Level) (node : ℕ → History)
    (run : IsRun setup levels node) where
  abbrev l : Lengths
  l = setup.segments

  abbrev S : ℕ
  S = sample_at l

  abbrev B : ℕ
  B = bit_quanta l

  abbrev sees : ℕ → Seen
  sees = clock_sees levels node

  abbrev way : ℕ → ℕ
  way k = sample_way l (seen_before sees k)

  way_first : way 0 ≡ S
  way_first = by (clock_after l []) (first_silent l book.book)
    where
      by : (r : Running) → IsSilent l r → quanta_before_sample r ≡ S
      by r i =
          let a = i.lengths in
          let q = i.quanta in
          let x = i.longer in
          let y = i.shorter in
          let low = book.lengths.ps2_low in
          let p : sample_at r.lengths ≡ S = ap sample_at a in
          let z : r.lengths.ps2 ≡ l.ps2 = ap (λ m. m.ps2) a in
          let past : quanta_before_sample r ≡ end_of r - r.quanta + sample_at r.lengths =
          ap (λ c. cond c (moved_place r - r.quanta) (end_of r - r.quanta + sample_at r.lengths)) (lt-leb r.quanta (moved_place r) (omega arith)) in
          omega arith

  -- it has sampled so many bits before a quantum, none of them with a frame
  pub record IsStill (q c : ℕ) : Type 0 where
    pub way : way q + q ≡ c * B + S
    pub near : c * B + S < q + B
    pub stretch : stretch_of (node q).inputs ≡ stretch_of (replicate c no_frame_sample)
    pub counts : counts_of (node q).happened ≡ no_counts
    pub frames : (node q).frames ≡ []
    pub found : (test : Happened → Bool) → test Nothing ≡ false → count_by test (node q).happened ≡ 0
    pub drive : (node q).drive ≡ Recessive

  still_first : IsStill 0 0
  still_first =
      let first = run.first in
      let low = book.lengths.ps2_low in
      let at = way_first in
      record {
        way = omega arith;
        near = omega arith;
        stretch = ap (λ h. stretch_of h.inputs) first;
        counts = ap (λ h. counts_of h.happened) first;
        frames = ap (λ h. h.frames) first;
        found = λ test fine. ap (λ h. count_by test h.happened) first;
        drive = ap (λ h. h.drive) first;
      }

  -- a quantum of a silent line
  module _ (q c : ℕ) (silent : levels q ≡ Recessive) (a : IsStill q c) where
    none : sync_of l (seen_before sees q) (sees q) ≡ None
    none = calm.recessive l (seen_before sees q) (sees q) book silent

    way_next : way (suc q) ≡ way_after l (way q) None
    way_next = ways.way l (seen_before sees q) (sees q) book ∙ ap (way_after l (way q)) none

    way_sampled : way q ≡ 0 → way (suc q) ≡ B - 1
    way_sampled e = way_next ∙ ap (λ n. cond (n == 0) (B - 1) (n - 1)) e

    way_unsampled : way q ≢ 0 → way (suc q) ≡ way q - 1
    way_unsampled e = way_next ∙ ap (λ x. cond x (B - 1) (way q - 1)) (ne_eqb (way q) 0 e)

    -- no sample
    passes : way q ≢ 0 → (x : Beat) → beat_of l (seen_before sees q) (sees q) ≡ x → IsStill (suc q) c
    passes apart beats.Plain e =
        (let near = a.near in
        let here = a.way in
        let next = way_unsampled apart in
        record {
          way = omega (arith, apart);
          near = omega arith;
          stretch = ap stretch_of (inputs_by setup levels node run q beats.Plain e) ∙ a.stretch;
          counts = ap counts_of (happened_by setup levels node run q beats.Plain e) ∙ a.counts;
          frames = frames_by setup levels node run q beats.Plain e ∙ a.frames;
          found = λ test fine. ap (count_by test) (happened_by setup levels node run q beats.Plain e) ∙ a.found test fine;
          drive = driven_by setup levels node run q beats.Plain e ∙ a.drive;
        })
    passes apart beats.Start e =
        (let near = a.near in
        let here = a.way in
        let next = way_unsampled apart in
        record {
          way = omega (arith, apart);
          near = omega arith;
          stretch = ap stretch_of (inputs_by setup levels node run q beats.Start e) ∙ a.stretch;
          counts = ap counts_of (happened_by setup levels node run q beats.Start e) ∙ a.counts;
          frames = frames_by setup levels node run q beats.Start e ∙ a.frames;
          found = λ test fine. ap (count_by test) (happened_by setup levels node run q beats.Start e) ∙ a.found test fine;
          drive = driven_by setup levels node run q beats.Start e ∙ ap drive_of a.stretch ∙ none_driven_after c;
        })
    passes apart (beats.Sample level) e = absurd (apart (ways.only l (seen_before sees q) (sees q) level book e).1)

    -- a sample, with which it may be handed a frame
    module _ (now : way q ≡ 0) (head : Option Content) (ready : head_at setup setup.queue q ≡ head) where
      pub beat : beat_of l (seen_before sees q) (sees q) ≡ beats.Sample (levels q)
      beat = ways.sample l (seen_before sees q) (sees q) book none now

      pub head_is : (sampled_next setup (node q) (levels q)).head ≡ head
      head_is =
          ap (λ v. handed v setup.segments.sync (head_at setup (unsent_of setup (node q)) (length (node q).seen))) silent
          ∙ ap (λ fs. head_at setup (unsent_after setup fs) (length (node q).seen)) a.frames
          ∙ ap (λ u. head_at setup u (length (node q).seen)) (unsent_first setup) ∙ ap (head_at setup setup.queue) (ap length (seen_are setup levels node run q) ∙ seen_length sees q) ∙ ready

      abbrev before : Stretch
      before = stretch_of (replicate c no_frame_sample)

      abbrev takes : TakesOn (judged before (sample_of Recessive head Active))
      takes = takes_on before head (quiet_after c)

      pub beat_recessive : beat_of l (seen_before sees q) (sees q) ≡ beats.Sample Recessive
      beat_recessive = beat ∙ ap beats.Sample silent

      abbrev pub stretch_then : stretch_of (node (suc q)).inputs ≡ stretch_after before (Sample (sample_of Recessive head Active))
      stretch_then = taken.stretch_there setup levels node run q beat_recessive silent before a.stretch a.counts head head_is takes

      abbrev pub counts_then : counts_of (node (suc q)).happened ≡ no_counts
      counts_then = taken.counts_there setup levels node run q beat_recessive silent before a.stretch a.counts head head_is takes

      frames_then : (node (suc q)).frames ≡ []
      frames_then = taken.frames_there setup levels node run q beat_recessive silent before a.stretch a.counts head head_is takes ∙ a.frames

      found_then : (test : Happened → Bool) → test Nothing ≡ false → count_by test (node (suc q)).happened ≡ 0
      found_then test fine = taken.found_there setup levels node run q beat_recessive silent before a.stretch a.counts head head_is takes test fine ∙ a.found test fine

      pub drive_then : (node (suc q)).drive ≡ Recessive
      drive_then = taken.drive_there setup levels node run q beat_recessive silent before a.stretch a.counts head head_is takes ∙ a.drive

    samples : way q ≡ 0 → (c < 10) ⊎ (head_at setup setup.queue q ≡ None) → IsStill (suc q) (suc c)
    samples now unready =
        let near = a.near in
        let here = a.way in
        let next = way_sampled now in
        let low = book.lengths.low in
        let more : suc c * B ≡ c * B + B = omega arith in
        record {
          way = omega arith;
          near = omega arith;
          stretch = stretch_then now (head_at setup setup.queue q) refl ∙ any_head c (head_at setup setup.queue q) unready;
          counts = counts_then now (head_at setup setup.queue q) refl;
          frames = frames_then now (head_at setup setup.queue q) refl;
          found = found_then now (head_at setup setup.queue q) refl;
          drive = drive_then now (head_at setup setup.queue q) refl;
        }

  -- all its quanta
  module _ (m : ℕ) (silent : (q : ℕ) → q ≤ m * B + S → levels q ≡ Recessive) (unready : (n : ℕ) → 10 ≤ n → n < m → head_at setup setup.queue (n * B + S) ≡ None) where
    pub record Still (q : ℕ) : Type 0 where
      pub count : ℕ
      pub is : IsStill q count

    unready_at : (c q : ℕ) → q ≡ c * B + S → c < m → (c < 10) ⊎ (head_at setup setup.queue q ≡ None)
    unready_at c q place few = elim (cases_lt c 10) [
      | inl less ↦ inl less
      | inr more ↦ inr (ap (head_at setup setup.queue) place ∙ unready c more few)
    ]

    still_on : (q : ℕ) → q < m * B + S → Still q → Still (suc q)
    still_on q less x = elim (cases_eq (way q) 0) [
      | inl now ↦
          (let at = x.is.way in
          let place : q ≡ x.count * B + S = omega arith in
          let few : x.count < m = lt_of_mul-lt-mul_right B (let h : x.count * B < m * B = omega arith in h) in
          record { count = suc x.count; is = samples q x.count (silent q (omega arith)) x.is now (unready_at x.count q place few) })
      | inr apart ↦ record { count = x.count; is = passes q x.count (silent q (omega arith)) x.is apart (beat_of l (seen_before sees q) (sees q)) refl }
    ]

    pub still_at : (q : ℕ) → q ≤ m * B + S → Still q
    still_at zero less = record { count = 0; is = still_first }
    still_at (suc q) less = still_on q less (still_at q (omega arith))

    pub still_drive : (q : ℕ) → q ≤ m * B + S → (node q).drive ≡ Recessive
    still_drive q less = (still_at q less).is.drive

    -- by the sample of the last bit
    pub still_last : IsStill (m * B + S) m
    still_last =
        let x = still_at (m * B + S) (omega arith) in
        let at = x.is.way in
        let near = x.is.near in
        let more : x.count * B < suc m * B = omega arith in
        let high = lt_of_mul-lt-mul_right B more in
        let low = lt_of_mul-lt-mul_right B (let h : m * B < suc x.count * B = omega arith in h) in
        let same : x.count ≡ m = omega arith in
        subst (IsStill (m * B + S)) same x.is

    pub way_last : way (m * B + S) ≡ 0
    way_last = let at = still_last.way in omega arith

    silent_last : levels (m * B + S) ≡ Recessive
    silent_last = silent (m * B + S) (omega arith)

    pub sampled_last : (head : Option Content) → head_at setup setup.queue (m * B + S) ≡ head → SamplesBy l sees (m * B + S) Recessive
    sampled_last head ready = beat_recessive (m * B + S) m silent_last still_last way_last head ready

    pub stretch_last : (head : Option Content) → head_at setup setup.queue (m * B + S) ≡ head
        → stretch_of (node (suc (m * B + S))).inputs ≡ stretch_after (stretch_of (replicate m no_frame_sample)) (Sample (sample_of Recessive head Active))
    stretch_last head ready = stretch_then (m * B + S) m silent_last still_last way_last head ready

    pub counts_last : (head : Option Content) → head_at setup setup.queue (m * B + S) ≡ head → counts_of (node (suc (m * B + S))).happened ≡ no_counts
    counts_last head ready = counts_then (m * B + S) m silent_last still_last way_last head ready

    pub drive_last : (head : Option Content) → head_at setup setup.queue (m * B + S) ≡ head → (node (suc (m * B + S))).drive ≡ Recessive
    drive_last head ready = drive_then (m * B + S) m silent_last still_last way_last head ready

    pub drive_up_to : (head : Option Content) → head_at setup setup.queue (m * B + S) ≡ head → (q : ℕ) → q ≤ suc (m * B + S) → (node q).drive ≡ Recessive
    drive_up_to head ready q less = elim (cases_lt (m * B + S) q) [
      | inl last ↦ (let e : suc (m * B + S) ≡ q = omega arith in subst (λ k. (node k).drive ≡ Recessive) e (drive_last head ready))
      | inr before ↦ still_drive q before
    ]

    -- no frame has passed it, and nothing has happened that isn't fine
    pub nothing_up_to : (head : Option Content) → head_at setup setup.queue (m * B + S) ≡ head → (q : ℕ) → q ≤ suc (m * B + S) → IsUntouched (node q)
    nothing_up_to head ready q less = elim (cases_lt (m * B + S) q) [
      | inl last ↦
          (let e : suc (m * B + S) ≡ q = omega arith in
          subst (λ k. IsUntouched (node k)) e (
            frames_then (m * B + S) m silent_last still_last way_last head ready,
            found_then (m * B + S) m silent_last still_last way_last head ready is_error refl,
            found_then (m * B + S) m silent_last still_last way_last head ready is_fault refl,
          ))
      | inr before ↦ (let x = still_at q before in (x.is.frames, x.is.found is_error refl, x.is.found is_fault refl))
    ]

  -- its bit clock after the second bit or a later one
  module _ (n : ℕ) (silent : (q : ℕ) → q ≤ suc n * B + S → levels q ≡ Recessive) (unready : (k : ℕ) → 10 ≤ k → k < suc n → head_at setup setup.queue (k * B + S) ≡ None) where
    next_bit : n * B + B + S ≡ suc n * B + S
    next_bit = omega arith

    pub steady_last : clock_after l (seen_before sees (suc (suc n * B + S))) ≡ steady_clock l
    steady_last =
        let before = sampled_last n (λ q less. silent q (let e = next_bit in omega arith)) (λ k more less. unready k more (omega arith)) (head_at setup setup.queue (n * B + S)) refl in
        subst (λ q. clock_after l (seen_before sees (suc q)) ≡ steady_clock l) next_bit
        (edges.steady l sees (n * B) Recessive book before
        (λ i after inside. calm.recessive l (seen_before sees i) (sees i) book (silent i (let e = next_bit in omega arith)))
        (silent (n * B + B + S) (let e = next_bit in omega arith)))
