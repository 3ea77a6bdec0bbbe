-- A node that rests on a silent line, bit by bit: what it has sampled, and that nothing counts.
use Rattle.std.proofs.Common.{◌≡◌, ◌∙◌, inl, inr, refl, sym, ap, subst, ℕ, zero, suc, ◌+◌, ◌<◌, ◌≤◌, Bool, false, List, length, Option, arith, ◌-◌}
use Rattle.std.specs.Prelude.{count_by}
use Rattle.std.proofs.lemmas.Bool.{cases_eq, cases_lt}
use Rattle.wl_level.specs.declared.Level.{Level}
use Rattle.wl_level.specs.declared.Level.TheVariants.{Recessive}
use Rattle.wl_confine.specs.declared.Happened.{Happened}
use Rattle.wl_confine.specs.declared.Happened.TheVariants.{Nothing}
use Rattle.wl_confine.specs.declared.Mode.TheVariants.{Active}
use Rattle.wl_confine.specs.Counts.{counts_of, no_counts}
use Rattle.wl_segments.specs.Lengths.{Lengths, bit_quanta, sample_at}
use Rattle.wl_sync.specs.declared.Beat.{Beat}
use Rattle.wl_sync.specs.declared.Beat.TheVariants as beats
use Rattle.wl_sync.specs.declared.Seen.{Seen}
use Rattle.wl_sync.specs.Bits.{beat_of}
use Rattle.wl_sync.specs.Running.{clock_after}
use Rattle.wl_sync.specs.Skips.{steady_clock}
use Rattle.wl_frame.specs.Grammar.{Content}
use Rattle.wl_machine.specs.Stretch.{Stretch}
use Rattle.wl_machine.specs.Stretch.Sort.{Idle}
use Rattle.wl_machine.specs.Stretch.Input.{Sample}
use Rattle.wl_machine.specs.Judged.{drive_by, drive_of, judged, judged_by, stretch_after, stretch_of}
use Rattle.wl_machine.specs.States.{sample_of}
use Rattle.wl_node.specs.declared.setup.NodeSetup.{NodeSetup}
use Rattle.wl_node.specs.declared.setup.Passed.{Passed}
use Rattle.wl_node.specs.History.{History, sampled_next, unsent_of}
use Rattle.wl_phase.specs.InStep.{seen_before}
use Rattle.wl_phase.specs.Ways.{ByTheBook}
use Rattle.wl_buses.specs.OneFrame.Clocked.{BitIs, EdgeLaws, NoEdgeLaws, SamplesBy}
use Rattle.wl_buses.specs.OneFrame.Nodes.{IsRun, clock_sees}
use Rattle.wl_buses.proofs.OneFrame.TakenOn as taken
use Rattle.wl_buses.proofs.FirstFrame.Silent.{seen_length}
use Rattle.wl_buses.proofs.OneFrame.Nodes.{drive_by as driven_by, happened_by, inputs_by, seen_are, frames_by}
use Rattle.wl_buses.proofs.OneFrame.TakenOn.{TakesOn, goes_idle}
use Rattle.wl_buses.specs.BothProofs.Queues.{head_at, unsent_after}

takes_on : (s : Stretch) (head : Option Content) → s.sort ≡ Idle → TakesOn (judged s (sample_of Recessive head Active))
takes_on s head idle = subst (λ k. TakesOn (judged_by k s.own (sample_of Recessive head Active))) (sym idle) (goes_idle head)

module _ (edges : EdgeLaws) (calm : NoEdgeLaws) (setup : NodeSetup) (l : Lengths) (segments : setup.segments ≡ l) (book : ByTheBook l) (levels : ℕ → Level) (node : ℕ → History) (run : IsRun setup levels node) where
  abbrev S : ℕ
  S = sample_at l

  abbrev B : ℕ
  B = bit_quanta l

  abbrev sees : ℕ → Seen
  sees = clock_sees levels node

  -- the node after its sample of a bit with place 0 at p: its machine is in this stretch, these frames have passed it, and `wrong` counts what has happened to it
  pub record Rests (p : ℕ) (x : Stretch) (passed : List Passed) (wrong : (Happened → Bool) → ℕ) : Type 0 where
    pub sampled : SamplesBy l sees (p + S) Recessive
    pub clock : clock_after l (seen_before sees (suc (p + S))) ≡ steady_clock l
    pub stretch : stretch_of (node (suc (p + S))).inputs ≡ x
    pub counts : counts_of (node (suc (p + S))).happened ≡ no_counts
    pub frames : (node (suc (p + S))).frames ≡ passed
    pub found : (test : Happened → Bool) → test Nothing ≡ false → count_by test (node (suc (p + S))).happened ≡ wrong test
    pub drive : (node (suc (p + S))).drive ≡ Recessive

  whole : (q : ℕ) (b : Beat) → beat_of l (seen_before sees q) (sees q) ≡ b → beat_of setup.segments (seen_before sees q) (sees q) ≡ b
  whole q b e = ap (λ m. beat_of m (seen_before sees q) (sees q)) segments ∙ e

  -- a silent bit
  module _ (p : ℕ) (x : Stretch) (idle : x.sort ≡ Idle) (passed : List Passed) (wrong : (Happened → Bool) → ℕ) (r : Rests p x passed wrong) (silent : (q : ℕ) → p + S < q → q ≤ p + B + S → levels q ≡ Recessive) where
    bit : BitIs l sees (p + S) (p + B) (p + B) Recessive
    bit = edges.silent l sees p Recessive book r.sampled silent

    low : 0 < B
    low = let h = book.lengths.low in omega arith

    pub record Same (q : ℕ) : Type 0 where
      pub inputs : (node q).inputs ≡ (node (suc (p + S))).inputs
      pub happened : (node q).happened ≡ (node (suc (p + S))).happened
      pub frames : (node q).frames ≡ passed
      pub drive : (node q).drive ≡ Recessive

    wants_none : (node (suc (p + S))).inputs ≡ (node (suc (p + S))).inputs → drive_of (stretch_of (node (suc (p + S))).inputs) ≡ Recessive
    wants_none e = ap drive_of r.stretch ∙ ap (λ k. drive_by k x.own) idle

    step : (q : ℕ) → p + S < q → q < p + B + S → Same q → Same (suc q)
    step q more less a = elim (cases_eq q (p + B)) [
      | inl here ↦
          (let b : beat_of l (seen_before sees q) (sees q) ≡ beats.Start = ap (λ k. beat_of l (seen_before sees k) (sees k)) here ∙ bit.starts.starts in
          record {
            inputs = inputs_by setup levels node run q beats.Start (whole q beats.Start b) ∙ a.inputs;
            happened = happened_by setup levels node run q beats.Start (whole q beats.Start b) ∙ a.happened;
            frames = frames_by setup levels node run q beats.Start (whole q beats.Start b) ∙ a.frames;
            drive = driven_by setup levels node run q beats.Start (whole q beats.Start b) ∙ ap (λ v. drive_of (stretch_of v)) a.inputs ∙ wants_none refl;
          })
      | inr apart ↦
          (let b = bit.starts.others q more less apart in
          record {
            inputs = inputs_by setup levels node run q beats.Plain (whole q beats.Plain b) ∙ a.inputs;
            happened = happened_by setup levels node run q beats.Plain (whole q beats.Plain b) ∙ a.happened;
            frames = frames_by setup levels node run q beats.Plain (whole q beats.Plain b) ∙ a.frames;
            drive = driven_by setup levels node run q beats.Plain (whole q beats.Plain b) ∙ a.drive;
          })
    ]

    same_up : (m : ℕ) → suc (p + S) + m ≤ p + B + S → Same (suc (p + S) + m)
    same_up zero less =
        subst Same (let e : suc (p + S) ≡ suc (p + S) + 0 = omega arith in e) (record { inputs = refl; happened = refl; frames = r.frames; drive = r.drive })
    same_up (suc m) less =
        subst Same (let e : suc (suc (p + S) + m) ≡ suc (p + S) + suc m = omega arith in e) (step (suc (p + S) + m) (omega arith) (omega arith) (same_up m (omega arith)))

    pub same_at : (q : ℕ) → p + S < q → q ≤ p + B + S → Same q
    same_at q more less = subst Same (let e : suc (p + S) + (q - suc (p + S)) ≡ q = omega arith in e) (same_up (q - suc (p + S)) (omega arith))

    abbrev next : ℕ
    next = p + B + S

    last : Same next
    last = same_at next (let h = low in omega arith) (omega arith)

    beat : beat_of l (seen_before sees next) (sees next) ≡ beats.Sample Recessive
    beat = bit.samples.beat

    silent_next : levels next ≡ Recessive
    silent_next = silent next (let h = low in omega arith) (omega arith)

    -- what it is handed with the sample
    abbrev head : Option Content
    head = head_at setup (unsent_after setup passed) next

    pub waiting_is : head_at setup (unsent_of setup (node next)) (length (node next).seen) ≡ head
    waiting_is =
        ap (λ fs. head_at setup (unsent_after setup fs) (length (node next).seen)) last.frames
        ∙ ap (head_at setup (unsent_after setup passed)) (ap length (seen_are setup levels node run next) ∙ seen_length sees next)

    head_is : (sampled_next setup (node next) (levels next)).head ≡ head
    head_is = ap (λ v. (sampled_next setup (node next) v).head) silent_next ∙ waiting_is

    beat_next : beat_of setup.segments (seen_before sees next) (sees next) ≡ beats.Sample Recessive
    beat_next = whole next (beats.Sample Recessive) beat

    stretch_at : stretch_of (node next).inputs ≡ x
    stretch_at = ap stretch_of last.inputs ∙ r.stretch

    counts_at : counts_of (node next).happened ≡ no_counts
    counts_at = ap counts_of last.happened ∙ r.counts

    abbrev takes : TakesOn (judged x (sample_of Recessive head Active))
    takes = takes_on x head idle

    pub rests_next : Rests (p + B) (stretch_after x (Sample (sample_of Recessive head Active))) passed wrong
    rests_next = record {
      sampled = beat;
      clock = edges.steady l sees p Recessive book r.sampled (λ q more less. calm.recessive l (seen_before sees q) (sees q) book (silent q more less)) silent_next;
      stretch = taken.stretch_there setup levels node run next beat_next silent_next x stretch_at counts_at head head_is takes;
      counts = taken.counts_there setup levels node run next beat_next silent_next x stretch_at counts_at head head_is takes;
      frames = taken.frames_there setup levels node run next beat_next silent_next x stretch_at counts_at head head_is takes ∙ last.frames;
      found = λ test fine. taken.found_there setup levels node run next beat_next silent_next x stretch_at counts_at head head_is takes test fine
          ∙ ap (count_by test) last.happened ∙ r.found test fine;
      drive = taken.drive_there setup levels node run next beat_next silent_next x stretch_at counts_at head head_is takes ∙ last.drive;
    }

    pub drive_next : (q : ℕ) → p + S < q → q ≤ suc next → (node q).drive ≡ Recessive
    drive_next q more less = elim (cases_lt next q) [
      | inl above ↦ (let e : suc next ≡ q = omega arith in subst (λ k. (node k).drive ≡ Recessive) e rests_next.drive)
      | inr inside ↦ (same_at q more inside).drive
    ]
