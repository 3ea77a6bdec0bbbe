-- Samples of one level in a row that a machine only keeps, and the quanta of their bits.
use Rattle.std.proofs.Common.{◌≡◌, ◌∙◌, ℕ, zero, suc, ◌+◌, ◌-◌, ◌*◌, ◌<◌, ◌≤◌, inl, inr, List, [], ◌∷◌, ◌++◌, length, replicate, Option, true, refl, sym, ap, subst, arith, append-nil, append_assoc, length-append, add-zero}
use Rattle.std.specs.Prelude.{count_by}
use Rattle.std.specs.List.{flat_map}
use Rattle.std.proofs.lemmas.Bool.{cases_lt}
use Rattle.std.proofs.lemmas.List.{length-replicate}
use Rattle.wl_level.specs.declared.Level.{Level}
use Rattle.wl_level.specs.declared.Level.TheVariants.{Recessive}
use Rattle.wl_sync.specs.declared.Seen.{Seen}
use Rattle.wl_sync.specs.Running.{Running, clock_after}
use Rattle.wl_sync.specs.Skips.{IsSampledAfter, SamplesAfter}
use Rattle.wl_confine.specs.declared.Mode.{Mode}
use Rattle.wl_confine.specs.declared.Happened.TheVariants.{Nothing}
use Rattle.wl_confine.specs.Counts.{counts_of, is_error}
use Rattle.wl_frame.specs.Grammar.{Content}
use Rattle.wl_machine.specs.declared.Machine.{Machine}
use Rattle.wl_machine.specs.Stretch.{Input, Sampled, Stretch, continues}
use Rattle.wl_machine.specs.Stretch.Input.{Sample}
use Rattle.wl_machine.specs.Judged.{judged, stretch_of, drive_of, head_of}
use Rattle.wl_machine.specs.Reached.{IsMachine}
use Rattle.wl_machine.specs.States.{sample_of}
use Rattle.wl_node.specs.declared.setup.NodeSetup.{NodeSetup}
use Rattle.wl_node.specs.declared.progress.NodeProgress.{NodeProgress}
use Rattle.wl_node.specs.History.{History, staying_history, error_count, is_hard, phase_of, sampled_next, seen_next, unsent_of}
use Rattle.wl_node.specs.Extremes.{phase_totals}
use Rattle.wl_node.specs.Kept.{IsProgress}
use Rattle.wl_node.specs.Queues.{unsent_by}
use Rattle.wl_node.specs.Unsent.{IsChosen, IsUnsent}
use Rattle.wl_node.specs.KeptBits.{AreMore, HasKept}
use Rattle.wl_node.specs.Quiet.{pending_of}
use Rattle.wl_node.specs.Runs.{samples_by, samples_from}
use Rattle.wl_node.proofs.Gone.{joined}
use Rattle.wl_node.proofs.Heard.{heard_drive, heard_history, up_to, up_to_long}
use Rattle.wl_node.proofs.Rested.{counts_same, history_is, rested, stretch_on}
use Rattle.wl_node.proofs.RunsOfSamples.{from_none, from_suc, length_from}
use Rattle.wl_node.proofs.Unsents.{count_append}

-- what holds of one sample that is only kept
pub record KeepsOne (level : Level) (mid new : Machine) : Type 0 where
  pub machine : (past : List Input) → IsMachine mid past → (head : Option Content) (mode : Mode) → IsMachine new (past ++ Sample (sample_of level head mode) ∷ [])
  pub judged : (past : List Input) → IsMachine mid past → (head : Option Content) (mode : Mode) → judged (stretch_of past) (sample_of level head mode) ≡ continues Nothing
  pub before : (past : List Input) → IsMachine mid past → drive_of (stretch_of past) ≡ Recessive
  pub after : (past : List Input) → IsMachine mid past → (head : Option Content) (mode : Mode) → drive_of (stretch_of (past ++ Sample (sample_of level head mode) ∷ [])) ≡ Recessive

-- one more
module _ (level : Level) (n : ℕ) (old mid new : Machine) (kept : HasKept level n old mid) (one : KeepsOne level mid new) where
  there : (past inputs : List Input) (m : ℕ) → m ≡ n → IsMachine old past → AreMore past level m inputs → IsMachine mid inputs
  there past inputs m e is more = kept.machine past inputs is (subst (λ k. AreMore past level k inputs) e more)

  judged_more : (past inputs : List Input) (m : ℕ) → m < suc n → IsMachine old past → AreMore past level m inputs → (head : Option Content) (mode : Mode)
      → judged (stretch_of inputs) (sample_of level head mode) ≡ continues Nothing
  judged_more past inputs m less is more head mode = elim (cases_lt m n) [
    | inl before ↦ kept.judged past inputs m before is more head mode
    | inr last ↦ one.judged inputs (there past inputs m (let e : m ≡ n = omega arith in e) is more) head mode
  ]

  drives_last : (past inputs : List Input) → IsMachine old past → AreMore past level (suc n) inputs → drive_of (stretch_of inputs) ≡ Recessive
  drives_last past inputs is (before, head, mode, more, e) = ap (λ p. drive_of (stretch_of p)) e ∙ one.after before (kept.machine past before is more) head mode

  drives_more : (past inputs : List Input) (m : ℕ) → m ≤ suc n → 0 < suc n → IsMachine old past → AreMore past level m inputs → drive_of (stretch_of inputs) ≡ Recessive
  drives_more past inputs m few some is more = elim (cases_lt m n) [
    | inl before ↦ kept.drives past inputs m (omega arith) (omega arith) is more
    | inr behind ↦ elim (cases_lt n m) [
      | inl last ↦ drives_last past inputs is (subst (λ k. AreMore past level k inputs) (let e : m ≡ suc n = omega arith in e) more)
      | inr here ↦ one.before inputs (there past inputs m (let e : m ≡ n = omega arith in e) is more)
    ]
  ]

  pub kept_more : HasKept level (suc n) old new
  kept_more = record {
    machine = λ past inputs is (before, head, mode, more, e). subst (IsMachine new) (sym e) (one.machine before (kept.machine past before is more) head mode);
    judged = judged_more;
    drives = drives_more;
  }

-- the quanta up to and including the last of so many samples, and those before the next sample since then
abbrev pub quanta_by : (before bit : ℕ) → ℕ → ℕ
quanta_by before bit zero = 0
quanta_by before bit (suc k) = before + 1 + k * bit

abbrev way_by : (before bit : ℕ) → ℕ → ℕ
way_by before bit zero = before
way_by before bit (suc k) = bit - 1

quanta_next : (before bit k : ℕ) → 0 < bit → quanta_by before bit k + suc (way_by before bit k) ≡ quanta_by before bit (suc k)
quanta_next before bit zero some = omega arith
quanta_next before bit (suc k) some = (let e : suc k * bit ≡ k * bit + bit = omega arith in omega arith)

sample_quantum : (quanta before bit k : ℕ) → 0 < bit → quanta + quanta_by before bit k + way_by before bit k ≡ quanta + before + k * bit
sample_quantum quanta before bit zero some = omega arith
sample_quantum quanta before bit (suc k) some = (let e : suc k * bit ≡ k * bit + bit = omega arith in omega arith)

-- what the clock keeps after so many samples
pub record SamplesBits (clock : Running) (level : Level) (before bit : ℕ) (after : ℕ → Running) : Type 0 where
  pub first : SamplesAfter clock level before (after 0)
  pub next : (k : ℕ) → SamplesAfter (after k) level (bit - 1) (after (suc k))

abbrev pub clock_by : Running → (ℕ → Running) → ℕ → Running
clock_by clock after zero = clock
clock_by clock after (suc k) = after k

sampling : (clock : Running) (level : Level) (before bit : ℕ) (after : ℕ → Running) → SamplesBits clock level before bit after
    → (k : ℕ) → SamplesAfter (clock_by clock after k) level (way_by before bit k) (clock_by clock after (suc k))
sampling clock level before bit after is zero = is.first
sampling clock level before bit after is (suc k) = is.next k

module _ (setup : NodeSetup) (level : Level) (old : NodeProgress) (before bit n : ℕ) (after : ℕ → Running) (machine : Machine)
    (bits : 0 < bit) (some : 0 < n) (recessive : old.drive ≡ Recessive) (clocks : SamplesBits old.clock level before bit after) (kept : HasKept level n old.traffic.machine machine)
    (levels : List Level) (was : IsProgress setup old levels) where
  abbrev h : History
  h = staying_history setup levels

  abbrev at : ℕ → List Level
  at k = levels ++ replicate (quanta_by before bit k) level

  abbrev here : ℕ → History
  here k = staying_history setup (at k)

  -- after so many of these samples
  pub record AreKept (k : ℕ) : Type 0 where
    clock : clock_by old.clock after k ≡ clock_after setup.segments (here k).seen
    long : length (here k).seen ≡ old.quanta + quanta_by before bit k
    more : AreMore h.inputs level k (here k).inputs
    counts : counts_of (here k).happened ≡ counts_of h.happened
    errors : error_count (here k) ≡ error_count h
    frames : (here k).frames ≡ h.frames
    drive : (here k).drive ≡ h.drive
    syncs : (here k).syncs ≡ h.syncs
    head : head_of (stretch_of (here k).inputs).sort ≡ head_of (stretch_of h.inputs).sort
    samples : (here k).samples ≡ h.samples ++ samples_from (old.quanta + before) bit level k

  start : at 0 ≡ levels
  start = append-nil levels

  kept_first : AreKept 0
  kept_first = record {
    clock = was.place.clock ∙ ap (λ ls. clock_after setup.segments (staying_history setup ls).seen) (sym start);
    long = ap (λ ls. length (staying_history setup ls).seen) start ∙ sym was.place.quanta ∙ sym (add-zero old.quanta);
    more = ap (λ ls. (staying_history setup ls).inputs) start;
    counts = ap (λ ls. counts_of (staying_history setup ls).happened) start;
    errors = ap (λ ls. error_count (staying_history setup ls)) start;
    frames = ap (λ ls. (staying_history setup ls).frames) start;
    drive = ap (λ ls. (staying_history setup ls).drive) start;
    syncs = ap (λ ls. (staying_history setup ls).syncs) start;
    head = ap (λ ls. head_of (stretch_of (staying_history setup ls).inputs).sort) start;
    samples = ap (λ ls. (staying_history setup ls).samples) start ∙ sym (append-nil h.samples) ∙ ap (λ xs. h.samples ++ xs) (sym (from_none (old.quanta + before) bit level));
  }

  module _ (k : ℕ) (less : k < n) (is : AreKept k) where
    abbrev g : History
    g = here k

    abbrev x : Seen
    x = seen_next g level

    abbrev way : ℕ
    way = way_by before bit k

    next : SamplesAfter (clock_by old.clock after k) level way (clock_by old.clock after (suc k))
    next = sampling old.clock level before bit after clocks k

    sampled : IsSampledAfter setup.segments g.seen x way
    sampled = next.sampled setup.segments g.seen is.clock x refl

    settled : g.drive ≡ pending_of g
    settled = is.drive ∙ sym was.place.drive ∙ recessive ∙ sym (kept.drives h.inputs g.inputs k (omega arith) some was.place.traffic.machine is.more)

    abbrev up : History
    up = up_to setup (at k) level way sampled settled

    abbrev y : Sampled
    y = sampled_next setup up level

    judged_is : judged (stretch_of up.inputs) y ≡ continues Nothing
    judged_is = kept.judged h.inputs g.inputs k less was.place.traffic.machine is.more y.head y.mode

    abbrev then : History
    then = record (rested up y) { seen = g.seen ++ replicate (suc way) x; syncs = g.syncs }

    levels_next : at k ++ replicate (suc way) level ≡ at (suc k)
    levels_next = joined levels level (quanta_by before bit k) (suc way) ∙ ap (λ q. levels ++ replicate q level) (quanta_next before bit k bits)

    then_is : here (suc k) ≡ then
    then_is =
        ap (staying_history setup) (sym levels_next)
        ∙ heard_history setup (at k) level way sampled settled
        ∙ ap (λ (r : History). record r { seen = g.seen ++ replicate (suc way) x; syncs = g.syncs }) (history_is setup up level judged_is)

    then_long : length (g.seen ++ replicate (suc way) x) ≡ old.quanta + quanta_by before bit (suc k)
    then_long =
        length-append g.seen (replicate (suc way) x) ∙ ap (λ j. length g.seen + j) (length-replicate (suc way) x)
        ∙ (let l = is.long in let q = quanta_next before bit k bits in omega (arith, l, q))

    last : length up.seen ≡ old.quanta + before + k * bit
    last = up_to_long setup (at k) level way sampled settled ∙ ap (λ j. j + way) is.long ∙ sample_quantum old.quanta before bit k bits

    pub kept_next : AreKept (suc k)
    kept_next = record {
      clock = next.clock setup.segments g.seen is.clock x refl ∙ ap (λ (r : History). clock_after setup.segments r.seen) (sym then_is);
      long = ap (λ (r : History). length r.seen) then_is ∙ then_long;
      more = (g.inputs, y.head, y.mode, is.more, ap (λ (r : History). r.inputs) then_is);
      counts = ap (λ (r : History). counts_of r.happened) then_is ∙ counts_same setup up level judged_is ∙ is.counts;
      errors = ap error_count then_is ∙ count_append is_error g.happened (Nothing ∷ []) ∙ add-zero _ ∙ is.errors;
      frames = ap (λ (r : History). r.frames) then_is ∙ is.frames;
      drive = ap (λ (r : History). r.drive) then_is ∙ is.drive;
      syncs = ap (λ (r : History). r.syncs) then_is ∙ is.syncs;
      head = ap (λ (r : History). head_of (stretch_of r.inputs).sort) then_is ∙ ap (λ (r : Stretch). head_of r.sort) (stretch_on setup up level judged_is) ∙ is.head;
      samples = ap (λ (r : History). r.samples) then_is
          ∙ (λ i. is.samples i ++ (last i, level) ∷ [])
          ∙ append_assoc h.samples (samples_from (old.quanta + before) bit level k) ((old.quanta + before + k * bit, level) ∷ [])
          ∙ ap (λ xs. h.samples ++ xs) (sym (from_suc (old.quanta + before) bit level k));
    }

    drive_next : (m : ℕ) → m ≤ suc way → (staying_history setup (at k ++ replicate m level)).drive ≡ h.drive
    drive_next m few = heard_drive setup (at k) level way sampled settled m (omega arith) ∙ is.drive

  are_kept : (k : ℕ) → k ≤ n → AreKept k
  are_kept zero few = kept_first
  are_kept (suc k) few = kept_next k (omega arith) (are_kept k (omega arith))

  -- the drive stays
  pub kept_drive : (k : ℕ) → k ≤ n → (m : ℕ) → m ≤ quanta_by before bit k → (staying_history setup (levels ++ replicate m level)).drive ≡ h.drive
  kept_drive zero few m less = ap (λ j. (staying_history setup (levels ++ replicate j level)).drive) (let e : m ≡ 0 = omega arith in e) ∙ ap (λ ls. (staying_history setup ls).drive) (append-nil levels)
  kept_drive (suc k) few m less = elim (cases_lt m (quanta_by before bit k)) [
    | inl first ↦ kept_drive k (omega arith) m (omega arith)
    | inr more ↦
        (let q = quanta_next before bit k bits in
        let e : m ≡ quanta_by before bit k + (m - quanta_by before bit k) = omega (arith, more) in
        ap (λ j. (staying_history setup (levels ++ replicate j level)).drive) e
        ∙ ap (λ ls. (staying_history setup ls).drive) (sym (joined levels level (quanta_by before bit k) (m - quanta_by before bit k)))
        ∙ drive_next k (omega arith) (are_kept k (omega arith)) (m - quanta_by before bit k) (omega (arith, less, more, q)))
  ]

  -- where they put what a node keeps
  module _ (new : NodeProgress) (clock : new.clock ≡ clock_by old.clock after n) (drive : new.drive ≡ old.drive) (quanta : new.quanta ≡ old.quanta + quanta_by before bit n) (syncs : new.syncs ≡ old.syncs)
      (reached : new.traffic.machine ≡ machine) (counters : new.traffic.counters ≡ old.traffic.counters) (pending : new.traffic.pending ≡ old.traffic.pending) (unsent : new.traffic.unsent ≡ old.traffic.unsent)
      (errors : new.traffic.errors ≡ old.traffic.errors) (frames : new.traffic.frames ≡ old.traffic.frames)
      (keeps : new.traffic.samples.keeps ≡ old.traffic.samples.keeps)
      (listed : old.traffic.samples.keeps ≡ true → samples_by new.traffic.samples.runs.items ≡ samples_by old.traffic.samples.runs.items ++ samples_from (old.quanta + before) bit level n)
      (count : new.traffic.samples.count ≡ old.traffic.samples.count + n) where
    pub kept_place : IsProgress setup new (at n)
    kept_place =
        let is : AreKept n = are_kept n (omega arith) in
        let g : History = here n in
        record {
          counted = is.long ∙ ap (λ q. q + quanta_by before bit n) (was.place.quanta ∙ was.counted)
              ∙ sym (length-append levels (replicate (quanta_by before bit n) level) ∙ ap (λ m. length levels + m) (length-replicate (quanta_by before bit n) level));
          place = record {
            clock = clock ∙ is.clock;
            drive = drive ∙ was.place.drive ∙ sym is.drive;
            quanta = quanta ∙ sym is.long;
            syncs = record {
              phases = λ on. ap (λ s. s.phases.items) syncs ∙ was.place.syncs.phases (sym (ap (λ s. s.keeps) syncs) ∙ on) ∙ ap (flat_map phase_of) (sym is.syncs);
              totals = ap (λ s. s.totals) syncs ∙ was.place.syncs.totals ∙ ap (λ ss. phase_totals (flat_map phase_of ss)) (sym is.syncs);
              hards = ap (λ s. s.hards) syncs ∙ was.place.syncs.hards ∙ ap (count_by is_hard) (sym is.syncs);
            };
            same = ap (λ s. s.keeps) syncs ∙ (was.place.same ∙ sym keeps);
            traffic = record {
              machine = subst (λ m. IsMachine m g.inputs) (sym reached) (kept.machine h.inputs g.inputs was.place.traffic.machine is.more);
              counters = counters ∙ was.place.traffic.counters ∙ sym is.counts;
              pending = pending ∙ was.place.traffic.pending ∙ kept.drives h.inputs h.inputs 0 (omega arith) some was.place.traffic.machine refl
                  ∙ sym (kept.drives h.inputs g.inputs n (omega arith) some was.place.traffic.machine is.more);
              unsent = subst (λ u. IsUnsent setup u (staying_history setup (at n)).frames) (sym unsent) (subst (IsUnsent setup old.traffic.unsent) (sym is.frames) was.place.traffic.unsent);
              errors = errors ∙ was.place.traffic.errors ∙ sym is.errors;
              samples = λ on.
                  (let kept_on = sym keeps ∙ on in
                  listed kept_on ∙ ap (λ xs. xs ++ samples_from (old.quanta + before) bit level n) (was.place.traffic.samples kept_on) ∙ sym is.samples);
              sampled = count ∙ ap (λ m. m + n) was.place.traffic.sampled
                  ∙ sym (ap length is.samples ∙ length-append h.samples (samples_from (old.quanta + before) bit level n)
                  ∙ ap (λ m. length h.samples + m) (length_from (old.quanta + before) bit level n));
              frames = ap (λ f. f.items) frames ∙ was.place.traffic.frames ∙ sym is.frames;
              sends = λ frame e.
                  subst (λ fs. IsChosen setup.order (unsent_by setup.order setup.queue fs) frame new.traffic.unsent.place) (sym is.frames)
                  (subst (λ u. IsChosen setup.order (unsent_of setup h) frame u.place) (sym unsent) (was.place.traffic.sends frame (sym is.head ∙ e)));
            };
          };
        }

pub quanta_some : (before bit n : ℕ) → 0 < n → quanta_by before bit n ≡ before + 1 + (n - 1) * bit
quanta_some before bit zero some = absurd (omega arith)
quanta_some before bit (suc k) some = ap (λ j. before + 1 + j * bit) (let e : k ≡ suc k - 1 = omega arith in e)

pub clock_some : (clock : Running) (after : ℕ → Running) (n : ℕ) → 0 < n → clock_by clock after n ≡ after (n - 1)
clock_some clock after zero some = absurd (omega arith)
clock_some clock after (suc k) some = ap after (let e : k ≡ suc k - 1 = omega arith in e)
