-- The quanta up to some samples that the machine only keeps, or none.
use Rattle.std.proofs.Common.{◌≡◌, ◌∙◌, ℕ, suc, ◌+◌, ◌-◌, ◌*◌, ◌<◌, ◌≤◌, ◌++◌, replicate, refl, sym, ap, subst, arith, append-nil}
use Rattle.std.proofs.Math.Nat.{mul-le-mul_left}
use Rattle.wl_node.specs.Unsent.{IsChosen, IsUnsent}
use Rattle.wl_sync.specs.Running.{Running}
use Rattle.wl_sync.specs.Skips.{sampled_bits, SamplesAfter}
use Rattle.wl_node.specs.declared.progress.NodeProgress.{NodeProgress}
use Rattle.wl_node.specs.History.{staying_history, unsent_of}
use Rattle.wl_node.specs.Kept.{IsProgress}
use Rattle.wl_node.specs.KeptBits.{AreMore}
use Rattle.wl_node.specs.Runs.{samples_by, samples_from}
use Rattle.wl_node.proofs.KeptBits.{SamplesBits, clock_some, kept_drive, kept_place, quanta_by, quanta_some}
use Rattle.wl_node.proofs.RunsOfSamples.{from_none}
use Rattle.wl_node.proofs.progress.NodeProgress.to_last_kept_sample.Goals as goal

pub returns-then-bits-eq0-clause-place : goal.returns-then-bits-eq0-clause-place
returns-then-bits-eq0-clause-place c setup levels was =
    let now : NodeProgress = record {
      clock = c.args.self.now.clock;
      drive = c.args.self.now.drive;
      quanta = c.args.self.now.quanta;
      syncs = c.args.self.now.syncs;
      traffic = c.keep_bits-bits.new.self;
    } in
    let e = c.keep_bits-bits.ensures in
    let none : c.keep_bits-bits.result ≡ 0 = c.if-bits-eq0.true in
    let kept = was.place.traffic in
    subst (IsProgress setup now) (sym (append-nil levels)) (record {
      counted = was.counted;
      place = record {
        clock = was.place.clock;
        drive = was.place.drive;
        quanta = was.place.quanta;
        syncs = record { phases = was.place.syncs.phases; totals = was.place.syncs.totals; hards = was.place.syncs.hards };
        same = was.place.same ∙ sym e.keeps;
        traffic = record {
          machine = e.kept.machine (staying_history setup levels).inputs (staying_history setup levels).inputs kept.machine
              (subst (λ k. AreMore (staying_history setup levels).inputs c.args.level k (staying_history setup levels).inputs) (sym none) refl);
          counters = e.counters ∙ kept.counters;
          pending = e.pending ∙ kept.pending;
          unsent = subst (λ u. IsUnsent setup u (staying_history setup levels).frames) (sym e.unsent) kept.unsent;
          errors = e.errors ∙ kept.errors;
          samples = λ on.
              e.samples (sym e.keeps ∙ on)
              ∙ ap (λ k. samples_by c.args.self.now.traffic.samples.runs.items ++ samples_from (c.args.self.now.quanta + c.args.before) c.bit_quanta-bit.result c.args.level k) none
              ∙ ap (λ xs. samples_by c.args.self.now.traffic.samples.runs.items ++ xs) (from_none (c.args.self.now.quanta + c.args.before) c.bit_quanta-bit.result c.args.level)
              ∙ append-nil (samples_by c.args.self.now.traffic.samples.runs.items) ∙ kept.samples (sym e.keeps ∙ on);
          sampled = (let n = e.count in let k = kept.sampled in omega (arith, n, none, k));
          frames = ap (λ f. f.items) e.frames ∙ kept.frames;
          sends = λ frame f. subst (λ u. IsChosen setup.order (unsent_of setup (staying_history setup levels)) frame u.place) (sym e.unsent) (kept.sends frame f);
        };
      };
    })

module _ (c : goal.After-self-1) where
  abbrev n : ℕ
  n = c.keep_bits-bits.result

  abbrev bit : ℕ
  bit = c.bit_quanta-bit.result

  abbrev after : ℕ → Running
  after = sampled_bits c.args.self.now.clock c.args.level

  some : 0 < n
  some = (let f = c.if-bits-eq0.false in omega (arith, f))

  wide : 0 < bit
  wide = (let l = c.bit_quanta-bit.ensures.lengths.low in let q = c.bit_quanta-bit.ensures.quanta in omega (arith, l, q))

  clocks : SamplesBits c.args.self.now.clock c.args.level c.args.before bit after
  clocks = record {
    first = subst (λ k. SamplesAfter c.args.self.now.clock c.args.level k (after 0)) (sym c.requires.before) c.sample_bits.ensures.first;
    next = λ k. subst (λ b. SamplesAfter (after k) c.args.level (b - 1) (after (suc k))) (sym c.bit_quanta-bit.ensures.quanta) (c.sample_bits.ensures.next k);
  }

  quanta : quanta_by c.args.before bit n ≡ c.args.before + 1 + (n - 1) * bit
  quanta = quanta_some c.args.before bit n some

pub returns-clause-place : goal.returns-clause-place
returns-clause-place c setup levels was =
    let now : NodeProgress = record {
      clock = c.sample_bits.new.self;
      drive = c.args.self.now.drive;
      quanta = c.args.self.now.quanta + (c.args.before + 1 + (c.keep_bits-bits.result - 1) * c.bit_quanta-bit.result);
      syncs = c.args.self.now.syncs;
      traffic = c.keep_bits-bits.new.self;
    } in
    let e = c.keep_bits-bits.ensures in
    subst (λ (q : ℕ). IsProgress setup now (levels ++ replicate q c.args.level)) (quanta c)
    (kept_place setup c.args.level c.args.self.now c.args.before (bit c) (n c) (after c) c.keep_bits-bits.new.self.machine (wide c) (some c) c.requires.recessive (clocks c) e.kept levels was now
    (c.sample_bits.ensures.clock ∙ sym (clock_some c.args.self.now.clock (after c) (n c) (some c))) refl (ap (λ q. c.args.self.now.quanta + q) (sym (quanta c))) refl
    refl e.counters e.pending e.unsent e.errors e.frames e.keeps e.samples e.count)

pub returns-clause-drive : goal.returns-clause-drive
returns-clause-drive c setup m less levels was =
    let q = quanta c in
    kept_drive setup c.args.level c.args.self.now c.args.before (bit c) (n c) (after c) c.keep_bits-bits.new.self.machine (wide c) (some c) c.requires.recessive (clocks c) c.keep_bits-bits.ensures.kept
    levels was (n c) (omega arith) m (omega (arith, less, q))

pub returns-clause-keeps : goal.returns-clause-keeps
returns-clause-keeps c =
    let e = c.keep_bits-bits.ensures in
    let one : 1 ≤ c.bit_quanta-bit.result = wide c in
    let many : (c.keep_bits-bits.result - 1) * 1 ≤ (c.keep_bits-bits.result - 1) * c.bit_quanta-bit.result = mul-le-mul_left (c.keep_bits-bits.result - 1) one in
    record {
      quanta = refl;
      fits = record {
        syncs = omega (arith, c.requires.fits.syncs);
        errors = omega (arith, e.errors, c.requires.fits.errors);
        samples = omega (arith, e.count, c.requires.fits.samples, many);
      };
      lists = e.keeps;
    }
