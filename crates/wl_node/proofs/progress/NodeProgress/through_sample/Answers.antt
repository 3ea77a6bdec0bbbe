-- The quanta up to a sample and with it.
use Rattle.std.proofs.Common.{◌≡◌, ◌∙◌, ℕ, suc, ◌+◌, ◌++◌, length, replicate, refl, sym, ap, subst, arith}
use Rattle.wl_level.proofs.Callers.{same_equal}
use Rattle.wl_sync.specs.declared.Seen.{Seen}
use Rattle.wl_sync.specs.Running.{clock_after}
use Rattle.wl_sync.specs.Skips.{IsSampledAfter}
use Rattle.wl_node.specs.declared.setup.NodeSetup.{NodeSetup}
use Rattle.wl_node.specs.declared.progress.NodeProgress.{NodeProgress}
use Rattle.wl_node.specs.History.{History, staying_history, seen_next}
use Rattle.wl_node.specs.Kept.{IsProgress}
use Rattle.wl_node.specs.Quiet.{pending_of}
use Rattle.wl_node.proofs.Heard.{heard_drive, heard_place, traffic_seen, up_to, up_to_long}
use Rattle.wl_node.proofs.progress.NodeProgress.through_sample.Goals as goal

pub returns-clause-place : goal.returns-clause-place
returns-clause-place c levels was =
    let setup : NodeSetup = c.args.setup.now in
    let h : History = staying_history setup levels in
    let x : Seen = seen_next h c.args.level in
    let n : ℕ = c.args.before in
    let settled : h.drive ≡ pending_of h =
    sym was.place.drive ∙ same_equal c.args.self.now.drive c.args.self.now.traffic.pending c.requires.settled ∙ was.place.traffic.pending in
    let is : IsSampledAfter setup.segments h.seen x n =
    subst (IsSampledAfter setup.segments h.seen x) (sym c.requires.before) (c.sample.ensures.sampled setup.segments h.seen was.place.clock x refl) in
    let now : NodeProgress = record {
      clock = c.sample.new.self;
      drive = c.args.self.now.drive;
      quanta = c.args.self.now.quanta + c.args.before + 1;
      syncs = c.args.self.now.syncs;
      traffic = c.take.new.self;
    } in
    let clock : c.sample.new.self ≡ clock_after setup.segments (h.seen ++ replicate (suc n) x) =
    c.sample.ensures.clock setup.segments h.seen was.place.clock x refl
    ∙ ap (λ k. clock_after setup.segments (h.seen ++ replicate (suc k) x)) (sym c.requires.before) in
    let long : length (up_to setup levels c.args.level n is settled).seen ≡ c.args.self.now.quanta + n =
    up_to_long setup levels c.args.level n is settled ∙ ap (λ k. k + n) (sym was.place.quanta) in
    subst (λ (k : ℕ). IsProgress setup now (levels ++ replicate k c.args.level)) (let e : suc n ≡ n + 1 = omega arith in e)
    (heard_place setup levels c.args.level n is settled c.args.self.now now was clock refl refl c.take.ensures.keeps (omega arith)
    (c.take.ensures.traffic (up_to setup levels c.args.level n is settled) long
    (traffic_seen setup c.args.self.now.traffic h (h.seen ++ replicate n x) was.place.traffic)))

pub returns-clause-drive : goal.returns-clause-drive
returns-clause-drive c m less levels was =
    let setup : NodeSetup = c.args.setup.now in
    let h : History = staying_history setup levels in
    let x : Seen = seen_next h c.args.level in
    let settled : h.drive ≡ pending_of h =
    sym was.place.drive ∙ same_equal c.args.self.now.drive c.args.self.now.traffic.pending c.requires.settled ∙ was.place.traffic.pending in
    let is : IsSampledAfter setup.segments h.seen x c.args.before =
    subst (IsSampledAfter setup.segments h.seen x) (sym c.requires.before) (c.sample.ensures.sampled setup.segments h.seen was.place.clock x refl) in
    heard_drive setup levels c.args.level c.args.before is settled m (omega arith)

pub returns-clause-keeps : goal.returns-clause-keeps
returns-clause-keeps c = record {
  quanta = omega arith;
  fits = record {
    syncs = omega (arith, c.requires.fits.syncs);
    errors = omega (arith, c.take.ensures.errors, c.requires.fits.errors);
    samples = omega (arith, c.take.ensures.count, c.requires.fits.samples);
  };
  lists = c.take.ensures.keeps;
}
