use Rattle.std.proofs.Common.{◌≤◌, ◌*◌, refl, arith}
use Rattle.std.proofs.Math.Nat.{mul-le-mul_left}
use Rattle.wl_node.specs.declared.traffic.Traffic.{Traffic}
use Rattle.wl_node.proofs.RestingBits.{now_rested, rested_drive}
use Rattle.wl_node.proofs.progress.NodeProgress.idle_bits.Goals as goal

pub returns-clause-place : goal.returns-clause-place
returns-clause-place c levels old =
    let now : Traffic = record {
      machine = c.args.self.now.traffic.machine;
      counters = c.args.self.now.traffic.counters;
      pending = c.args.self.now.traffic.pending;
      unsent = c.args.self.now.traffic.unsent;
      errors = c.args.self.now.traffic.errors;
      samples = c.push_run.new.self;
      frames = c.args.self.now.traffic.frames;
    } in
    now_rested c.args.setup.now c.args.self.now c.args.quanta c.requires.some c.requires.rests levels old c.args.bits c.requires.none
    now refl refl refl refl refl refl c.push_run.ensures.keeps c.push_run.ensures.samples c.push_run.ensures.count

pub returns-clause-drive : goal.returns-clause-drive
returns-clause-drive c m less levels old =
    rested_drive c.args.setup.now c.args.self.now c.args.quanta c.requires.some c.requires.rests levels old c.args.bits c.requires.none m (omega arith)

pub push_run-requires-clause-early : goal.push_run-requires-clause-early
push_run-requires-clause-early c =
    let one : 1 ≤ c.args.bits = omega arith in
    let more : c.args.quanta * 1 ≤ c.args.quanta * c.args.bits = mul-le-mul_left c.args.quanta one in
    omega arith

pub returns-clause-keeps : goal.returns-clause-keeps
returns-clause-keeps c =
    let one : 1 ≤ c.args.quanta = omega arith in
    let more : c.args.bits * 1 ≤ c.args.bits * c.args.quanta = mul-le-mul_left c.args.bits one in
    record {
      quanta = refl;
      fits = record {
        syncs = omega (arith, c.requires.fits.syncs);
        errors = omega (arith, c.requires.fits.errors);
        samples = omega (arith, c.push_run.ensures.count, c.requires.fits.samples, more);
      };
      lists = c.push_run.ensures.keeps;
    }
