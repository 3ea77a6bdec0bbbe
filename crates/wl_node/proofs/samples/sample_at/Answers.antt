-- A place is in the first run that has samples beyond it, and past the last run in none.
use Rattle.std.proofs.Common.{◌≡◌, ◌+◌, ◌-◌, ap, take, sym, arith, length}
use Rattle.wl_level.specs.declared.Level.TheVariants.{Dominant}
use Rattle.wl_node.specs.declared.samples.Run.{Run}
use Rattle.wl_node.specs.Runs.{samples_by}
use Rattle.wl_node.proofs.RunsOfSamples.{length_next, none_by, past_all, sample_in}
use Rattle.wl_node.proofs.samples.sample_at.Goals as goal

abbrev none : Run
none = record { from = 0; count = 0; step = 0; level = Dominant }

pub loop-i-init : goal.loop-i-init
loop-i-init c = (sym (ap length none_by), omega arith)

pub loop-i-preserved : goal.loop-i-preserved
loop-i-preserved c =
    let more = length_next c.args.runs.now c.loop-i.i none c.loop-i-test.true in
    (omega (arith, more, c.loop-i.invariant.0), omega (arith, c.loop-i.invariant.1, c.if-k-before.false))

pub returns-then-k-before : goal.returns-then-k-before
returns-then-k-before c =
    let place = c.args.k - c.loop-i.before in
    let e : c.args.k ≡ length (samples_by (take c.loop-i.i c.args.runs.now)) + place = omega (arith, c.loop-i.invariant.0, c.loop-i.invariant.1) in
    sym (sample_in c.args.runs.now c.loop-i.i none c.loop-i-test.true c.args.k place e c.if-k-before.true)

pub returns : goal.returns
returns c = sym (past_all c.args.runs.now c.loop-i.i c.args.k (omega (arith, c.loop-i-test.false)) (omega (arith, c.loop-i.invariant.0, c.loop-i.invariant.1)))
