use Rattle.std.proofs.Common.{◌∙◌, ◌++◌, ap, get_or, sym}
use Rattle.wl_level.specs.declared.Level.TheVariants.{Dominant}
use Rattle.wl_node.specs.declared.samples.Run.{Run}
use Rattle.wl_node.specs.Runs.{run_samples}
use Rattle.wl_node.proofs.RunsOfSamples.{none_by, take_by}
use Rattle.wl_node.proofs.samples.unrolled.Goals as goal

pub loop-k-init : goal.loop-k-init
loop-k-init c = c.new-list.ensures.items ∙ sym none_by

pub loop-k-preserved : goal.loop-k-preserved
loop-k-preserved c =
    let none : Run = record { from = 0; count = 0; step = 0; level = Dominant } in
    c.in_ok-unroll.ensures
    ∙ ap (λ xs. xs ++ run_samples (get_or c.args.runs.now c.loop-k.k none)) c.loop-k.invariant
    ∙ sym (take_by c.args.runs.now c.loop-k.k none c.loop-k-test.true)
