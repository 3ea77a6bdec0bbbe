-- Each number is that of its history, whatever the changes were.
use Rattle.std.proofs.Common.{◌∙◌}
use Rattle.wl_serial.proofs.Steps.{totals_as}
use Rattle.wl_serial.proofs.so_far.node_totals.Goals as goal

pub returns : goal.returns
returns c changes levels is =
    totals_as c.args.node.now levels _ is (record {
      samples = c.sample_count.ensures;
      frames = λ at here. c.from_vec.ensures ∙ (c.in_ok-frames.ensures.items ∙ c.frames.ensures at here);
      counters = c.counters.ensures;
      phases = c.phase_totals.ensures;
      hards = c.hards.ensures;
      errors = c.errors.ensures;
      unsent = c.unsent.ensures;
    })
