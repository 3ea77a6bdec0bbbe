-- At the end the node's words are those of its history.
use Rattle.wl_serial.proofs.Steps.{ends, totals_are}
use Rattle.wl_serial.proofs.running_node.Running.counted.Goals as goal

pub returns-clause-drives : goal.returns-clause-drives
returns-clause-drives c plan i checked b run past =
    (ends plan i c.args.self c.simulation_laws.ensures (c.checked_is_sound.ensures plan checked) b run past).1

pub returns-clause-totals : goal.returns-clause-totals
returns-clause-totals c plan i checked b run past =
    totals_are plan i c.args.self _ c.simulation_laws.ensures (c.checked_is_sound.ensures plan checked) b run past
    (record {
      samples = c.sample_count-samples.ensures;
      frames = c.into_lists-lists.ensures.frames;
      counters = c.counters-counters.ensures;
      phases = c.phase_totals-phases.ensures;
      hards = c.hards-hards.ensures;
      errors = c.errors-errors.ensures;
      unsent = c.unsent-unsent.ensures;
    })
