-- At the end the node's words are those of its history.
use Rattle.std.proofs.Common.{refl}
use Rattle.wl_serial.proofs.Steps.{outcome_is}
use Rattle.wl_serial.proofs.running_node.Running.finish.Goals as goal

pub returns : goal.returns
returns c plan i checked b run past keeps =
    outcome_is plan i c.args.self _ c.simulation_laws.ensures (c.checked_is_sound.ensures plan checked) b run past refl
    (record {
      samples = c.into_lists-lists.ensures.samples keeps;
      frames = c.into_lists-lists.ensures.frames;
      counters = c.counters-counters.ensures;
      phases = c.into_lists-lists.ensures.phases keeps;
      hards = c.hards-hards.ensures;
      errors = c.errors-errors.ensures;
      unsent = c.unsent-unsent.ensures;
    })
