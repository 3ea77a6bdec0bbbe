use Rattle.std.proofs.Common.{◌<◌, ◌∙◌, sym, ap, subst}
use Rattle.std.specs.Option.{option_copied}
use Rattle.wl_machine.specs.States.{sample_of}
use Rattle.wl_wire.specs.InStep.{is_fine}
use Rattle.wl_wire.specs.Wire.{idle_wire, wire_after}
use Rattle.wl_wire.proofs.Events.{count_after}
use Rattle.wl_wire.proofs.sample.Goals as goal

pub returns-clause-in_step : goal.returns-clause-in_step
returns-clause-in_step c = λ count frames events sound event k lt m e.
    ap is_fine (c.bit.ensures.happened ((wire_after (idle_wire count frames) events).past k) m)
    ∙ c.machines_stay_in_step.ensures.errors count frames events sound event k (sample_of c.args.level (option_copied c.args.head) c.args.mode)
    (subst (λ n. k < n) (sym (count_after (idle_wire count frames) events)) lt) e
