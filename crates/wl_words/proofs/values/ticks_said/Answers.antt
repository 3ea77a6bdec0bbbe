-- A text that is a number says it; else it is asked for a time.
use Rattle.std.proofs.Common.{◌∙◌, ap}
use Rattle.wl_units.specs.Scales.{number_said}
use Rattle.wl_units.specs.declared.quantity.Measure.TheVariants.{Time}
use Rattle.wl_words.proofs.Words.{said_read, said_unread}
use Rattle.wl_words.proofs.values.ticks_said.Goals as goal

pub returns-in-Ok : goal.returns-in-Ok
returns-in-Ok c = said_read c.args.tick c.args.text.now c.in-Ok.ticks c.in-Ok.ensures.value.0

pub returns-in-Err : goal.returns-in-Err
returns-in-Err c =
    c.number_said.ensures.number ∙ (ap (λ scale. number_said Time scale c.args.text.now) c.tick_scale.ensures
    ∙ said_unread c.args.tick c.args.text.now c.in-Err.ensures.value.0)
