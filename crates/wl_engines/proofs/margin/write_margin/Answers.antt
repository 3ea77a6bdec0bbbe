use Rattle.std.proofs.Common.{◌∙◌, ap}
use Rattle.wl_engines.specs.Holding.{is_held}
use Rattle.wl_engines.specs.Margin.{IsMarginOutput}
use Rattle.wl_engines.proofs.OutputLemmas.{outputs_with}
use Rattle.wl_engines.proofs.margin.write_margin.Goals as goal

pub returns : goal.returns
returns g c =
    outputs_with g.W.Sink.takes c.args.writer.now c.write_answer.new.writer (IsMarginOutput c.args.tick c.args.all_send c.args.bus.now) c.in_ok-text.text.items
    c.deref.result.now c.in_ok-holds.holds c.deref.ensures.value
    (c.in_ok-text.ensures, c.in_ok-holds.ensures ∙ ap (λ asked. is_held asked c.args.bus.now) c.asked_by.ensures) c.write_answer.result c.write_answer.ensures
