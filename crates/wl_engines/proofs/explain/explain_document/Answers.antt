use Rattle.toml.specs.View.{table_view}
use Rattle.wl_engines.proofs.Explaining.{answer_of, explains_bus}
use Rattle.wl_engines.proofs.explain.explain_document.Goals as goal

pub returns-in-Ok : goal.returns-in-Ok
returns-in-Ok g c =
    explains_bus g.W.Sink.takes c.args.writer.now c.write_doubts.new.writer c.args.text.now c.in-Ok.bus
    (answer_of c.args.text.now (table_view c.args.top.now) _ c.requires.document c.in-Ok.ensures.answer)
    c.write_doubts.result c.write_doubts.ensures
