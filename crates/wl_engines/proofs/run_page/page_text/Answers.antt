use Rattle.wl_engines.proofs.PageProofs.{pages_bus}
use Rattle.wl_engines.proofs.run_page.page_text.Goals as goal

pub returns-in-Ok : goal.returns-in-Ok
returns-in-Ok g c =
    pages_bus g.W.Sink.takes c.args.tick c.args.asked c.args.text.now c.args.writer.now c.write_made.new.writer c.in-Ok.bus c.in-Ok.ensures.answer
    c.page_of_bus.result c.write_made.result c.write_made.ensures c.page_of_bus.ensures
