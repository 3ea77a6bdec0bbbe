use Rattle.std.proofs.Common.{string_bytes}
use Rattle.wl_engines.specs.Explained.{IsExplanationOf}
use Rattle.wl_engines.proofs.OutputLemmas.{outputs_with}
use Rattle.wl_engines.proofs.explain.write_doubts.Goals as goal

pub returns : goal.returns
returns g c =
    let said = c.in_ok-explained.explained in
    outputs_with g.W.Sink.takes c.args.writer.now c.write_answer.new.writer (IsExplanationOf c.args.text.now c.args.bus.now) (string_bytes said.text)
    c.as_bytes.result.now said.doubted c.as_bytes.ensures.value c.in_ok-explained.ensures c.write_answer.result c.write_answer.ensures
