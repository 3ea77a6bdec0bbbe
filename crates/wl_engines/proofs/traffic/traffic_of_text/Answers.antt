use Rattle.std.proofs.Common.{string_bytes}
use Rattle.wl_engines.specs.TrafficRun.{IsTrafficOutput}
use Rattle.wl_engines.proofs.Answering.{answers_text}
use Rattle.wl_engines.proofs.traffic.traffic_of_text.Goals as goal

-- the traffic of the text's plan went out, and its reason is answered
pub returns : goal.returns
returns g c =
    let found = c.in_ok-found.found in
    answers_text (IsTrafficOutput c.args.tick) g.W.Sink.takes c.args.writer.now c.write_answer.new.writer c.args.text.now (string_bytes found.text)
    c.as_bytes.result.now found.reason c.as_bytes.ensures.value
    (c.in_ok-plain.plain, c.in_ok-bus.bus, c.in_ok-plain.ensures.read, c.in_ok-bus.ensures.answer, c.in_ok-found.ensures.reason, c.in_ok-found.ensures.text)
    c.write_answer.result c.write_answer.ensures
