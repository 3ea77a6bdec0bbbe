use Rattle.std.proofs.Common.{string_bytes}
use Rattle.wl_engines.specs.Judged.{IsJudged}
use Rattle.wl_engines.proofs.Answering.{answers_text}
use Rattle.wl_engines.proofs.judge.judge_to.Goals as goal

-- the lines on the text's bus went out, and its judgement is answered
pub returns : goal.returns
returns g c =
    let said = c.in_ok-answer.answer in
    answers_text (IsJudged c.args.tick c.args.explain) g.W.Sink.takes c.args.writer.now c.write_answer.new.writer c.args.text.now (string_bytes said.text)
    c.as_bytes.result.now said.judgement c.as_bytes.ensures.value
    (c.in_ok-plain.plain, c.in_ok-bus.bus, c.in_ok-plain.ensures.read, c.in_ok-bus.ensures.answer, c.in_ok-answer.ensures.judgement, c.in_ok-answer.ensures.text)
    c.write_answer.result c.write_answer.ensures
