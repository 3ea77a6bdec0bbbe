use Rattle.std.proofs.Common.{◌∙◌, ℕ, subst}
use Rattle.wl_lines.specs.Formats.{written_as}
use Rattle.wl_respond.specs.Texts.{AreLinesOfBus}
use Rattle.wl_engines.specs.Responded.{IsResponse}
use Rattle.wl_engines.proofs.Answering.{answers_text}
use Rattle.wl_engines.proofs.respond.respond_to.Goals as goal

-- how long the messages of the text's bus may wait went out, and whether all deadlines are met is answered
pub returns : goal.returns
returns g c =
    let said = c.in_ok-response.response in
    let bus = c.in_ok-bus.bus in
    let plain = c.in_ok-plain.plain in
    let are = subst (λ (n : ℕ). AreLinesOfBus n c.args.any_data plain bus said.lines.items said.met) c.picoseconds.ensures.value c.in_ok-response.ensures in
    let shows = c.in_ok-bytes.ensures ∙ (λ k. written_as c.args.format (c.respond_outline.ensures k) (c.deref.ensures.value k)) in
    answers_text (IsResponse c.args.tick c.args.any_data c.args.format) g.W.Sink.takes c.args.writer.now c.write_answer.new.writer c.args.text.now
    c.in_ok-bytes.bytes.items c.deref-2.result.now said.met c.deref-2.ensures.value
    (plain, bus, said.lines.items, c.in_ok-plain.ensures.read, c.in_ok-bus.ensures.answer, are, shows)
    c.write_answer.result c.write_answer.ensures
