use Rattle.std.proofs.Common.{false, subst}
use Rattle.wl_engines.specs.declared.kept.Kept.{Kept}
use Rattle.wl_c.proofs.Direct.{answer_made}
use Rattle.wl_c.specs.Made.{IsMade}
use Rattle.wl_engines.specs.Responded.{IsResponse}
use Rattle.wl_engines.specs.declared.reader.TextReader.{TextReader}
use Rattle.wl_c.proofs.engines.response_of.Goals as goal

pub returns : goal.returns
returns c =
    let made = subst (λ a. IsMade a c.respond_run-found.new.writer.bytes.items c.made_by.result) c.without_answer-answer.ensures c.made_by.ensures in
    answer_made (λ (s : TextReader). s.rest.now) (λ (k : Kept). k.bytes.items) (record { rest = c.args.text }) c.respond_run-found.new.reader
    c.new-kept.result c.respond_run-found.new.writer c.new-kept.ensures (IsResponse c.args.tick false c.args.format) c.respond_run-found.result c.made_by.result
    c.respond_run-found.ensures made
