use Rattle.std.proofs.Common.{subst}
use Rattle.std.specs.Prelude.{Result}
use Rattle.wl_sim.specs.Tasks.{WritesFormatted, after_written}
use Rattle.wl_sim.specs.declared.answer.Fault.{Fault}
use Rattle.wl_sim.proofs.formats.write_formatted.Goals as goal

pub returns-in-Ok : goal.returns-in-Ok
returns-in-Ok g c =
    subst (λ (made : Result (Unit {0}) Fault). WritesFormatted g.W.Sink.takes c.args.writer.now c.write_other.new.writer c.args.format c.args.subject c.args.text.now
    c.args.answer (after_written c.args.answer made)) c.in-Ok.is (c.write_other.ensures c.args.answer)

pub returns-in-Err : goal.returns-in-Err
returns-in-Err g c =
    subst (λ (made : Result (Unit {0}) Fault). WritesFormatted g.W.Sink.takes c.args.writer.now c.write_other.new.writer c.args.format c.args.subject c.args.text.now
    c.args.answer (after_written c.args.answer made)) c.in-Err.is (c.write_other.ensures c.args.answer)
