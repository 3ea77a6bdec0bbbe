use Rattle.std.proofs.Common.{◌∙◌, ap, sym, Some}
use Rattle.wl_sim.specs.Tasks.{after_sent}
use Rattle.wl_sim.proofs.Written.{sent_bytes}
use Rattle.wl_sim.proofs.formats.write_other.Goals as goal

pub returns-in-Ok-write_all : goal.returns-in-Ok-write_all
returns-in-Ok-write_all g c answer =
    sent_bytes g.W.Sink.takes c.args.writer.now c.write_all.new.writer c.args.format c.args.subject c.args.text.now answer
    c.deref.result.now c.write_all.result _ (c.in-Ok.ensures.bytes ∙ ap Some (sym c.deref.ensures.value)) c.write_all.ensures
    (sym (ap (after_sent answer) c.in-Ok-write_all.is))

pub returns-in-Ok : goal.returns-in-Ok
returns-in-Ok g c answer =
    sent_bytes g.W.Sink.takes c.args.writer.now c.write_all.new.writer c.args.format c.args.subject c.args.text.now answer
    c.deref.result.now c.write_all.result _ (c.in-Ok.ensures.bytes ∙ ap Some (sym c.deref.ensures.value)) c.write_all.ensures
    (sym (ap (after_sent answer) c.in-Err.is))
