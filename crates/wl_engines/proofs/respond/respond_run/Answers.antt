use Rattle.std.proofs.Common.{List, ℕ, sym, subst}
use Rattle.wl_device.specs.Bounded.{ReadsUpTo}
use Rattle.wl_device.specs.declared.bounded.Ended.TheVariants as ended
use Rattle.wl_setup.specs.Limits.{most_bytes}
use Rattle.wl_engines.specs.Responded.{IsResponse}
use Rattle.wl_engines.proofs.Answering.{answers_whole}
use Rattle.wl_engines.proofs.respond.respond_run.Goals as goal

pub returns-in-End : goal.returns-in-End
returns-in-End g c =
    let items = c.in_ok-text.text.items in
    let reads = subst (λ e. ReadsUpTo g.R.Source.gives c.args.reader.now most_bytes items e c.read_bytes.new.reader) c.in-End.is c.in_ok-text.ensures in
    let text =
    subst (λ (bytes : List ℕ). ReadsUpTo g.R.Source.gives c.args.reader.now most_bytes bytes ended.End c.read_bytes.new.reader)
    (sym c.deref.ensures.value) reads in
    answers_whole (IsResponse c.args.tick c.args.any_data c.args.format) g.R.Source.gives g.W.Sink.takes c.args.reader.now c.read_bytes.new.reader c.args.writer.now c.respond_to.new.writer
    c.deref.result.now text c.respond_to.result c.respond_to.ensures
