-- The plan was opened, and got what is asked for, of the reader's text or of a file's.
use Rattle.std.proofs.Common.{refl, sym, subst, option_map, inr, List, Option}
use Rattle.clap.specs.Words.{Text}
use Rattle.wl_settings.specs.declared.topics.AskedWord.{AskedWord}
use Rattle.wl_sim.specs.Orders.{AppliesFrom, AppliesTo}
use Rattle.wl_sim.proofs.perform_applied.Goals as goal

pub returns-in-None : goal.returns-in-None
returns-in-None g c =
    let opened = subst (λ (name : Text). g.F.Folder.opens c.args.folder.now name c.in-Ok.plan) c.as_str.ensures c.in-Ok.ensures in
    let asked = subst (λ (asked : List AskedWord). AppliesTo g.R.Source.gives g.F.Reader.Source.gives g.W.Sink.takes g.F.Writer.Sink.takes g.F.Folder.stands g.F.Folder.holds c.args.reader.now c.apply_to.new.reader c.in-Ok.plan c.apply_to.new.plan c.args.writer.now c.apply_to.new.writer c.args.folder.now c.apply_to.new.folder c.args.tick asked (option_map (λ n. n.now) c.as_ref.result) c.apply_to.result)
    c.as_slice.ensures.value c.apply_to.ensures in
    let applied = subst (λ (output : Option Text). AppliesTo g.R.Source.gives g.F.Reader.Source.gives g.W.Sink.takes g.F.Writer.Sink.takes g.F.Folder.stands g.F.Folder.holds c.args.reader.now c.apply_to.new.reader c.in-Ok.plan c.apply_to.new.plan c.args.writer.now c.apply_to.new.writer c.args.folder.now c.apply_to.new.folder c.args.tick c.args.order.now.asked.items output c.apply_to.result)
    c.as_ref.ensures.value asked in
    let from = subst (λ (input : Option Text). AppliesFrom g.R.Source.gives g.W.Sink.takes g.F.Reader.Source.gives g.F.Writer.Sink.takes g.F.Folder.opens g.F.Folder.stands g.F.Folder.holds c.args.reader.now c.apply_to.new.reader c.args.writer.now c.apply_to.new.writer c.args.folder.now c.apply_to.new.folder input c.in-Ok.plan c.apply_to.new.plan c.args.tick c.args.order.now.asked.items c.args.order.now.output c.apply_to.result)
    (sym c.in-None.is) applied in
    inr (c.in-Ok.plan, c.apply_to.new.plan, opened, from)

pub returns : goal.returns
returns g c =
    let opened = subst (λ (name : Text). g.F.Folder.opens c.args.folder.now name c.in-Ok.plan) c.as_str.ensures c.in-Ok.ensures in
    let read = subst (λ (name : Text). g.F.Folder.opens c.args.folder.now name c.in-Ok-open.file) c.as_str-in-Some.ensures c.in-Ok-open.ensures in
    let asked = subst (λ (asked : List AskedWord). AppliesTo g.F.Reader.Source.gives g.F.Reader.Source.gives g.W.Sink.takes g.F.Writer.Sink.takes g.F.Folder.stands g.F.Folder.holds c.in-Ok-open.file c.apply_to-in-Some.new.reader c.in-Ok.plan c.apply_to-in-Some.new.plan c.args.writer.now c.apply_to-in-Some.new.writer c.args.folder.now c.apply_to-in-Some.new.folder c.args.tick asked (option_map (λ n. n.now) c.as_ref.result) c.apply_to-in-Some.result)
    c.as_slice.ensures.value c.apply_to-in-Some.ensures in
    let applied = subst (λ (output : Option Text). AppliesTo g.F.Reader.Source.gives g.F.Reader.Source.gives g.W.Sink.takes g.F.Writer.Sink.takes g.F.Folder.stands g.F.Folder.holds c.in-Ok-open.file c.apply_to-in-Some.new.reader c.in-Ok.plan c.apply_to-in-Some.new.plan c.args.writer.now c.apply_to-in-Some.new.writer c.args.folder.now c.apply_to-in-Some.new.folder c.args.tick c.args.order.now.asked.items output c.apply_to-in-Some.result)
    c.as_ref.ensures.value asked in
    let from = subst (λ (input : Option Text). AppliesFrom g.R.Source.gives g.W.Sink.takes g.F.Reader.Source.gives g.F.Writer.Sink.takes g.F.Folder.opens g.F.Folder.stands g.F.Folder.holds c.args.reader.now c.args.reader.now c.args.writer.now c.apply_to-in-Some.new.writer c.args.folder.now c.apply_to-in-Some.new.folder input c.in-Ok.plan c.apply_to-in-Some.new.plan c.args.tick c.args.order.now.asked.items c.args.order.now.output c.apply_to-in-Some.result)
    (sym c.in-Some.is) (refl, inr (c.in-Ok-open.file, c.apply_to-in-Some.new.reader, read, applied)) in
    inr (c.in-Ok.plan, c.apply_to-in-Some.new.plan, opened, from)
