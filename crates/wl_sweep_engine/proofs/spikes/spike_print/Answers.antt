use Rattle.std.proofs.Common.{◌∙◌, sym, map, string_bytes, refl, inl, inr}
use Rattle.wl_spikes.specs.Words.{spiked_at}
use Rattle.wl_sweep_engine.specs.Asked.{checked_options}
use Rattle.wl_sweep_engine.specs.Spiking.{RefusesSpike, WritesSpike, printed_spike}
use Rattle.wl_sweep_engine.proofs.Refusing.{fine_here, printed_fine, refused_by}
use Rattle.wl_sweep_engine.proofs.Spiking.{spiked_by, unread_by}
use Rattle.wl_sweep_engine.proofs.spikes.spike_print.Goals as goal

pub returns-in_err-text : goal.returns-in_err-text
returns-in_err-text g c =
    let gives = g.R.Source.gives in
    let takes = g.W.Sink.takes in
    let words = map string_bytes c.args.words.now in
    let asked = c.args.asked in
    let s = c.args.reader.now in
    let after = c.read_text.new.reader in
    let t = c.args.writer.now in
    let fault = c.in_err-text.field-0.0 in
    unread_by gives takes words asked s after t (checked_options asked.options) (RefusesSpike gives takes words asked s after t t c.args.number)
    (WritesSpike gives takes words asked s after t t c.args.number) (λ e refuses. inr refuses) (sym c.check_options.ensures ∙ c.in_ok-check_options.was) fault
    (λ known. c.in_err-text.ensures (λ h. known cc)) c.from_residual-in_err-text.result c.from_residual-in_err-text.ensures.1

pub returns-in_err-spikes : goal.returns-in_err-spikes
returns-in_err-spikes g c =
    let gives = g.R.Source.gives in
    let takes = g.W.Sink.takes in
    let words = map string_bytes c.args.words.now in
    let asked = c.args.asked in
    let s = c.args.reader.now in
    let after = c.read_text.new.reader in
    let t = c.args.writer.now in
    spiked_by gives takes words asked s after t (checked_options asked.options) (RefusesSpike gives takes words asked s after t t c.args.number)
    (WritesSpike gives takes words asked s after t t c.args.number) (λ e refuses. inr refuses) (sym c.check_options.ensures ∙ c.in_ok-check_options.was)
    c.in_ok-text.text (c.in_ok-text.ensures (λ h. cc)) c.in_err-spikes.field-0.0 c.in_err-spikes.ensures c.from_residual-in_err-spikes.result
    c.from_residual-in_err-spikes.ensures.1

pub returns-in_err-text-2 : goal.returns-in_err-text-2
returns-in_err-text-2 g c =
    let gives = g.R.Source.gives in
    let takes = g.W.Sink.takes in
    let words = map string_bytes c.args.words.now in
    let asked = c.args.asked in
    let s = c.args.reader.now in
    let after = c.read_text.new.reader in
    let t = c.args.writer.now in
    let spikes = c.in_ok-spikes.spikes in
    let e = c.in_err-text-2.field-0.0 in
    refused_by (RefusesSpike gives takes words asked s after t t c.args.number) (WritesSpike gives takes words asked s after t t c.args.number) t t refl e
    (λ n. fine_here (printed_spike spikes c.args.number) e (printed_fine c.args.number (spiked_at spikes c.args.number)) (c.in_err-text-2.ensures.fault n))
    (λ n. inl (
      sym c.check_options.ensures ∙ c.in_ok-check_options.was,
      spikes,
      (c.in_ok-text.text, c.in_ok-text.ensures (λ h. cc), c.in_ok-spikes.ensures),
      c.in_err-text-2.ensures.fault n,
    ))
    c.from_residual-in_err-text-2.result c.from_residual-in_err-text-2.ensures.1
