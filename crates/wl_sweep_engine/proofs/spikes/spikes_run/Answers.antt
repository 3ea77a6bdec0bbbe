use Rattle.std.proofs.Common.{◌∙◌, sym, subst, map, string_bytes, List, ℕ, Err}
use Rattle.wl_device.specs.Devices.{Writes}
use Rattle.wl_sweep_engine.specs.Asked.{checked_workers}
use Rattle.wl_sweep_engine.specs.Spiking.{RefusesSpikes, WritesSpikes}
use Rattle.wl_sweep_engine.proofs.Refusing.{wrote_by}
use Rattle.wl_sweep_engine.proofs.Spiking.{spiked_by}
use Rattle.wl_sweep_engine.proofs.spikes.spikes_run.Goals as goal

pub returns-in_err-spikes : goal.returns-in_err-spikes
returns-in_err-spikes g c =
    let gives = g.R.Source.gives in
    let takes = g.W.Sink.takes in
    let words = map string_bytes c.args.words.now in
    let asked = c.args.asked in
    let s = c.args.reader.now in
    let after = c.read_text.new.reader in
    let t = c.args.writer.now in
    let checked = checked_workers asked.options c.args.workers.count in
    spiked_by gives takes words asked s after t checked (RefusesSpikes gives takes words asked s after t t checked) (WritesSpikes gives takes words asked s after t t c.args.workers.count)
    (λ e refuses. refuses) (sym c.check_workers.ensures ∙ c.in_ok-check_workers.was) c.in_ok-text.text (c.in_ok-text.ensures (λ h. cc)) c.in_err-spikes.field-0.0
    c.in_err-spikes.ensures c.from_residual-in_err-spikes.result c.from_residual-in_err-spikes.ensures.1

pub returns-in_err-write_all : goal.returns-in_err-write_all
returns-in_err-write_all g c =
    let gives = g.R.Source.gives in
    let takes = g.W.Sink.takes in
    let words = map string_bytes c.args.words.now in
    let asked = c.args.asked in
    let s = c.args.reader.now in
    let after = c.read_text.new.reader in
    let t = c.args.writer.now in
    let t' = c.write_all.new.writer in
    let checked = checked_workers asked.options c.args.workers.count in
    let fault = c.in_err-write_all.field-0.0 in
    wrote_by (RefusesSpikes gives takes words asked s after t t' checked) (WritesSpikes gives takes words asked s after t t' c.args.workers.count) t t' c.in_ok-said.sound
    fault (
      sym c.check_workers.ensures ∙ c.in_ok-check_workers.was,
      c.in_ok-spikes.spikes,
      (c.in_ok-text.text, c.in_ok-text.ensures (λ h. cc), c.in_ok-spikes.ensures),
      c.in_ok-said.ensures.sound,
      subst (λ (bytes : List ℕ). Writes takes t bytes (Err fault) t') (c.as_bytes.ensures.value ∙ c.in_ok-said.ensures.text) c.in_err-write_all.ensures,
    )
    c.from_residual-in_err-write_all.result c.from_residual-in_err-write_all.ensures.1
