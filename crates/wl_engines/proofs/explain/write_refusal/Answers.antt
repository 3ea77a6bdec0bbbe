use Rattle.std.proofs.Common.{List, ℕ, string_bytes, subst, ◌∙◌, ap}
use Rattle.toml.specs.View.{table_view}
use Rattle.wl_device.specs.Devices.{Writes}
use Rattle.wl_explain.specs.Refusals.{refusal_words}
use Rattle.wl_engines.proofs.Explaining.{answer_of, refusal_of}
use Rattle.wl_engines.proofs.explain.write_refusal.Goals as goal

pub returns : goal.returns
returns g c text document =
    let top = table_view c.args.top.now in
    let fault = c.args.placed.fault in
    let refused = c.requires c.in_default.not-Memory in
    let writes =
    subst (λ (bytes : List ℕ). Writes g.W.Sink.takes c.args.writer.now bytes c.write_all.result c.write_all.new.writer)
    c.as_bytes.ensures.value c.write_all.ensures in (
      c.in_default.not-Memory,
      answer_of text top _ document refused.0,
      string_bytes c.in_ok-said.said,
      refusal_of text top fault _ document (c.in_ok-said.ensures ∙ ap (λ path. refusal_words top path fault) refused.1),
      (c.write_all.result, writes),
    )
