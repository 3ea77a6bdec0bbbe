use Rattle.std.proofs.Common.{◌≡◌, ◌≤◌, List, None, length, rules, ℕ, string_bytes, subst}
use Rattle.wl_setup.specs.Reading.{document_of}
use Rattle.wl_device.specs.Devices.{Writes}
use Rattle.wl_engines.proofs.Explaining.{no_answer, no_toml}
use Rattle.wl_engines.proofs.explain.explain_text.Goals as goal

pub returns-in_ok-said-in-Err-At : goal.returns-in_ok-said-in-Err-At
returns-in_ok-said-in-Err-At g c =
    let none : (document_of c.args.text.now ≡ None) × (c.in-Err-At.place ≤ length c.args.text.now) = (search rules) in
    let writes =
    subst (λ (bytes : List ℕ). Writes g.W.Sink.takes c.args.writer.now bytes c.write_all.result c.write_all.new.writer)
    c.as_bytes.ensures.value c.write_all.ensures in (
      (λ same. cc),
      no_answer c.args.text.now none.0,
      string_bytes c.in_ok-said-in-Err-At.said,
      no_toml c.args.text.now c.in-Err-At.place _ none.0 none.1 c.in_ok-said-in-Err-At.ensures,
      (c.write_all.result, writes),
    )
