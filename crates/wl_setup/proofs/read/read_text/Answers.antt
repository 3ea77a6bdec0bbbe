use Rattle.std.proofs.Common.{Err, ap, ◌∙◌}
use Rattle.std.proofs.lemmas.Result.{err_from_is_err_and}
use Rattle.wl_setup.proofs.ReadLemmas.{refused}
use Rattle.wl_setup.proofs.read.read_text.Goals as goal

pub returns-in_err-text : goal.returns-in_err-text
returns-in_err-text g c =
    let p = err_from_is_err_and c.from_residual.result c.from_residual.ensures.1 in
    refused g.R.Source.gives c.args.reader.now c.read_named.new.reader c.in_err-text.field-0.0 c.from_residual.result c.in_err-text.ensures.fault (p.1 ∙ ap (λ f. Err f) p.2)
