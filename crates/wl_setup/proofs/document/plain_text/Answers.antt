use Rattle.std.proofs.Common.{rules, ◌≡◌, ◌∙◌, None, Err, ap}
use Rattle.std.proofs.lemmas.Result.{err_from_is_err_and}
use Rattle.toml.specs.View.{table_view}
use Rattle.wl_setup.specs.Document.{head_fault, plain_fault, named_plain}
use Rattle.wl_setup.proofs.TableLemmas.{of_disturbances, of_names, of_nodes, refused_so}
use Rattle.wl_setup.proofs.document.plain_text.Goals as goal

pub returns-in_err-rows : goal.returns-in_err-rows
returns-in_err-rows c =
    let top = table_view c.args.top.now in
    let head : head_fault top ≡ None = (search rules) in
    let p = err_from_is_err_and c.from_residual-in_err-rows.result c.from_residual-in_err-rows.ensures.1 in
    refused_so (plain_fault top) (named_plain top) c.in_err-rows.field-0.0 _
    (λ fine. of_nodes top head _ (rw (c.number_at-version.ensures, c.elements_at.ensures) at (c.in_err-rows.ensures fine)))
    (p.1 ∙ ap (λ f. Err f) p.2)

pub returns-in_err-rows-2 : goal.returns-in_err-rows-2
returns-in_err-rows-2 c =
    let top = table_view c.args.top.now in
    let head : head_fault top ≡ None = (search rules) in
    let none = rw (c.number_at-version.ensures, c.elements_at.ensures) at c.in_ok-rows.ensures.0 in
    let p = err_from_is_err_and c.from_residual-in_err-rows-2.result c.from_residual-in_err-rows-2.ensures.1 in
    refused_so (plain_fault top) (named_plain top) c.in_err-rows-2.field-0.0 _
    (λ fine. of_disturbances top head _ none (rw (c.number_at-version.ensures, c.elements_at-2.ensures) at (c.in_err-rows-2.ensures fine)))
    (p.1 ∙ ap (λ f. Err f) p.2)

pub returns-in_err-names : goal.returns-in_err-names
returns-in_err-names c =
    let top = table_view c.args.top.now in
    let head : head_fault top ≡ None = (search rules) in
    let none = rw (c.number_at-version.ensures, c.elements_at.ensures) at c.in_ok-rows.ensures.0 in
    let quiet = rw (c.number_at-version.ensures, c.elements_at-2.ensures) at c.in_ok-rows-2.ensures.0 in
    let p = err_from_is_err_and c.from_residual-in_err-names.result c.from_residual-in_err-names.ensures.1 in
    refused_so (plain_fault top) (named_plain top) c.in_err-names.field-0.0 _
    (λ fine. of_names top head _ none quiet (search rules))
    (p.1 ∙ ap (λ f. Err f) p.2)
