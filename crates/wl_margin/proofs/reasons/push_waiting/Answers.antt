use Rattle.std.proofs.Common.{◌∙◌, ◌++◌, sym, ap, ap₂, string_bytes}
use Rattle.wl_margin.specs.Reasons.{kept_at, kept_words, waiting_at}
use Rattle.wl_margin.proofs.Callers.{grown_ok}
use Rattle.wl_margin.proofs.Said.{said}
use Rattle.wl_margin.proofs.reasons.push_waiting.Goals as goal

pub returns-in_ok-push_kept-in-Some-first_keeper : goal.returns-in_ok-push_kept-in-Some-first_keeper
returns-in_ok-push_kept-in-Some-first_keeper c =
    let plan = c.args.plan.now in
    let names = c.args.names.now in
    let words = ap (λ o. waiting_at plan names o) (sym c.first_early.ensures.first ∙ c.in-Some.is)
    ∙ ap (λ o. kept_at plan names c.in-Some.i o) (sym c.first_keeper.ensures ∙ c.in-Some-first_keeper.is) in
    said c.push_all_ready.result (string_bytes c.args.text.now) (string_bytes c.push_all_ready.new.text) (sym words)
    (grown_ok c.push_all_ready.result (string_bytes c.args.text.now) (string_bytes c.push_kept.new.text) (string_bytes c.push_all_ready.new.text) _ _
    (c.in_ok-push_kept-in-Some-first_keeper.ensures
    ∙ ap₂ (λ a b. string_bytes c.args.text.now ++ kept_words a b) c.name_of.ensures c.name_of-in-Some-first_keeper.ensures)
    c.push_all_ready.ensures)
