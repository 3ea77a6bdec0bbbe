use Rattle.std.proofs.Common.{◌∙◌, ◌++◌, ap, ap₂, string_bytes}
use Rattle.wl_margin.specs.Reasons.{beyond_words, taken_words}
use Rattle.wl_margin.proofs.Callers.{grown_ok}
use Rattle.wl_margin.proofs.Said.{said}
use Rattle.wl_margin.proofs.reasons.push_stray.Goals as goal

pub returns : goal.returns
returns c =
    grown_ok c.push_taken.result (string_bytes c.args.text.now) (string_bytes c.push_beyond.new.text) (string_bytes c.push_taken.new.text) _ _
    (c.in_ok-push_beyond.ensures ∙ ap (λ ppm. string_bytes c.args.text.now ++ beyond_words c.args.a.now ppm) c.tolerance.ensures.value)
    (said c.push_taken.result (string_bytes c.push_beyond.new.text) (string_bytes c.push_taken.new.text)
    (ap₂ (taken_words c.args.stray) c.least_ticks-least.ensures c.most_ticks-most.ensures) c.push_taken.ensures)
