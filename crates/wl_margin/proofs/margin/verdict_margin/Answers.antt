use Rattle.std.proofs.Common.{◌∙◌, ◌++◌, ap, ap₂, subst, string_bytes}
use Rattle.wl_margin.specs.Margins.{AreSearchResults, family_words, is_proved, proved_of, results_words, verdict_asked}
use Rattle.wl_margin.specs.Noise.{noise_words}
use Rattle.wl_margin.proofs.Callers.{grown}
use Rattle.wl_margin.proofs.Judged.{text_after}
use Rattle.wl_margin.proofs.margin.verdict_margin.Goals as goal

pub returns-clause-text : goal.returns-clause-text
returns-clause-text c =
    let bus = c.args.bus.now in
    let f = c.args.family.now in
    let judged = verdict_asked c.args.asked bus.plan f in
    let words = family_words c.args.asked c.args.tick bus.deviations bus.plan bus.names f in
    let proved = c.is_proved-proved.ensures ∙ ap₂ is_proved c.proved_of.ensures c.verdict_asked-verdict.ensures in
    let first = c.in_ok-push_verdict.ensures ∙ ap (λ s. s ++ words) c.new-text.ensures.bytes in
    let results = results_words c.search-found.result in
    let second = c.in_ok-push_results.ensures ∙ ap (λ s. s ++ results) first in
    let noise = noise_words c.args.tick f bus.names in
    let third = c.in_ok-push_noise.ensures ∙ ap (λ v. string_bytes c.push_results.new.text ++ noise v) c.verdict_asked-verdict.ensures in
    text_after (is_proved (proved_of c.args.asked bus.deviations bus.plan f) judged) judged words (noise judged) f (string_bytes c.push_noise.new.text)
    c.search-found.result
    (λ cause e. c.in_default.not-NoBound cause (c.verdict_asked-verdict.ensures ∙ e))
    (subst (λ p. AreSearchResults p f c.search-found.result) proved c.search-found.ensures)
    (grown words (string_bytes c.push_results.new.text) (string_bytes c.push_noise.new.text) results (noise judged) second third)
