use Rattle.std.proofs.Common.{◌≡◌, ◌∙◌, ◌++◌, ap, codes, string_bytes, List, ℕ}
use Rattle.std.proofs.lemmas.Result.{IfOk-equal}
use Rattle.wl_init.specs.Texts.{title_words, length_words, nodes_words, rate_words, fixed_words}
use Rattle.wl_init.proofs.Chains.{after_all, chained}
use Rattle.wl_init.proofs.text.push_head.Goals as goal

pub returns : goal.returns
returns c =
    let old = string_bytes c.args.text.now in
    let w0 : List ℕ = nodes_words c.args.draft.asked.nodes in
    let w1 : List ℕ = rate_words c.args.draft.asked.rate in
    let w2 : List ℕ = fixed_words (codes " on a cable of ") in
    let w3 : List ℕ = length_words c.args.draft.asked.cable in
    let w4 : List ℕ = fixed_words (codes ", to begin from: change what differs on yours.\n") in
    let h0 = c.in_ok-push_count.ensures in
    let h1 = chained old (string_bytes c.push_count.new.text) (string_bytes c.push_rate.new.text) (w0) w1 h0 c.in_ok-push_rate.ensures in
    let h2 = chained old (string_bytes c.push_rate.new.text) (string_bytes c.push_said.new.text) (w0 ++ w1) w2 h1 c.in_ok-push_said.ensures in
    let h3 = chained old (string_bytes c.push_said.new.text) (string_bytes c.push_length.new.text) (w0 ++ w1 ++ w2) w3 h2 (c.in_ok-push_length.ensures ∙ ap (λ n. string_bytes c.push_said.new.text ++ length_words n) c.from.ensures) in
    IfOk-equal c.push_said-2.result (string_bytes c.push_said-2.new.text) (string_bytes c.push_length.new.text ++ w4) (old ++ (title_words c.args.draft))
    c.push_said-2.ensures (after_all old (string_bytes c.push_length.new.text) (w0 ++ w1 ++ w2 ++ w3) w4 h3)
