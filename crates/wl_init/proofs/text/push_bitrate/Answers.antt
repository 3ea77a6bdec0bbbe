use Rattle.std.proofs.Common.{◌≡◌, ◌∙◌, ◌++◌, ap, codes, string_bytes, List, ℕ}
use Rattle.std.proofs.lemmas.Result.{IfOk-equal}
use Rattle.wl_init.specs.Texts.{bitrate_lines, prescaler_words, rate_words, fixed_words}
use Rattle.wl_init.proofs.Chains.{after_all, chained}
use Rattle.wl_init.proofs.text.push_bitrate.Goals as goal

pub returns : goal.returns
returns c =
    let old = string_bytes c.args.text.now in
    let w0 : List ℕ = fixed_words (codes "bitrate = \"") in
    let w1 : List ℕ = rate_words c.args.draft.asked.rate in
    let w2 : List ℕ = prescaler_words c.args.draft.setting.prescaler in
    let h0 = c.in_ok-push_said.ensures in
    let h1 = chained old (string_bytes c.push_said.new.text) (string_bytes c.push_rate.new.text) (w0) w1 h0 c.in_ok-push_rate.ensures in
    IfOk-equal c.push_prescaler.result (string_bytes c.push_prescaler.new.text) (string_bytes c.push_rate.new.text ++ w2) (old ++ (bitrate_lines c.args.draft))
    c.push_prescaler.ensures (after_all old (string_bytes c.push_rate.new.text) (w0 ++ w1) w2 h1)
