use Rattle.std.proofs.Common.{◌≡◌, ◌∙◌, ◌++◌, ap, codes, string_bytes, List, ℕ}
use Rattle.std.proofs.lemmas.Result.{IfOk-equal}
use Rattle.wl_init.specs.Texts.{bitrate_lines, clock_line, controller_lines, kind_line, fixed_words, setting_lines}
use Rattle.wl_init.specs.Drafts.{kind_word}
use Rattle.wl_init.specs.declared.text.TheConstants.{REST}
use Rattle.wl_init.proofs.Chains.{after_all, chained}
use Rattle.wl_init.proofs.text.push_controller.Goals as goal

pub returns : goal.returns
returns c =
    let old = string_bytes c.args.text.now in
    let w0 : List ℕ = fixed_words (codes "\n[controller.ecu]  # what the nodes have in common\n") in
    let w1 : List ℕ = kind_line (kind_word c.args.draft.asked.kind) in
    let w2 : List ℕ = clock_line c.args.draft.clock in
    let w3 : List ℕ = bitrate_lines c.args.draft in
    let w4 : List ℕ = setting_lines c.args.draft.setting in
    let w5 : List ℕ = fixed_words REST.now in
    let h0 = c.in_ok-push_said.ensures in
    let h1 = chained old (string_bytes c.push_said.new.text) (string_bytes c.push_kind.new.text) (w0) w1 h0 (c.in_ok-push_kind.ensures ∙ ap (λ n. string_bytes c.push_said.new.text ++ kind_line n) c.kind_word.ensures) in
    let h2 = chained old (string_bytes c.push_kind.new.text) (string_bytes c.push_clock.new.text) (w0 ++ w1) w2 h1 c.in_ok-push_clock.ensures in
    let h3 = chained old (string_bytes c.push_clock.new.text) (string_bytes c.push_bitrate.new.text) (w0 ++ w1 ++ w2) w3 h2 c.in_ok-push_bitrate.ensures in
    let h4 = chained old (string_bytes c.push_bitrate.new.text) (string_bytes c.push_setting.new.text) (w0 ++ w1 ++ w2 ++ w3) w4 h3 c.in_ok-push_setting.ensures in
    IfOk-equal c.push_said-2.result (string_bytes c.push_said-2.new.text) (string_bytes c.push_setting.new.text ++ w5) (old ++ (controller_lines c.args.draft))
    c.push_said-2.ensures (after_all old (string_bytes c.push_setting.new.text) (w0 ++ w1 ++ w2 ++ w3 ++ w4) w5 h4)
