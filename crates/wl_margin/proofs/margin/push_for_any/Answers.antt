use Rattle.std.proofs.Common.{◌∙◌, ◌++◌, ap, string_bytes}
use Rattle.wl_margin.specs.Margins.{any_lead, senders_words}
use Rattle.wl_margin.proofs.Callers.{grown_twice}
use Rattle.wl_margin.proofs.margin.push_for_any.Goals as goal

pub returns : goal.returns
returns c =
    grown_twice c.push_pairs.result (string_bytes c.args.text.now) (string_bytes c.push_any_lead.new.text) (string_bytes c.push_any_reason.new.text)
    (string_bytes c.push_pairs.new.text) _ _ _
    (c.in_ok-push_any_lead.ensures
    ∙ ap (λ p. string_bytes c.args.text.now ++ any_lead (senders_words c.args.family.now c.args.bus.now.names) p) c.proved_of.ensures)
    c.in_ok-push_any_reason.ensures c.push_pairs.ensures
