use Rattle.std.proofs.Common.{◌∙◌, ◌++◌, ap, string_bytes}
use Rattle.wl_margin.specs.Margins.{one_lead, senders_words}
use Rattle.wl_margin.specs.declared.margin.Proved.{Proved}
use Rattle.wl_margin.proofs.Callers.{grown_thrice}
use Rattle.wl_margin.proofs.margin.push_for_one.Goals as goal

pub returns : goal.returns
returns c =
    grown_thrice c.push_pairs.result (string_bytes c.args.text.now) (string_bytes c.push_one_lead.new.text) (string_bytes c.push_one_reason.new.text)
    (string_bytes c.push_any_failure.new.text) (string_bytes c.push_pairs.new.text) _ _ _ _
    (c.in_ok-push_one_lead.ensures
    ∙ ap (λ (p : Proved). string_bytes c.args.text.now ++ one_lead (senders_words c.args.family.now c.args.bus.now.names) p.one) c.proved_of.ensures)
    c.in_ok-push_one_reason.ensures c.in_ok-push_any_failure.ensures c.push_pairs.ensures
