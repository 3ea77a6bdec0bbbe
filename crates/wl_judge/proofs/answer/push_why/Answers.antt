use Rattle.std.proofs.Common.{string_bytes}
use Rattle.wl_margin.proofs.Callers.{grown_ok}
use Rattle.wl_judge.proofs.answer.push_why.Goals as goal

pub returns : goal.returns
returns c =
    grown_ok c.push_standing_reasons.result (string_bytes c.args.text.now) (string_bytes c.push_source.new.text)
    (string_bytes c.push_standing_reasons.new.text) _ _ c.in_ok-push_source.ensures c.push_standing_reasons.ensures
