use Rattle.std.proofs.Common.{string_bytes}
use Rattle.wl_margin.proofs.Callers.{grown_ok}
use Rattle.wl_judge.proofs.plan.push_spiked.Goals as goal

pub returns : goal.returns
returns c =
    grown_ok c.push_spike_line.result (string_bytes c.args.text.now) (string_bytes c.push_source.new.text) (string_bytes c.push_spike_line.new.text) _ _
    c.in_ok-push_source.ensures c.push_spike_line.ensures
