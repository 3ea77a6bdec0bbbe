use Rattle.std.proofs.Common.{string_bytes}
use Rattle.wl_margin.proofs.Callers.{grown_ok}
use Rattle.wl_judge.proofs.answer.push_pairs.Goals as goal

pub returns : goal.returns
returns c =
    grown_ok c.push_weakest.result (string_bytes c.args.text.now) (string_bytes c.push_source.new.text) (string_bytes c.push_weakest.new.text) _ _
    c.in_ok-push_source.ensures (rw c.weakest_of.ensures.pairs at c.push_weakest.ensures)
