use Rattle.std.proofs.Common.{string_bytes}
use Rattle.wl_margin.proofs.Callers.{grown_twice}
use Rattle.wl_explain.proofs.explanation.push_doubts.Goals as goal

pub returns : goal.returns
returns c =
    grown_twice c.push_rest.result (string_bytes c.args.text.now) (string_bytes c.push_outside.new.text) (string_bytes c.push_clock_doubts.new.text)
    (string_bytes c.push_rest.new.text) _ _ _
    (rw c.cause_outside.ensures at c.in_ok-push_outside.ensures) c.in_ok-push_clock_doubts.ensures c.push_rest.ensures
