use Rattle.std.proofs.Common.{string_bytes}
use Rattle.wl_explain.specs.Words.{pair_doubts}
use Rattle.wl_margin.proofs.Callers.{each_more}
use Rattle.wl_explain.proofs.words.push_pairs_of.Goals as goal

pub loop-i-preserved : goal.loop-i-preserved
loop-i-preserved c =
    each_more (λ i. pair_doubts c.args.plan.now c.args.names.now i c.args.j) c.loop-i.i (string_bytes c.args.text.now) (string_bytes c.loop-i.text) (string_bytes c.push_pair.new.text)
    c.loop-i.invariant c.in_ok-push_pair.ensures
