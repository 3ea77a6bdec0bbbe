use Rattle.std.proofs.Common.{string_bytes}
use Rattle.wl_margin.specs.Margins.{pair_words}
use Rattle.wl_margin.proofs.Callers.{each_more}
use Rattle.wl_margin.proofs.margin.push_pairs_of.Goals as goal

pub loop-j-preserved : goal.loop-j-preserved
loop-j-preserved c =
    each_more (pair_words c.args.tick c.args.family.now c.args.names.now c.args.senders c.args.i) c.loop-j.j
    (string_bytes c.args.text.now) (string_bytes c.loop-j.text) (string_bytes c.push_pair.new.text) c.loop-j.invariant c.in_ok-push_pair.ensures
