use Rattle.std.proofs.Common.{string_bytes}
use Rattle.wl_margin.specs.Margins.{pairs_of}
use Rattle.wl_margin.proofs.Callers.{each_more}
use Rattle.wl_margin.proofs.margin.push_pairs.Goals as goal

pub loop-i-preserved : goal.loop-i-preserved
loop-i-preserved c =
    each_more (pairs_of c.args.tick c.args.family.now c.args.names.now c.args.senders) c.loop-i.i
    (string_bytes c.args.text.now) (string_bytes c.loop-i.text) (string_bytes c.push_pairs_of.new.text) c.loop-i.invariant c.in_ok-push_pairs_of.ensures
