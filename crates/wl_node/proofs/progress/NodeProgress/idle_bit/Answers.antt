-- What the bit asks for is read off.
use Rattle.std.proofs.Common.{◌∙◌, sym}
use Rattle.wl_level.proofs.Callers.{same_equal}
use Rattle.wl_node.proofs.progress.NodeProgress.idle_bit.Goals as goal

pub returns-clause-rests : goal.returns-clause-rests
returns-clause-rests c n e = record {
  free = λ past is. sym (c.is_free.ensures.sort past is) ∙ c.if-not-is_free.false;
  settled = same_equal c.args.self.now.drive c.args.self.now.traffic.pending (sym c.is.ensures ∙ c.if-not-is.false);
  bit = c.resting_bit.ensures.rests n e;
  stays = c.is_free.ensures.stays c.if-not-is_free.false;
}
