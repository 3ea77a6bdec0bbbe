use Rattle.std.proofs.Common.{arith}
use Rattle.std.proofs.lemmas.Str.Pattern.{strip_prefix_char}
use Rattle.wl_sweep.proofs.Varied.{after_is}
use Rattle.wl_sweep.proofs.vary.after_plus.Goals as goal

pub returns : goal.returns
returns c = after_is 43 c.args.text.now c.strip_prefix.result (strip_prefix_char 43 c.args.text.now c.strip_prefix.result c.strip_prefix.ensures.cases (omega arith))
