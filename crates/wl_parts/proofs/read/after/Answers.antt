use Rattle.std.proofs.Common.{None}
use Rattle.std.proofs.lemmas.Bool.Decides.{Decides-eqb}
use Rattle.std.proofs.lemmas.Slice.Eq.{strip_prefix_is}
use Rattle.wl_parts.proofs.read.after.Goals as goal

pub returns-in-None : goal.returns-in-None
returns-in-None c = λ rest e. strip_prefix_is Decides-eqb c.args.text.now c.args.words.now None c.in-None.ensures.cases rest e
