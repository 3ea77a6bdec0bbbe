use Rattle.std.proofs.Common.{arith}
use Rattle.std.proofs.lemmas.Grind.{common_steps}
use Rattle.std.proofs.lemmas.List.{map-append}
use Rattle.wl_words.proofs.spikes.with_text.Goals as goal

pub returns : goal.returns
returns c = grind (arith, common_steps, map-append)
