use Rattle.wl_replica.proofs.TextLengths.{stays_a_text}
use Rattle.wl_replica.proofs.laws.canonical_stays_a_text.Goals as goal

pub returns : goal.returns
returns c = stays_a_text
