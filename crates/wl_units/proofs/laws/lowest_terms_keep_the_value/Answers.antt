use Rattle.wl_units.proofs.Terms.{keeps}
use Rattle.wl_units.specs.Ratios.{greatest_common}
use Rattle.wl_units.proofs.laws.lowest_terms_keep_the_value.Goals as goal

pub returns : goal.returns
returns c num den = keeps (greatest_common num den) num den
