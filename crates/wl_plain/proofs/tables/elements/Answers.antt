use Rattle.wl_plain.proofs.TableLemmas.{elements-array}
use Rattle.wl_plain.proofs.tables.elements.Goals as goal

pub returns-in-Some : goal.returns-in-Some
returns-in-Some c = rw c.as_slice.ensures.value (elements-array _ _ c.in-Some.ensures)
