use Rattle.wl_bound.proofs.FieldsLemmas.{one_number}
use Rattle.wl_bound.proofs.laws.a_field_is_its_number.Goals as goal

pub returns : goal.returns
returns c = λ frame is. one_number frame is
