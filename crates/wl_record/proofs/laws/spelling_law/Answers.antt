use Rattle.wl_record.proofs.GrammarLemmas.{spelled_is_written, written_is_spelled}
use Rattle.wl_record.proofs.laws.spelling_law.Goals as goal

pub returns : goal.returns
returns c = λ limits line r w. (spelled_is_written limits line r w, written_is_spelled limits line r w)
