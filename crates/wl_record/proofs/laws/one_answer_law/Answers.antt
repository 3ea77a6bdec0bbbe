use Rattle.wl_record.proofs.AnswerLemmas.{one_answer}
use Rattle.wl_record.proofs.laws.one_answer_law.Goals as goal

pub returns : goal.returns
returns c = λ limits text e a b h k. one_answer limits text e a b h k
