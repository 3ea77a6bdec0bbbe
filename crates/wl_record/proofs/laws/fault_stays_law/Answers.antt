use Rattle.wl_record.proofs.AnswerLemmas.{fault_stays}
use Rattle.wl_record.proofs.laws.fault_stays_law.Goals as goal

pub returns : goal.returns
returns c = λ limits text more e fault h. fault_stays limits text more e fault h
