use Rattle.wl_record.proofs.GrammarLemmas.{lines_are_text}
use Rattle.wl_record.proofs.laws.text_law.Goals as goal

pub returns : goal.returns
returns c = λ limits text rs h. lines_are_text limits text rs h.lines h.within
