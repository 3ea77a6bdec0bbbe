use Rattle.std.proofs.Common.{◌∙◌, ◌||◌, ap₂}
use Rattle.std.proofs.lemmas.Result.{IfOk-weaker}
use Rattle.wl_words.proofs.options.with.Goals as goal

pub returns-clause-app : goal.returns-clause-app
returns-clause-app c = IfOk-weaker c.arg.result _ _ (λ sub h. h.shape c.requires.option) c.arg.ensures

pub returns-clause-local : goal.returns-clause-local
returns-clause-local c = IfOk-weaker c.arg.result _ _ (λ sub h. h.globals ∙ ap₂ (λ x y. x || y) c.requires.sub c.requires.option) c.arg.ensures
