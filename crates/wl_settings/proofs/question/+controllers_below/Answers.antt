use Rattle.std.proofs.Common.{rules, ◌∙◌, sym, ap, subst, List, Result, Ok}
use Rattle.wl_settings.specs.declared.asked.Controller.{Controller}
use Rattle.wl_settings.specs.declared.fault.SettingsFault.{SettingsFault}
use Rattle.wl_settings.specs.Texts.{IsWantedAnswer}
use Rattle.wl_settings.proofs.ControllersAsked.{none_below, one_more_below}
use Rattle.wl_settings.proofs.question.+controllers_below.Goals as goal

pub returns-then-count-eq0 : goal.returns-then-count-eq0
returns-then-count-eq0 n c = none_below c.args.tick c.args.words.now c.args.count c.if-count-eq0.true ∙ ap Ok (sym c.new.ensures)

pub returns-in_err-all : goal.returns-in_err-all
returns-in_err-all n c =
    subst (λ (r : Result (List Controller) SettingsFault). IsWantedAnswer r c.from_residual.result)
    (sym (one_more_below c.args.tick c.args.words.now c.args.count c.if-count-eq0.false)) (search rules)

pub returns-in_err-nth_controller : goal.returns-in_err-nth_controller
returns-in_err-nth_controller n c =
    subst (λ (r : Result (List Controller) SettingsFault). IsWantedAnswer r c.from_residual-in_err-nth_controller.result)
    (sym (one_more_below c.args.tick c.args.words.now c.args.count c.if-count-eq0.false)) (search rules)

pub returns : goal.returns
returns n c = one_more_below c.args.tick c.args.words.now c.args.count c.if-count-eq0.false ∙ search rules
