use Rattle.std.proofs.Common.{◌∙◌, ◌++◌, ap, ap₂, sym, arith, append-nil, append_assoc, [], ◌∷◌}
use Rattle.wl_views.proofs.Lists.{last_digit, no_digit}
use Rattle.wl_views.proofs.digits.+push_digits.Goals as goal

pub returns-then-count-eq0 : goal.returns-then-count-eq0
returns-then-count-eq0 t c =
    sym (ap (λ ys. c.args.text.now.items ++ ys) (no_digit c.args.base c.args.count c.args.number (omega arith)) ∙ append-nil c.args.text.now.items)

pub returns : goal.returns
returns t c =
    c.in_ok-push.ensures.items
    ∙ ap₂ (λ ys digit. ys ++ digit ∷ []) c.in_ok-push_digits.ensures c.glyph.ensures
    ∙ append_assoc c.args.text.now.items _ _
    ∙ ap (λ ys. c.args.text.now.items ++ ys) (sym (last_digit c.args.base c.args.count c.args.number (omega arith)))
