use Rattle.std.proofs.Common.{◌∙◌, ap, sym, subst, Ok}
use Rattle.std.specs.Str.{IsUtf8}
use Rattle.wl_parts.proofs.Digits.{decimal_utf8, number_parsed, number_unparsed}
use Rattle.wl_parts.proofs.read.number_of.Goals as goal

pub returns-in-Ok-parse : goal.returns-in-Ok-parse
returns-in-Ok-parse c = λ n fits e.
    ap (λ m. Ok m) (number_parsed n c.in-Ok-parse.number c.in-Ok.digits.now fits (c.in-Ok.ensures.cases.0 ∙ e) c.in-Ok-parse.ensures.value.0)

pub returns-in-Err-parse : goal.returns-in-Err-parse
returns-in-Err-parse c = λ n fits e.
    absurd (number_unparsed _ n c.in-Ok.digits.now c.in-Err-parse.field-0 fits (c.in-Ok.ensures.cases.0 ∙ e) c.in-Err-parse.ensures.value.0)

pub returns-in-Err : goal.returns-in-Err
returns-in-Err c = λ n fits e. absurd (c.in-Err.ensures.cases.0 (subst IsUtf8 (sym e) (decimal_utf8 n fits)))
