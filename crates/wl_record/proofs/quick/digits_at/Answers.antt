use Rattle.std.proofs.Common.{arith, refl, sym, ◌∙◌, ◌≡◌, ◌+◌, ◌*◌, ◌<◌, get_or}
use Rattle.std.specs.Char.{digit_value}
use Rattle.std.specs.Str.Parse.{digits_value}
use Rattle.wl_record.proofs.NumberLemmas.{value_of_digit}
use Rattle.wl_record.proofs.QuickLemmas.{between, few_small, one_more}
use Rattle.wl_record.proofs.quick.digits_at.Goals as goal

pub overflow_mul-value : goal.overflow_mul-value
overflow_mul-value c =
    let few = few_small c.args.bytes.now c.args.from c.loop-at.at (omega (arith, c.requires.few)) c.loop-at.invariant.digits in
    omega (arith, few, c.loop-at.invariant.value_is)

pub overflow_add-value : goal.overflow_add-value
overflow_add-value c =
    let few = few_small c.args.bytes.now c.args.from c.loop-at.at (omega (arith, c.requires.few)) c.loop-at.invariant.digits in
    omega (arith, few, c.loop-at.invariant.value_is, c.from.ensures)

pub loop-at-preserved : goal.loop-at-preserved
loop-at-preserved c =
    let bytes = c.args.bytes.now in
    let digit : digit_value (get_or bytes c.loop-at.at 0) < 10 = c.if-is_digit.ensures.0 refl in
    let d : c.from.result ≡ digit_value (get_or bytes c.loop-at.at 0) = c.from.ensures ∙ sym (value_of_digit (get_or bytes c.loop-at.at 0) digit).0 in
    let grown : c.loop-at.value * 10 + c.from.result ≡ digits_value 10 (between c.args.from c.loop-at.at bytes) * 10 + digit_value (get_or bytes c.loop-at.at 0) = (λ i. c.loop-at.invariant.value_is i * 10 + d i) in
    let more = one_more bytes c.args.from c.loop-at.at (c.loop-at.value * 10 + c.from.result) c.loop-at.invariant.begun (omega arith) c.loop-at.invariant.digits digit grown in
    record { begun = omega arith; within = omega arith; digits = more.0; value_is = more.1 }
