use Rattle.std.proofs.Common.{refl, ap, sym, ◌∙◌, ◌≡◌, ◌+◌, ◌*◌, ◌<◌, take, get_or}
use Rattle.std.specs.Char.{digit_value}
use Rattle.std.specs.Str.Parse.{digits_value}
use Rattle.wl_record.specs.Parsing.{number_as_read}
use Rattle.wl_record.proofs.NumberLemmas.{one_digit_more, capped_more, capped_stays, value_of_digit}
use Rattle.wl_record.proofs.parse.digits.Goals as goal
use Rattle.wl_record.proofs.parse.digits.Goals.{then-value-lt-CAP, else-value-lt-CAP}

pub loop-at-preserved : goal.loop-at-preserved
loop-at-preserved c =
    let byte = get_or c.args.bytes.now c.loop-at.at 0 in
    let so_far = digits_value 10 (take c.loop-at.at c.args.bytes.now) in
    let digit : digit_value (get_or c.args.bytes.now c.loop-at.at 0) < 10 = c.if-is_digit.ensures.0 refl in
    let grown : number_as_read c.if-value-lt-CAP.value ≡ number_as_read (digits_value 10 (take c.loop-at.at c.args.bytes.now) * 10 + digit_value (get_or c.args.bytes.now c.loop-at.at 0)) = elim c.if-value-lt-CAP.branch [
      | then-value-lt-CAP w ↦
          let d : w.from.result ≡ digit_value byte = w.from.ensures ∙ sym (value_of_digit byte digit).0 in
          ap number_as_read (w.value-is ∙ ap (λ z. c.loop-at.value * 10 + z) d) ∙ capped_more so_far c.loop-at.value (digit_value byte) w.if-value-lt-CAP.true c.loop-at.invariant.value_is
      | else-value-lt-CAP w ↦ ap number_as_read w.value-is ∙ capped_stays so_far c.loop-at.value (digit_value byte) w.if-value-lt-CAP.false c.loop-at.invariant.value_is
    ] in
    let more = one_digit_more c.args.bytes.now c.loop-at.at c.if-value-lt-CAP.value c.loop-at-test.true c.loop-at.invariant.digits digit grown in
    record { within = more.0; digits = more.1; value_is = more.2 }
