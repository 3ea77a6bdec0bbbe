use Rattle.std.proofs.Common.{◌∙◌, ap, length, take, drop}
use Rattle.std.specs.Fmt.{decimal}
use Rattle.wl_parts.specs.Text.{number_words}
use Rattle.wl_parts.proofs.Digits.{number_count, number_digits, number_rest}
use Rattle.wl_parts.proofs.Answered.{gives_err, no_ok, no_some, same_ok, same_some}
use Rattle.wl_parts.proofs.read.number.Goals as goal

pub returns-in_err-number-in-Some : goal.returns-in_err-number-in-Some
returns-in_err-number-in-Some c = λ n rest fits other e.
    let t = c.in_ok-text.text.now in
    let is = c.in_ok-text.ensures (number_words n c.args.last rest) e in
    let count = same_some c.in-Some.count (length (decimal n)) (c.in-Some.ensures.place ∙ number_count t n c.args.last rest fits is other) in
    absurd (no_ok c.in_err-number-in-Some.field-0.0 n
    (c.in_err-number-in-Some.ensures n fits (c.split_at.ensures.front ∙ ap (λ k. take k t) count ∙ number_digits t n c.args.last rest fits is)))

pub returns-in_err-rest-in-Some : goal.returns-in_err-rest-in-Some
returns-in_err-rest-in-Some c = λ n rest fits other e.
    let t = c.in_ok-text.text.now in
    let is = c.in_ok-text.ensures (number_words n c.args.last rest) e in
    let count = same_some c.in-Some.count (length (decimal n)) (c.in-Some.ensures.place ∙ number_count t n c.args.last rest fits is other) in
    gives_err c.from_residual-in_err-rest-in-Some.result c.in_err-rest-in-Some.field-0.0 n rest c.from_residual-in_err-rest-in-Some.ensures.1
    (c.in_err-rest-in-Some.ensures rest (c.split_at.ensures.back ∙ ap (λ k. drop k t) count ∙ number_rest t n c.args.last rest fits is))

pub returns-in_ok-rest-in-Some : goal.returns-in_ok-rest-in-Some
returns-in_ok-rest-in-Some c = λ n rest fits other e.
    let t = c.in_ok-text.text.now in
    let is = c.in_ok-text.ensures (number_words n c.args.last rest) e in
    let count = same_some c.in-Some.count (length (decimal n)) (c.in-Some.ensures.place ∙ number_count t n c.args.last rest fits is other) in (
      same_ok c.in_ok-number-in-Some.number n
          (c.in_ok-number-in-Some.ensures n fits (c.split_at.ensures.front ∙ ap (λ k. take k t) count ∙ number_digits t n c.args.last rest fits is)),
      c.in_ok-rest-in-Some.ensures rest (c.split_at.ensures.back ∙ ap (λ k. drop k t) count ∙ number_rest t n c.args.last rest fits is),
    )

pub returns-in-None : goal.returns-in-None
returns-in-None c = λ n rest fits other e.
    no_some (length (decimal n))
    (c.in-None.ensures.place ∙ number_count c.in_ok-text.text.now n c.args.last rest fits (c.in_ok-text.ensures (number_words n c.args.last rest) e) other)
