use Rattle.std.proofs.Common.{◌≡◌, ◌∙◌, ◌+◌, ◌*◌, ◌/◌, ◌%◌, ◌<◌, Some, ap, arith}
use Rattle.wl_parts.proofs.Answered.{no_some, same_some}
use Rattle.wl_parts.proofs.Strings.{high_digit}
use Rattle.wl_parts.proofs.read.byte_of.Goals as goal

pub returns-in_err-high : goal.returns-in_err-high
returns-in_err-high c = λ b few high low.
    absurd (no_some (b / 16) (c.in_err-high.ensures.value (b / 16) (omega (arith, few)) (high ∙ high_digit b few)))

pub returns : goal.returns
returns c = λ b few high low.
    let first : c.in_ok-high.high ≡ b / 16 = same_some c.in_ok-high.high (b / 16) (c.in_ok-high.ensures.value (b / 16) (omega (arith, few)) (high ∙ high_digit b few)) in
    let second : c.in_ok-low.low ≡ b % 16 = same_some c.in_ok-low.low (b % 16) (c.in_ok-low.ensures.value (b % 16) (omega (arith, few)) low) in
    ap (λ n. Some n) (omega (arith, first, second))
