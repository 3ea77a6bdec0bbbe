use Rattle.std.proofs.Common.{arith, ◌≡◌, ◌+◌, ◌≤◌, ◌∙◌, sym, subst, get_or, nat_lt, false}
use Rattle.std.specs.Char.{digit_value}
use Rattle.std.proofs.lemmas.Bool.Decides.{nat_tests}
use Rattle.wl_record.proofs.QuickLemmas.{field_there}
use Rattle.wl_record.proofs.quick.field_at.Goals as goal
use Rattle.wl_record.proofs.quick.field_at.Goals.{then-bytes-from-eq48, else-bytes-from-eq48}

pub returns-clause-field : goal.returns-clause-field
returns-clause-field c =
    let to = c.digits_at-value.result.1 in
    let plain : get_or c.args.bytes.now (c.args.space + 1) 0 ≡ 48 → to ≤ c.args.space + 2 = λ e. elim c.if-bytes-from-eq48.branch [
      | then-bytes-from-eq48 w ↦
          let long : c.if-bytes-from-eq48.value ≡ nat_lt (c.args.space + 1 + 1) c.digits_at-value.result.1 = w.value-is in
          let not_long : nat_lt (c.args.space + 1 + 1) c.digits_at-value.result.1 ≡ false = sym long ∙ c.if-at-from-2.false in
          grind (arith, nat_tests, not_long)
      | else-bytes-from-eq48 w ↦ absurd (w.if-bytes-from-eq48.false e)
    ] in
    let stop : get_or c.args.bytes.now to 0 ≡ c.args.end = omega (arith, c.if-bytes-at.false) in
    field_there c.args.bytes.now c.args.space to c.digits_at-value.result.0 c.requires.space (omega (arith, c.if-at-from.false, c.digits_at-value.ensures.after)) (omega (arith, c.digits_at-value.ensures.most, c.requires.room)) c.digits_at-value.ensures.digits c.digits_at-value.ensures.value plain (subst (λ z. 10 ≤ digit_value z) (sym stop) c.requires.end)
