use Rattle.std.proofs.Common.{◌≡◌, ◌∙◌, ◌+◌, ◌++◌, ◌/◌, ◌%◌, [], ◌∷◌, List, ℕ, ap, sym, arith, append_assoc}
use Rattle.std.specs.Fmt.{decimal}
use Rattle.std.proofs.lemmas.Fmt.{decimal_digit, decimal_step}
use Rattle.wl_views.proofs.lines.push_small.Goals as goal

pub returns-then-number-lt10-clause-bytes : goal.returns-then-number-lt10-clause-bytes
returns-then-number-lt10-clause-bytes c =
    c.push.ensures.items ∙ ap (λ (more : List ℕ). c.args.text.now.items ++ more) (sym (decimal_digit c.args.number (omega (arith, c.if-number-lt10.true))))

pub returns-then-number-lt100-clause-bytes : goal.returns-then-number-lt100-clause-bytes
returns-then-number-lt100-clause-bytes c =
    let n : ℕ = c.args.number in
    let old : List ℕ = c.args.text.now.items in
    let two : decimal n ≡ (48 + n / 10) ∷ (48 + n % 10) ∷ [] =
    decimal_step n (omega (arith, c.if-number-lt10.false)) (omega (arith, c.if-number-lt100.true))
    ∙ ap (λ (more : List ℕ). more ++ (48 + n % 10) ∷ []) (decimal_digit (n / 10) (omega (arith, c.if-number-lt100.true))) in
    c.push-then-number-lt100-2.ensures.items ∙ ap (λ (more : List ℕ). more ++ (48 + n % 10) ∷ []) c.push-then-number-lt100.ensures.items
    ∙ append_assoc old ((48 + n / 10) ∷ []) ((48 + n % 10) ∷ [])
    ∙ ap (λ (more : List ℕ). old ++ more) (sym two)
