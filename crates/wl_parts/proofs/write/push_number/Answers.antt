use Rattle.std.proofs.Common.{◌∙◌, ◌∷◌, [], ◌++◌, ap, List, ℕ}
use Rattle.std.specs.Fmt.{decimal}
use Rattle.wl_parts.proofs.Growing.{grown, grown_by}
use Rattle.wl_parts.proofs.write.push_number.Goals as goal

pub returns : goal.returns
returns c =
    let old = c.args.text.now.items in
    let one = c.push.new.text.items in
    let new = c.push-2.new.text.items in
    grown_by old one new (λ rest. decimal c.args.number ++ rest) (λ rest. c.args.last ∷ rest)
    (grown old one (decimal c.args.number) (c.in_ok-push.ensures ∙ ap (λ (digits : List ℕ). old ++ digits) (c.as_bytes.ensures.value ∙ c.in_ok-digits.ensures.ok)))
    (grown one new (c.args.last ∷ []) c.in_ok-push-2.ensures)
