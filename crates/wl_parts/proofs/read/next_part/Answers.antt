use Rattle.std.proofs.Common.{◌≡◌, ◌∙◌, ◌∷◌, [], ◌++◌, ap, subst, arith, length}
use Rattle.wl_parts.specs.declared.part.SweepPart.{SweepPart}
use Rattle.wl_parts.specs.Reading.{OnlyMemory}
use Rattle.wl_parts.specs.Text.{part_words}
use Rattle.wl_parts.proofs.PartTexts.{part_longer}
use Rattle.wl_parts.proofs.read.next_part.Goals as goal

pub returns-then-rest-text-clause-next : goal.returns-then-rest-text-clause-next
returns-then-rest-text-clause-next c = λ p rest fits e.
    let got = c.in-Ok.ensures p rest fits e in
    let longer = part_longer p rest in
    let left : length c.in-Ok.rest.now ≡ length rest = ap length got.1 in
    let whole : length c.args.text.now ≡ length (part_words p rest) = ap length e in
    absurd (omega (arith, longer, left, whole))

pub returns-in-Ok-clause-next : goal.returns-in-Ok-clause-next
returns-in-Ok-clause-next c = λ p rest fits e.
    let got = c.in-Ok.ensures p rest fits e in
    (c.in_ok-push-in-Ok.ensures.ok ∙ ap (λ (q : SweepPart). c.args.parts.now ++ q ∷ []) got.0, got.1)

pub returns-clause-next : goal.returns-clause-next
returns-clause-next c = λ p rest fits e. absurd (subst OnlyMemory c.in-Err-Form.field-0-is (c.in-Err-Form.ensures p rest fits e))
