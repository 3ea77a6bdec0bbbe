use Rattle.std.proofs.Common.{◌∙◌, ◌++◌, codes, refl}
use Rattle.wl_parts.specs.Text.{found_words, number_words, sweep_words}
use Rattle.wl_parts.proofs.Answered.{sets_err}
use Rattle.wl_parts.proofs.read.part.Goals as goal

pub returns-in_err-number_of_part : goal.returns-in_err-number_of_part
returns-in_err-number_of_part c = λ p rest fits e.
    sets_err c.from_residual.result c.in_err-number_of_part.field-0.0 _ p rest c.from_residual.ensures.1
    (c.in_err-number_of_part.ensures p.number (codes "\"of\":" ++ number_words p.count 44 (sweep_words p (found_words p.found rest))) fits.number refl e)

pub returns-in_err-count : goal.returns-in_err-count
returns-in_err-count c = λ p rest fits e.
    let first = c.in_ok-number_of_part.ensures p.number (codes "\"of\":" ++ number_words p.count 44 (sweep_words p (found_words p.found rest))) fits.number refl e in
    sets_err c.from_residual-in_err-count.result c.in_err-count.field-0.0 _ p rest c.from_residual-in_err-count.ensures.1
    (c.in_err-count.ensures p.count (sweep_words p (found_words p.found rest)) fits.count refl first.1)

pub returns-in_err-rest : goal.returns-in_err-rest
returns-in_err-rest c = λ p rest fits e.
    let first = c.in_ok-number_of_part.ensures p.number (codes "\"of\":" ++ number_words p.count 44 (sweep_words p (found_words p.found rest))) fits.number refl e in
    let second = c.in_ok-count.ensures p.count (sweep_words p (found_words p.found rest)) fits.count refl first.1 in
    sets_err c.from_residual-in_err-rest.result c.in_err-rest.field-0.0 _ p rest c.from_residual-in_err-rest.ensures.1
    (c.in_err-rest.ensures p (found_words p.found rest) fits.words second.1)

pub returns-in_err-rest-2 : goal.returns-in_err-rest-2
returns-in_err-rest-2 c = λ p rest fits e.
    let first = c.in_ok-number_of_part.ensures p.number (codes "\"of\":" ++ number_words p.count 44 (sweep_words p (found_words p.found rest))) fits.number refl e in
    let second = c.in_ok-count.ensures p.count (sweep_words p (found_words p.found rest)) fits.count refl first.1 in
    let third = c.in_ok-rest.ensures p (found_words p.found rest) fits.words second.1 in
    sets_err c.from_residual-in_err-rest-2.result c.in_err-rest-2.field-0.0 _ p rest c.from_residual-in_err-rest-2.ensures.1
    (c.in_err-rest-2.ensures p.found rest fits.found third.1)

pub returns : goal.returns
returns c = λ p rest fits e.
    let first = c.in_ok-number_of_part.ensures p.number (codes "\"of\":" ++ number_words p.count 44 (sweep_words p (found_words p.found rest))) fits.number refl e in
    let second = c.in_ok-count.ensures p.count (sweep_words p (found_words p.found rest)) fits.count refl first.1 in
    let third = c.in_ok-rest.ensures p (found_words p.found rest) fits.words second.1 in
    let fourth = c.in_ok-rest-2.ensures p.found rest fits.found third.1 in (
      λ i. record {
        of = (third.0 i).of;
        number = ((λ j. (third.0 j).number) ∙ first.0) i;
        count = ((λ j. (third.0 j).count) ∙ second.0) i;
        words = (third.0 i).words;
        members = (third.0 i).members;
        tail = (third.0 i).tail;
        found = fourth.0 i;
      },
      fourth.1,
    )
