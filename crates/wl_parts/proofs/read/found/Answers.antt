use Rattle.std.proofs.Common.{◌++◌, codes, refl, length}
use Rattle.wl_parts.specs.Text.{each_words, first_words, row_counts_words}
use Rattle.wl_parts.proofs.Answered.{sets_err, sets_left}
use Rattle.wl_parts.proofs.read.found.Goals as goal

pub returns-in_err-rest-2 : goal.returns-in_err-rest-2
returns-in_err-rest-2 c = λ f rest fits e.
    let first = c.in_ok-count.ensures (length f.rows) (each_words row_counts_words f.rows (codes "null],\"unclean\":[" ++ first_words f.unclean (codes "null],\"refused\":[" ++ first_words f.refused (codes "null]}\n" ++ rest)))) fits.some refl e in
    let second = c.in_ok-rest.ensures f.rows (codes "null],\"unclean\":[" ++ first_words f.unclean (codes "null],\"refused\":[" ++ first_words f.refused (codes "null]}\n" ++ rest))) first.0 fits.rows first.1 in
    sets_err c.from_residual-in_err-rest-2.result c.in_err-rest-2.field-0.0 _ f rest c.from_residual-in_err-rest-2.ensures.1
    (c.in_err-rest-2.ensures f.unclean (codes "null],\"refused\":[" ++ first_words f.refused (codes "null]}\n" ++ rest)) fits.unclean second.1)

pub returns-in_err-rest-3 : goal.returns-in_err-rest-3
returns-in_err-rest-3 c = λ f rest fits e.
    let first = c.in_ok-count.ensures (length f.rows) (each_words row_counts_words f.rows (codes "null],\"unclean\":[" ++ first_words f.unclean (codes "null],\"refused\":[" ++ first_words f.refused (codes "null]}\n" ++ rest)))) fits.some refl e in
    let second = c.in_ok-rest.ensures f.rows (codes "null],\"unclean\":[" ++ first_words f.unclean (codes "null],\"refused\":[" ++ first_words f.refused (codes "null]}\n" ++ rest))) first.0 fits.rows first.1 in
    let third = c.in_ok-rest-2.ensures f.unclean (codes "null],\"refused\":[" ++ first_words f.refused (codes "null]}\n" ++ rest)) fits.unclean second.1 in
    sets_err c.from_residual-in_err-rest-3.result c.in_err-rest-3.field-0.0 _ f rest c.from_residual-in_err-rest-3.ensures.1
    (c.in_err-rest-3.ensures f.refused (codes "null]}\n" ++ rest) fits.refused third.1)

pub returns : goal.returns
returns c = λ f rest fits e.
    let first = c.in_ok-count.ensures (length f.rows) (each_words row_counts_words f.rows (codes "null],\"unclean\":[" ++ first_words f.unclean (codes "null],\"refused\":[" ++ first_words f.refused (codes "null]}\n" ++ rest)))) fits.some refl e in
    let second = c.in_ok-rest.ensures f.rows (codes "null],\"unclean\":[" ++ first_words f.unclean (codes "null],\"refused\":[" ++ first_words f.refused (codes "null]}\n" ++ rest))) first.0 fits.rows first.1 in
    let third = c.in_ok-rest-2.ensures f.unclean (codes "null],\"refused\":[" ++ first_words f.refused (codes "null]}\n" ++ rest)) fits.unclean second.1 in
    let fourth = c.in_ok-rest-3.ensures f.refused (codes "null]}\n" ++ rest) fits.refused third.1 in
    sets_left c.after.result _ f rest (λ i. record { rows = second.0 i; unclean = third.0 i; refused = fourth.0 i }) (c.after.ensures rest fourth.1)
