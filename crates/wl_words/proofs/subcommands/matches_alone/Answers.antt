use Rattle.std.proofs.Common.{refl, subst, sym, map, string_bytes, List}
use Rattle.clap.specs.Words.{Text}
use Rattle.wl_words.proofs.Found.{IsSecond, found_alone, second_is}
use Rattle.wl_words.proofs.Tabled.{row_is}
use Rattle.wl_words.proofs.subcommands.matches_alone.Goals as goal

-- each row of the table is that of its word
pub row_of-requires : goal.row_of-requires
row_of-requires c = ((refl, refl), ((refl, refl), ((refl, refl), ((refl, refl), ((refl, refl), ((refl, refl), ((refl, refl), ((refl, refl), ((refl, refl), ((refl, refl), ((refl, refl), ((refl, refl), ((refl, refl), ((refl, refl), ((refl, refl), ((refl, refl), ((refl, refl), ((refl, refl), tt))))))))))))))))))

pub returns-in-Ok-try_get_matches_from : goal.returns-in-Ok-try_get_matches_from
returns-in-Ok-try_get_matches_from c =
    let words : List Text = map string_bytes c.args.words.now in
    let there = c.in_ok-get.ensures.lookup.3 in
    let second = subst (λ w. IsSecond w words) (sym c.as_str-word.ensures.value) (second_is string_bytes c.args.words.now c.in_ok-get.field-0.now there.0 there.1) in
    let word = c.as_str-word.result.now in
    let alone = row_is _ word c.in_ok-row.row.now c.in_ok-row.ensures c.in-Ok.ensures in
    found_alone _ words word c.in-Ok-try_get_matches_from.matches alone c.in_ok-row.ensures.1 second
    c.in-Ok-try_get_matches_from.ensures.matches c.in-Ok-try_get_matches_from.ensures.kinds
