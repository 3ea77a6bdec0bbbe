use Rattle.std.proofs.Common.{[], ◌∷◌}
use Rattle.wl_record.proofs.ParseLemmas.{fields_after}
use Rattle.wl_record.proofs.parse.three_fields.Goals as goal

pub returns-in_default-clause-none : goal.returns-in_default-clause-none
returns-in_default-clause-none c = λ a b k rest h. c.in_default.ensures.none a h.0 h.1

pub returns-in_default-two_fields-clause-none : goal.returns-in_default-two_fields-clause-none
returns-in_default-two_fields-clause-none c = λ a b k rest h.
    c.in_default-two_fields.ensures.none b k rest (fields_after _ _ a (b ∷ k ∷ []) _ rest c.in-Some.ensures.found.1 h)
