use Rattle.std.proofs.Common.{[], ◌∷◌}
use Rattle.wl_record.specs.Parsing.{FieldsThen}
use Rattle.wl_record.proofs.ParseLemmas.{fields_after}
use Rattle.wl_record.proofs.parse.two_fields.Goals as goal

pub returns-in_default-clause-none : goal.returns-in_default-clause-none
returns-in_default-clause-none c = λ a b rest h. c.in_default.ensures.none a h.0 h.1

pub returns-in_default-field-clause-none : goal.returns-in_default-field-clause-none
returns-in_default-field-clause-none c = λ a b rest h.
    let more : FieldsThen c.in-Some.more.now (b ∷ []) rest = fields_after _ _ a (b ∷ []) _ rest c.in-Some.ensures.found.1 h in
    c.in_default-field.ensures.none b more.0 more.1
