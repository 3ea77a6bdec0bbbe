use Rattle.std.proofs.Common.{◌≡◌, ◌∙◌, ap, refl, List, [], ℕ, Bor, Option, Some, None}
use Rattle.std.specs.Option.{option_map, unwrap_or}
use Rattle.std.proofs.lemmas.Option.{unwrap_or-slice_get}
use Rattle.wl_setup.proofs.names.Names.name_of.Goals as goal

abbrev bytes_of : Bor (List ℕ) → List ℕ
bytes_of text = text.now

unwrapped : (o : Option (Bor (List ℕ))) (d : Bor (List ℕ)) → bytes_of (unwrap_or o d) ≡ unwrap_or (option_map bytes_of o) (bytes_of d)
unwrapped None d = refl
unwrapped (Some text) d = refl

pub returns : goal.returns
returns c =
    ap bytes_of c.unwrap_or.ensures ∙ unwrapped c.name.result _ ∙ ap (λ o. unwrap_or o []) c.name.ensures
    ∙ unwrap_or-slice_get c.args.self.now c.args.node []
