use Rattle.std.proofs.Common.{rules, ◌≡◌, ◌∙◌, ap, sym, subst, refl, map-id, ℕ, List, [], ◌∷◌, ◌++◌}
use Rattle.std.proofs.lemmas.Grind.{put_two, flat_map-append}
use Rattle.std.proofs.lemmas.Iterator.{YieldsList-from_chars}
use Rattle.std.proofs.lemmas.Iterator.Consumers.{YieldsList-end}
use Rattle.std.specs.Fmt.{HasWritten}
use Rattle.std.specs.List.{flat_map}
use Rattle.wl_setup.specs.Shown.{shown, shown_character}
use Rattle.wl_setup.proofs.text.TextDisplay.fmt.Goals as goal

nothing_after : (xs : List ℕ) → xs ++ [] ≡ xs
nothing_after [] = refl
nothing_after (x ∷ xs) = ap (λ z. x ∷ z) (nothing_after xs)

-- one character more is shown after those before it
one_more : (characters : List ℕ) (c : ℕ) → flat_map shown_character characters ++ shown_character c ≡ flat_map shown_character (characters ++ c ∷ [])
one_more characters c = sym (flat_map-append shown_character characters (c ∷ []) ∙ ap (λ z. flat_map shown_character characters ++ z) (nothing_after (shown_character c)))

pub loop-character-preserved : goal.loop-character-preserved
loop-character-preserved g c = λ p.
    put_two g.W.Write.write_str_gives c.args.f.now c.loop-character.f c.write.new.self (flat_map shown_character c.loop-character.yielded) (shown_character c.in-Some.character) _
    (c.loop-character.invariant p) (search rules) (one_more c.loop-character.yielded c.in-Some.character)

pub returns-clause-writes : goal.returns-clause-writes
returns-clause-writes g c = λ p k.
    let end = YieldsList-end (YieldsList-from_chars c.as_str.result.now c.as_str.utf8 cc) c.loop-character.yielded _ c.loop-character.yielded_by _ _ c.in-None.is c.next.ensures.steps in
    let all : flat_map shown_character c.loop-character.yielded ≡ shown c.args.self.now =
    ap (flat_map shown_character) (sym (map-id c.loop-character.yielded) ∙ end.0) ∙ ap shown c.as_str.ensures in
    subst (λ bytes. HasWritten g.W.Write.write_str_gives c.args.f.now bytes c.loop-character.f) all (c.loop-character.invariant p)
