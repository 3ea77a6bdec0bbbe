use Rattle.std.proofs.Common.{◌∙◌, [], ◌∷◌, ◌++◌, ap, sym, subst, rules}
use Rattle.std.proofs.lemmas.List.{append_assoc, append-nil}
use Rattle.std.specs.Str.Iter.{split_whitespace_rest}
use Rattle.test_words.specs.Words.{AreNumbers}
use Rattle.test_words.proofs.words.numbers.Goals as goal

pub loop-word-init : goal.loop-word-init
loop-word-init g c = search rules

pub loop-word-preserved : goal.loop-word-preserved
loop-word-preserved g c = λ ns h.
    let before = c.loop-word.invariant (c.in-Ok.number ∷ ns) (c.in-Some.word.now, split_whitespace_rest c.next.new.self, c.in-Some.ensures.steps, c.in-Ok.ensures.value, h) in
    subst (AreNumbers g.T.FromStr.from_str_gives c.args.words.now)
    (sym (ap (λ numbers. numbers ++ ns) c.in_ok-push-in-Ok.ensures.items ∙ append_assoc c.loop-word.numbers.items (c.in-Ok.number ∷ []) ns)) before

pub returns : goal.returns
returns g c =
    subst (AreNumbers g.T.FromStr.from_str_gives c.args.words.now) (append-nil c.loop-word.numbers.items) (c.loop-word.invariant [] c.in-None.ensures.steps.1)
