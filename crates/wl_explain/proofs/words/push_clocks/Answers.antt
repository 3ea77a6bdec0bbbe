use Rattle.std.proofs.Common.{◌≡◌, ◌∙◌, ◌++◌, ap₂, subst, string_bytes, OnOk}
use Rattle.wl_explain.specs.Words.{apart_words, unlike_words}
use Rattle.wl_explain.proofs.Choices.{apart_chosen, unlike_chosen}
use Rattle.wl_explain.proofs.words.push_clocks.Goals as goal

pub returns-then-apart-gt-GREATEST_DIFFERENCE : goal.returns-then-apart-gt-GREATEST_DIFFERENCE
returns-then-apart-gt-GREATEST_DIFFERENCE c =
    let a = c.args.a.now in
    let b = c.args.b.now in
    let words =
    ap₂ (unlike_words a b) c.bit_rate.ensures c.bit_rate-then-apart-gt-GREATEST_DIFFERENCE.ensures
    ∙ unlike_chosen c.args.end a b c.args.one.now c.args.other.now (rw c.difference-apart.ensures at c.if-apart-gt-GREATEST_DIFFERENCE.true) in
    subst (λ more. OnOk c.push_unlike.result (string_bytes c.push_unlike.new.text ≡ string_bytes c.args.text.now ++ more)) words c.push_unlike.ensures

pub returns-then-apart-most : goal.returns-then-apart-most
returns-then-apart-most c =
    let a = c.args.a.now in
    let b = c.args.b.now in
    let words =
    ap₂ (apart_words a b) c.difference-apart.ensures c.borne-most.ensures
    ∙ apart_chosen c.args.end a b c.args.one.now c.args.other.now (rw c.difference-apart.ensures at c.if-apart-gt-GREATEST_DIFFERENCE.false)
    (rw (c.difference-apart.ensures, c.borne-most.ensures) at c.if-apart-most.true) in
    subst (λ more. OnOk c.push_apart.result (string_bytes c.push_apart.new.text ≡ string_bytes c.args.text.now ++ more)) words c.push_apart.ensures
