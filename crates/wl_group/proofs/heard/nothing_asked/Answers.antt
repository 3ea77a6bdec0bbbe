use Rattle.std.proofs.Common.{◌≡◌, ◌∙◌, ◌∷◌, ◌++◌, [], sym, ap, subst, replicate, arith}
use Rattle.std.proofs.lemmas.List.{replicate_more}
use Rattle.wl_topology.specs.Limits.{most_places}
use Rattle.wl_group.specs.Heard.{no_source, ArePlaceSources}
use Rattle.wl_group.proofs.HeardProofs.{nothing_asked}
use Rattle.wl_group.proofs.heard.nothing_asked.Goals as goal

pub loop-made-preserved : goal.loop-made-preserved
loop-made-preserved c =
    let row = replicate most_places no_source in
    c.in_ok-push.ensures.items ∙ (ap (λ xs. xs ++ row ∷ []) c.loop-made.invariant ∙ replicate_more c.loop-made._made row)

pub returns : goal.returns
returns c = λ l.
    let all : c.loop-made._made ≡ most_places = omega (arith, c.loop-made-test.false, c.loop-made.auto._made-end) in
    subst (ArePlaceSources l) (sym (c.loop-made.invariant ∙ ap (λ n. replicate n (replicate most_places no_source)) all)) (nothing_asked l most_places)
