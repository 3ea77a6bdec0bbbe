use Rattle.std.proofs.Common.{◌<◌, ◌∙◌, [], ◌∷◌, ◌++◌, length, take, ap, sym, subst, arith}
use Rattle.std.proofs.lemmas.List.{take_more}
use Rattle.wl_worker.specs.Faults.{IsLowestFault}
use Rattle.wl_worker.proofs.threads.first_fault.Goals as goal

pub loop-i-preserved : goal.loop-i-preserved
loop-i-preserved c =
    let ends = c.args.ends.now in
    let i = c.loop-i.i in
    let low : i < length ends = let l = c.loop-i-test.true in omega arith in
    subst (λ es. IsLowestFault es c.with_end-first.result)
    (sym (take_more ends i c.index-ends-i.result low ∙ ap (λ end. take i ends ++ end ∷ []) (sym c.index-ends-i.is)))
    (c.with_end-first.ensures (take i ends) c.loop-i.invariant)
