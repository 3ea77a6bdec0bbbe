use Rattle.std.proofs.Common.{◌≡◌, ◌∙◌, ◌++◌, ◌∷◌, [], ◌+◌, ◌-◌, ◌*◌, ◌<◌, ap, sym, arith, length, get_or}
use Rattle.std.proofs.lemmas.List.{get_or_default}
use Rattle.wl_node.specs.declared.samples.Run.{Run}
use Rattle.wl_node.specs.Runs.{run_samples, samples_by, samples_from}
use Rattle.wl_node.proofs.RunsOfSamples.{from_more, from_one, last_by, more_by, run_is}
use Rattle.wl_node.proofs.samples.add.Goals as goal

pub returns-then-goes_on : goal.returns-then-goes_on
returns-then-goes_on c =
    let runs = c.args.runs.now.items in
    let k = c.len-n.result - 1 in
    let all : length runs ≡ k + 1 = omega (arith, c.len-n.ensures, c.if-n-gt0.true) in
    let inside : k < length runs = omega (arith, all) in
    let last : Run = c.index_mut.result.now in
    let is : last ≡ get_or runs k last = c.index_mut.ensures.value in
    let was : c.index.result.now ≡ last =
    c.index.ensures ∙ get_or_default runs k c.index.result.now last inside ∙ sym is in
    let quantum : last.from + last.count * last.step ≡ c.args.quantum =
    ap (λ r. r.from + r.count * r.step) (sym was) ∙ sym (c.goes_on.ensures.quantum c.if-goes_on.true) in
    let level : last.level ≡ c.args.level = ap (λ r. r.level) (sym was) ∙ c.goes_on.ensures.level c.if-goes_on.true in
    let run : Run = record { from = last.from; count = last.count + 1; step = last.step; level = last.level } in
    let more : run_samples run ≡ run_samples last ++ (c.args.quantum, c.args.level) ∷ [] =
    run_is run ∙ from_more last.from last.step last.level last.count
    ∙ (λ i. samples_from last.from last.step last.level last.count ++ (quantum i, level i) ∷ [])
    ∙ ap (λ xs. xs ++ (c.args.quantum, c.args.level) ∷ []) (sym (run_is last)) in
    last_by runs k run last ((c.args.quantum, c.args.level) ∷ []) all
    (more ∙ ap (λ r. run_samples r ++ (c.args.quantum, c.args.level) ∷ []) is)

pub returns : goal.returns
returns c =
    ap samples_by c.push_reserved.ensures.items
    ∙ more_by c.args.runs.now.items _
    ∙ ap (λ xs. samples_by c.args.runs.now.items ++ xs) (run_is _ ∙ from_one c.args.quantum c.args.step c.args.level)
