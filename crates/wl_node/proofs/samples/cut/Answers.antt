use Rattle.std.proofs.Common.{◌≡◌, ◌∙◌, ◌++◌, ◌∷◌, [], ◌+◌, ◌-◌, ◌≤◌, length, take, ap, sym, arith, refl}
use Rattle.std.specs.Option.{option_to_list}
use Rattle.std.proofs.lemmas.List.{take_all}
use Rattle.wl_node.specs.declared.samples.Run.{Run}
use Rattle.wl_node.specs.Runs.{samples_by}
use Rattle.wl_node.proofs.RunsOfSamples.{first_by, length_more, none_of, some_by}
use Rattle.wl_node.proofs.samples.cut.Goals as goal

pub returns-in_default : goal.returns-in_default
returns-in_default c =
    let none : length c.loop-left.runs.items ≡ 0 = (let e = c.in_default.ensures.cases in let ok = c.loop-left.runs.ok in omega arith) in
    absurd (omega (arith, none_of c.loop-left.runs.items none))

pub returns-then-left-most : goal.returns-then-left-most
returns-then-left-most c =
    let last : Run = c.in-Some.last in
    let front = c.pop.new.self.items in
    let was : c.loop-left.runs.items ≡ front ++ last ∷ [] = c.pop.ensures.items ∙ ap (λ o. front ++ option_to_list o) c.in-Some.is in
    let long = ap (λ rs. length (samples_by rs)) was ∙ length_more front last in
    let spare = c.loop-left.left - c.args.most in
    let kept : c.args.most ≡ length (samples_by front) + (last.count - spare) = omega (arith, long) in
    let few : last.count - spare ≤ last.count = omega arith in
    ap samples_by c.push_reserved.ensures.items
    ∙ some_by front last c.args.most (last.count - spare) _ kept few refl refl refl refl
    ∙ ap (λ rs. take c.args.most (samples_by rs)) (sym was)
    ∙ c.loop-left.invariant.0

pub loop-left-preserved : goal.loop-left-preserved
loop-left-preserved c =
    let last : Run = c.in-Some.last in
    let front = c.pop.new.self.items in
    let was : c.loop-left.runs.items ≡ front ++ last ∷ [] = c.pop.ensures.items ∙ ap (λ o. front ++ option_to_list o) c.in-Some.is in
    let long = ap (λ rs. length (samples_by rs)) was ∙ length_more front last in
    let few : c.args.most ≤ length (samples_by front) = omega (arith, long) in (
      sym (first_by front last c.args.most few) ∙ ap (λ rs. take c.args.most (samples_by rs)) (sym was) ∙ c.loop-left.invariant.0,
      omega (arith, long),
    )

pub returns : goal.returns
returns c =
    let few : length (samples_by c.loop-left.runs.items) ≤ c.args.most = omega arith in
    sym (take_all c.args.most (samples_by c.loop-left.runs.items) few) ∙ c.loop-left.invariant.0
