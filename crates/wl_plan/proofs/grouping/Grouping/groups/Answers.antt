-- One number more, and all of them.
use Rattle.std.proofs.Common.{◌≡◌, ℕ, max, ap, sym, ◌∙◌, arith, add-one, get_or, take, length}
use Rattle.std.proofs.lemmas.List.{take_more}
use Rattle.std.proofs.Math.Seq.{take-length}
use Rattle.wl_plan.specs.Groupings.{groups_of}
use Rattle.wl_plan.proofs.GroupingProofs.{groups_more, few_groups}
use Rattle.wl_plan.proofs.grouping.Grouping.groups.Goals as goal

pub loop-number-preserved : goal.loop-number-preserved
loop-number-preserved c =
    let numbers = c.as_slice-number-items.result.now in
    let i : ℕ = c.loop-number.number-index in
    let number : ℕ = get_or numbers i 0 in
    let so_far : c.loop-number.groups ≡ groups_of (take i numbers) = c.loop-number.invariant in
    c.max-groups.ensures
    ∙ ((λ k. max (so_far k) (add-one number k))
    ∙ (sym (groups_more (take i numbers) number) ∙ ap groups_of (sym (take_more numbers i 0 c.loop-number-test.true))))

pub returns-clause-few : goal.returns-clause-few
returns-clause-few c =
    let numbers = c.as_slice-number-items.result.now in
    let i : ℕ = c.loop-number.number-index in
    let so_far : c.loop-number.groups ≡ groups_of (take i numbers) = c.loop-number.invariant in
    let whole : groups_of (take i numbers) ≡ groups_of c.self.inside.numbers =
    ap (λ n. groups_of (take n numbers)) (let e : i ≡ length numbers = omega arith in e) ∙ (ap groups_of (take-length numbers) ∙ ap groups_of c.as_slice-number-items.ensures)
    in
    let few = few_groups c.self.inside.numbers c.self.invariant in
    omega arith
