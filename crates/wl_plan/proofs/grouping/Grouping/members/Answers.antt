-- One node more.
use Rattle.std.proofs.Common.{◌≡◌, ℕ, ◌++◌, ◌==◌, [], ◌∷◌, cond, true, false, filter, ap, sym, ◌∙◌, add-one, get_or, append-nil}
use Rattle.std.specs.List.{range_with_len}
use Rattle.std.proofs.lemmas.Bool.{eq-eqb, ne_eqb}
use Rattle.wl_plan.specs.Groupings.{is_in_group}
use Rattle.wl_plan.proofs.GroupingProofs.{members_more, group_at}
use Rattle.wl_plan.proofs.grouping.Grouping.members.Goals as goal
use Rattle.wl_plan.proofs.grouping.Grouping.members.Goals.{then-number-group+in_ok-push, else-number-group}

pub loop-i-preserved : goal.loop-i-preserved
loop-i-preserved c =
    let numbers = c.as_slice-number-items.result.now in
    let i : ℕ = c.loop-i.i in
    let there = group_at numbers i 0 c.loop-i-test.true in
    let more = ap (λ n. filter (is_in_group numbers c.args.group) (range_with_len 0 n)) (add-one i) ∙ members_more numbers c.args.group i in
    elim c.if-number-group.branch [
      | then-number-group+in_ok-push w ↦
          (let is : is_in_group numbers c.args.group i ≡ true = ap (λ n. n == c.args.group) there ∙ eq-eqb (get_or numbers i 0) c.args.group w.if-number-group.true in
          w.members-is ∙ (w.in_ok-push.ensures.ok ∙ (ap (λ xs. xs ++ i ∷ []) c.loop-i.invariant
          ∙ (ap (λ v. filter (is_in_group numbers c.args.group) (range_with_len 0 i) ++ cond v (i ∷ []) []) (sym is) ∙ sym more))))
      | else-number-group w ↦
          (let is : is_in_group numbers c.args.group i ≡ false = ap (λ n. n == c.args.group) there ∙ ne_eqb (get_or numbers i 0) c.args.group w.if-number-group.false in
          w.members-is ∙ (c.loop-i.invariant ∙ (sym (append-nil (filter (is_in_group numbers c.args.group) (range_with_len 0 i)))
          ∙ (ap (λ v. filter (is_in_group numbers c.args.group) (range_with_len 0 i) ++ cond v (i ∷ []) []) (sym is) ∙ sym more))))
    ]
