use Rattle.std.proofs.Common.{◌≡◌, ◌∙◌, ◌≤◌, ◌-◌, ◌<◌, ◌++◌, ◌∷◌, [], ℕ, suc, sym, ap, subst, arith, length, get_or, set, max, List, refl}
use Rattle.std.proofs.lemmas.List.{get_or_read_under}
use Rattle.wl_intervals.specs.Search.{pair_at, with_pair}
use Rattle.wl_intervals.proofs.JoinLaws.{with_pair_set, with_pair_pushed}
use Rattle.wl_intervals.proofs.intervals.absorb.Goals as goal
use Rattle.wl_intervals.proofs.intervals.absorb.Goals.{else-count-gt0-via-then-count-gt0+else-next-index, else-count-gt0-via-else-count-gt0}

read_at : (items : List (ℕ × ℕ)) (k n : ℕ) (p : ℕ × ℕ) → p ≡ get_or items k p → k < n → n ≡ length items → p ≡ pair_at items k
read_at items k n p read within len = get_or_read_under items k n p (0, 0) read within len

pub returns-then-next-index : goal.returns-then-next-index
returns-then-next-index c =
    let items = c.args.joined.now.items in
    let last = c.len-count.result - 1 in
    let count : length items ≡ suc last = omega arith in
    let read : c.index.result.now ≡ pair_at items last = read_at items last (suc last) _ c.index.ensures (omega arith) (sym count) in
    let lent : c.index_mut-last.result.now ≡ pair_at items last = read_at items last (suc last) _ c.index_mut-last.ensures.value (omega arith) (sym count) in
    let meets : c.args.next.0 ≤ (pair_at items last).1 = subst (λ p. c.args.next.0 ≤ p.1) read c.if-next-index.true in
    ap (λ n. set items last (c.index_mut-last.result.now.0, n)) c.max-last.ensures
    ∙ ap (λ p. set items last (p.0, max p.1 c.args.next.1)) lent
    ∙ sym (with_pair_set items c.args.next (0, 0) last count meets)

none : (items : List (ℕ × ℕ)) (q : ℕ × ℕ) → length items ≡ 0 → with_pair items q ≡ items ++ q ∷ []
none [] q h = refl
none (p ∷ items) q h = absurd (omega arith)

pub returns : goal.returns
returns c =
    let items = c.args.joined.now.items in
    let last = c.len-count.result - 1 in
    let same : items ++ c.args.next ∷ [] ≡ with_pair items c.args.next =
    elim c.else-count-gt0.branch [
      | else-count-gt0-via-then-count-gt0+else-next-index w ↦ (
          let count : length items ≡ suc last = omega arith in
          let read : w.index.result.now ≡ pair_at items last = read_at items last (suc last) _ w.index.ensures (omega arith) (sym count) in
          sym (with_pair_pushed items c.args.next (0, 0) last count (subst (λ p. p.1 < c.args.next.0) read w.if-next-index.false)))
      | else-count-gt0-via-else-count-gt0 w ↦ sym (none items c.args.next (omega arith))
    ] in
    c.in_ok-push.ensures.items ∙ same
