use Rattle.std.proofs.Common.{◌≡◌, ℕ, ◌≤◌, ◌<◌, ◌∙◌, ◌++◌, ◌∷◌, [], sym, ap, subst, arith, length, take, List, get_or, refl}
use Rattle.std.proofs.lemmas.List.{get_or_read_under}
use Rattle.wl_intervals.specs.Pairs.{covers, AreIntervals}
use Rattle.wl_intervals.specs.Search.{pair_at}
use Rattle.wl_intervals.proofs.CutLaws.{front_from, covers_front, cut_from, covers_cut}
use Rattle.wl_intervals.proofs.intervals.Intervals.cut.Goals as goal
use Rattle.wl_intervals.proofs.intervals.Intervals.cut.Goals.{then-place-len-via-then-place-len, then-place-len-via-else-place-len+then-t-index}

-- a pair that was read is the one at its place
read_at : (items ps : List (ℕ × ℕ)) (k : ℕ) (p : ℕ × ℕ) → p ≡ get_or items k p → k < length items → items ≡ ps → p ≡ pair_at ps k
read_at items ps k p read within same = get_or_read_under items k (length items) p (0, 0) read within refl ∙ ap (λ xs. get_or xs k (0, 0)) same

-- the pairs before the place
front : (c : goal.Joined-then-place-len) → c.in_ok-pairs.pairs.items ≡ take c.place_of-place.result c.args.self.now
front c = c.in_ok-pairs.ensures.items ∙ ap (take c.place_of-place.result) (c.deref.ensures.value ∙ c.self.view_is)

pub invariant_of-result : goal.invariant_of-result
invariant_of-result c = subst AreIntervals (sym (front c)) (front_from 0 c.args.self.now c.place_of-place.result c.place_of-place.ensures.intervals)

pub returns-then-place-len : goal.returns-then-place-len
returns-then-place-len c =
    let same : length c.self.inside.pairs.items ≡ length c.args.self.now = ap length c.self.view_is in
    let later : c.place_of-place.result < length c.args.self.now → c.args.t ≤ (pair_at c.args.self.now c.place_of-place.result).0 =
    elim c.then-place-len.branch [
      | then-place-len-via-then-place-len w ↦ (λ within. absurd (omega (arith, same)))
      | then-place-len-via-else-place-len+then-t-index w ↦ (λ (within : c.place_of-place.result < length c.args.self.now). subst (λ p. c.args.t ≤ p.0) (read_at c.self.inside.pairs.items _ _ _ w.index.ensures (omega (arith, same, within)) c.self.view_is) w.if-t-index.true)
    ] in
    λ u. ap (λ ps. covers ps u) (front c)
    ∙ covers_front 0 c.args.self.now c.args.t c.place_of-place.result u c.place_of-place.ensures.intervals c.place_of-place.ensures.place later

-- and the part of the pair at it
part : (c : goal.In_ok-push) → c.push.new.self.items ≡ take c.place_of-place.result c.args.self.now ++ ((pair_at c.args.self.now c.place_of-place.result).0, c.args.t) ∷ []
part c =
    let read : c.index-2.result.now ≡ pair_at c.args.self.now c.place_of-place.result = read_at c.self.inside.pairs.items _ _ _ c.index-2.ensures (omega arith) c.self.view_is in
    c.in_ok-push.ensures.items
    ∙ ap (λ front. front ++ (c.index-2.result.now.0, c.args.t) ∷ []) (c.in_ok-pairs.ensures.items ∙ ap (take c.place_of-place.result) (c.deref.ensures.value ∙ c.self.view_is))
    ∙ ap (λ p. take c.place_of-place.result c.args.self.now ++ (p.0, c.args.t) ∷ []) read

begun : (c : goal.In_ok-push) → (pair_at c.args.self.now c.place_of-place.result).0 < c.args.t
begun c = subst (λ p. p.0 < c.args.t) (read_at c.self.inside.pairs.items _ _ _ c.index.ensures (omega arith) c.self.view_is) c.if-t-index.false

inside : (c : goal.In_ok-push) → c.place_of-place.result < length c.args.self.now
inside c = let same : length c.self.inside.pairs.items ≡ length c.args.self.now = ap length c.self.view_is in omega (arith, same)

pub invariant_of-result-2 : goal.invariant_of-result-2
invariant_of-result-2 c =
    subst AreIntervals (sym (part c))
    (cut_from 0 c.args.self.now c.args.t c.place_of-place.result c.place_of-place.ensures.intervals c.place_of-place.ensures.place (inside c) (begun c))

pub returns : goal.returns
returns c =
    λ u. ap (λ ps. covers ps u) (part c)
    ∙ covers_cut 0 c.args.self.now c.args.t c.place_of-place.result u c.place_of-place.ensures.intervals c.place_of-place.ensures.place (inside c) (begun c)
