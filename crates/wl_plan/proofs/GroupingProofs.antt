-- Which nodes are in which group.
use Rattle.std.proofs.Common.{◌≡◌, ℕ, zero, suc, ◌+◌, ◌<◌, ◌≤◌, ◌==◌, ◌↔◌, ◌∙◌, Bool, true, false, cond, List, [], ◌∷◌, ◌++◌, length, get_or, max, All, Contains, unwrap_or, filter, inl, inr, sym, ap, subst, arith}
use Rattle.std.specs.List.{range_with_len}
use Rattle.std.specs.List.Sorted.{IsStrictlyIncreasing}
use Rattle.std.proofs.lemmas.Bool.{cases_lt, ne_eqb, false≢true}
use Rattle.std.proofs.lemmas.List.Elements.{All-head, All-tail, All-contains, All-filter, filter-append, filter_passes}
use Rattle.std.proofs.lemmas.List.FromFn.{length-range_with_len, get_or-range_with_len}
use Rattle.std.proofs.lemmas.List.Kept.{IsStrictlyIncreasing-filter}
use Rattle.std.proofs.lemmas.Option.{slice_get_past, slice_get-get_or}
use Rattle.wl_plan.specs.Groupings.{most_groups, group_of, is_in_group, groups_of, members_of, GroupingLaws}

-- ---- the number of groups

below_groups : (numbers : List ℕ) (i : ℕ) → i < length numbers → group_of numbers i < groups_of numbers
below_groups [] i b = absurd (omega arith)
below_groups (g ∷ gs) zero b = omega arith
below_groups (g ∷ gs) (suc i) b = let e = below_groups gs i (omega arith) in omega arith

pub few_groups : (numbers : List ℕ) → All (λ g. g < most_groups) numbers → groups_of numbers ≤ most_groups
few_groups [] h = omega arith
few_groups (g ∷ gs) h =
    let first = All-head (λ n. n < most_groups) g gs h in
    let others = few_groups gs (All-tail (λ n. n < most_groups) g gs h) in
    omega arith

last_group : (numbers : List ℕ) → 0 < groups_of numbers → (i : ℕ) × (i < length numbers) × (suc (group_of numbers i) ≡ groups_of numbers)
last_group [] h = absurd (omega arith)
last_group (g ∷ gs) h =
    elim (cases_lt (suc g) (groups_of gs)) [
      | inl more ↦ (let later = last_group gs (omega arith) in (suc later.0, omega arith, later.2 ∙ omega arith))
      | inr most ↦ (0, omega arith, omega arith)
    ]

-- one more number
pub groups_more : (numbers : List ℕ) (g : ℕ) → groups_of (numbers ++ g ∷ []) ≡ max (groups_of numbers) (suc g)
groups_more [] g = omega arith
groups_more (n ∷ ns) g = let e = groups_more ns g in omega arith

-- ---- members

none_there : (numbers : List ℕ) (g i : ℕ) → g < most_groups → length numbers ≤ i → is_in_group numbers g i ≡ false
none_there numbers g i b past =
    ap (λ o. unwrap_or o most_groups == g) (slice_get_past numbers i past) ∙ ne_eqb most_groups g (λ e. omega arith)

-- what passes the test is kept
kept : (p : ℕ → Bool) (xs : List ℕ) (x k : ℕ) → k < length xs → get_or xs k x ≡ x → p x ≡ true → Contains (filter p xs) x
kept p [] x k b e h = absurd (omega arith)
kept p (y ∷ ys) x zero b e h = subst (λ v. Contains (cond v (y ∷ filter p ys) (filter p ys)) x) (sym (ap p e ∙ h)) (0, omega arith, e)
kept p (y ∷ ys) x (suc k) b e h = stays (p y) (kept p ys x k (omega arith) e h)
  where
    stays : (v : Bool) → Contains (filter p ys) x → Contains (cond v (y ∷ filter p ys) (filter p ys)) x
    stays true c = (suc c.0, (let b = c.1 in omega arith), c.2)
    stays false c = c

in_range : (n i : ℕ) → i < n → Contains (range_with_len 0 n) i
in_range n i b = (i, (let e = length-range_with_len 0 n in omega arith), get_or-range_with_len 0 n i i b ∙ omega arith)

range_below : (n : ℕ) → All (λ i. i < n) (range_with_len 0 n)
range_below n k d b =
    let e = length-range_with_len 0 n in
    let f = get_or-range_with_len 0 n k d (omega arith) in
    omega arith

range_ascends : (n : ℕ) → IsStrictlyIncreasing (range_with_len 0 n)
range_ascends n k b =
    let e = length-range_with_len 0 n in
    let f = get_or-range_with_len 0 n k 0 (omega arith) in
    let g = get_or-range_with_len 0 n (k + 1) 0 (omega arith) in
    omega arith

members_are : (numbers : List ℕ) (g i : ℕ) → g < most_groups → Contains (members_of numbers g) i ↔ (is_in_group numbers g i ≡ true)
members_are numbers g i b = (
  (λ c. All-contains (λ n. is_in_group numbers g n ≡ true) (members_of numbers g) i (filter_passes (is_in_group numbers g) (range_with_len 0 (length numbers))) c),
  (λ h. elim (cases_lt i (length numbers)) [
    | inl there ↦ (let c = in_range (length numbers) i there in kept (is_in_group numbers g) (range_with_len 0 (length numbers)) i c.0 c.1 c.2 h)
    | inr past ↦ absurd (false≢true (sym (none_there numbers g i b past) ∙ h))
  ]),
)

-- one more node
range_more : (a n j : ℕ) → a + n ≡ j → range_with_len a (suc n) ≡ range_with_len a n ++ j ∷ []
range_more a zero j e = let same : a ≡ j = omega arith in ap (λ i. i ∷ []) same
range_more a (suc n) j e = ap (λ is. a ∷ is) (range_more (a + 1) n j (omega arith))

pub members_more : (numbers : List ℕ) (g n : ℕ) → filter (is_in_group numbers g) (range_with_len 0 (suc n)) ≡ filter (is_in_group numbers g) (range_with_len 0 n) ++ cond (is_in_group numbers g n) (n ∷ []) []
members_more numbers g n =
    ap (filter (is_in_group numbers g)) (range_more 0 n n (omega arith)) ∙ filter-append (is_in_group numbers g) (range_with_len 0 n) (n ∷ [])

pub group_at : (numbers : List ℕ) (i d : ℕ) → i < length numbers → group_of numbers i ≡ get_or numbers i d
group_at numbers i d b = ap (λ o. unwrap_or o most_groups) (slice_get-get_or numbers i d b)

pub grouping_laws : GroupingLaws
grouping_laws = record {
  in_one = below_groups;
  few = few_groups;
  last = last_group;
  no_node = none_there;
  members = members_are;
  are_nodes = λ numbers g. All-filter (is_in_group numbers g) (λ i. i < length numbers) (range_with_len 0 (length numbers)) (range_below (length numbers));
  ascending = λ numbers g. IsStrictlyIncreasing-filter (is_in_group numbers g) (range_with_len 0 (length numbers)) (range_ascends (length numbers));
}
