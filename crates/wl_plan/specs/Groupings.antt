-- Which group each node of a plan is in, as a list of numbers: the group of node i stands at place i. This project's profile.
use Rattle.std.specs.Prelude.{◌≡◌, ℕ, suc, ◌<◌, ◌≤◌, ◌==◌, ◌↔◌, max, Bool, true, false, List, [], ◌∷◌, length, All, Contains, filter, slice_get, unwrap_or}
use Rattle.std.specs.List.{range_with_len}
use Rattle.std.specs.List.Sorted.{IsStrictlyIncreasing}
use Rattle.wl_plan.specs.declared.grouping.TheConstants.{MOST_GROUPS}

-- groups are numbered below it
abbrev pub most_groups : ℕ
most_groups = MOST_GROUPS

-- there is one number for each of so many nodes, and each is one of a group
abbrev pub IsGrouping : ℕ → List ℕ → Type 0
IsGrouping nodes numbers = (length numbers ≡ nodes) × All (λ g. g < most_groups) numbers

-- the group of node i; where there is no such node, a number that no group has
abbrev pub group_of : List ℕ → ℕ → ℕ
group_of numbers i = unwrap_or (slice_get numbers i) most_groups

-- whether node i is in group g
abbrev pub is_in_group : List ℕ → ℕ → ℕ → Bool
is_in_group numbers g i = group_of numbers i == g

-- how many groups there are: the greatest number plus one, and none where there is no node
abbrev pub groups_of : List ℕ → ℕ
groups_of [] = 0
groups_of (g ∷ gs) = max (suc g) (groups_of gs)

-- the nodes of group g, in ascending order
abbrev pub members_of : List ℕ → ℕ → List ℕ
members_of numbers g = filter (is_in_group numbers g) (range_with_len 0 (length numbers))

pub record GroupingLaws : Type 0 where
  -- each node is in one of the groups, and there are few of them
  pub in_one : (numbers : List ℕ) (i : ℕ) → i < length numbers → group_of numbers i < groups_of numbers
  pub few : (numbers : List ℕ) → All (λ g. g < most_groups) numbers → groups_of numbers ≤ most_groups
  -- the last group has a node
  pub last : (numbers : List ℕ) → 0 < groups_of numbers → (i : ℕ) × (i < length numbers) × (suc (group_of numbers i) ≡ groups_of numbers)
  -- a number that is no node is in none of them
  pub no_node : (numbers : List ℕ) (g i : ℕ) → g < most_groups → length numbers ≤ i → is_in_group numbers g i ≡ false
  -- the members of a group are the nodes that are in it, each once
  pub members : (numbers : List ℕ) (g i : ℕ) → g < most_groups → Contains (members_of numbers g) i ↔ (is_in_group numbers g i ≡ true)
  pub are_nodes : (numbers : List ℕ) (g : ℕ) → All (λ i. i < length numbers) (members_of numbers g)
  pub ascending : (numbers : List ℕ) (g : ℕ) → IsStrictlyIncreasing (members_of numbers g)
