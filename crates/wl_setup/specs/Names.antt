-- The names of a plan's nodes (this project's profile).
use Rattle.std.specs.Prelude.{ℕ, suc, Bool, false, ◌||◌, if◌then◌else◌, List, [], ◌∷◌, ◌++◌, map, slice_index_or, Option, Some, None}
use Rattle.std.specs.List.{list_any}
use Rattle.std.specs.Str.{bytes_eq}
use Rattle.wl_setup.specs.declared.fault.SetupFault.{SetupFault}
use Rattle.wl_setup.specs.declared.fault.SetupFault.TheVariants.{SameName}
use Rattle.wl_setup.specs.declared.plan_text.PlanText.{PlanText}

-- the names of the nodes, in the nodes' order
abbrev pub names_of : PlanText → List (List ℕ)
names_of plan = map (λ node. node.name) plan.node

-- the name of a node, empty where it has none
abbrev pub name_of : List (List ℕ) → ℕ → List ℕ
name_of names i = slice_index_or names i []

-- some text stands twice
abbrev pub has_repeat : List (List ℕ) → Bool
has_repeat [] = false
has_repeat (text ∷ more) = list_any (bytes_eq text) more || has_repeat more

-- the number of the first text that equals an earlier one, among those that follow on some others; where none does, how many they are
abbrev pub first_repeat : List (List ℕ) → List (List ℕ) → ℕ
first_repeat before [] = 0
first_repeat before (text ∷ more) =
    if list_any (bytes_eq text) before then 0 else suc (first_repeat (before ++ text ∷ []) more)

-- two nodes have one name
abbrev pub same_name_fault : PlanText → Option SetupFault
same_name_fault plan = if has_repeat (names_of plan) then Some SameName else None
