-- The trace of the node that a name asks for (this project's profile).
use Rattle.std.specs.Prelude.{◌≡◌, ℕ, Bool, true, false, List, [], length, Option, Some, None, slice_get}
use Rattle.std.specs.Option.{option_map_or}
use Rattle.std.specs.Str.{bytes_eq}
use Rattle.wl_level.specs.Places.{first_place}
use Rattle.wl_plan.specs.declared.plan.Plan.{Plan}
use Rattle.wl_views.specs.declared.pick.Pick.{Pick}
use Rattle.wl_views.specs.Picks.{trace_text}

-- a node has this name
abbrev pub has_name : List (List ℕ) → List ℕ → ℕ → Bool
has_name names name i = option_map_or (bytes_eq name) (slice_get names i) false

-- the node of a plan that has this name, by its number
abbrev pub named_node : Plan → List (List ℕ) → List ℕ → Option ℕ
named_node plan names name = first_place (has_name names name) (length plan.nodes)

-- what is picked of one node's events
abbrev pub pick_at : Pick → ℕ → Pick
pick_at pick i = record pick { node = Some i }

-- the lines of this node that are picked; or nothing, if there is none
abbrev pub IsTraceAt : Pick → Option ℕ → Plan → List (List ℕ) → List ℕ → (found : Bool) → Type 0
IsTraceAt pick (Some i) plan names text found = (text ≡ trace_text (pick_at pick i) plan names) × (found ≡ true)
IsTraceAt pick None plan names text found = (text ≡ []) × (found ≡ false)

-- the lines of the node of this name that are picked; or nothing, if no node has the name
abbrev pub IsNodeTrace : Pick → List ℕ → Plan → List (List ℕ) → List ℕ → (found : Bool) → Type 0
IsNodeTrace pick name plan names = IsTraceAt pick (named_node plan names name) plan names
