-- The noise of a plan as disturbances: each burst a table of its own, after those that the plan has (this project's profile).
use Rattle.std.specs.Prelude.{ℕ, ◌+◌, ◌<◌, ◌≤◌, pos, Bool, true, false, ◌||◌, ◌&&◌, not, nat_le, nat_lt, if◌then◌else◌, List, [], ◌∷◌, ◌++◌, length, map, Option, Some, None, option_map, option_and_then, slice_get, unwrap_or, codes}
use Rattle.std.specs.List.{list_any}
use Rattle.std.specs.Str.{bytes_eq}
use Rattle.toml.specs.Data.{Data, string, integer, array, table, Members, no_members, member, get_member, as_str, as_table}
use Rattle.toml.specs.View.{items_of}
use Rattle.wl_limits.specs.declared.Limits.TheVariants.{Wide}
use Rattle.wl_limits.specs.Limits.{disturbance_limit}
use Rattle.wl_noise.specs.declared.noise.Noise.{Noise}
use Rattle.wl_noise.specs.declared.noise.Burst.{Burst}
use Rattle.wl_noise.specs.Noise.{bursts, mean_gap}
use Rattle.wl_units.specs.declared.ratio.TheConstants.{LARGEST_WHOLE}
use Rattle.wl_plain.specs.declared.noise.TheConstants.{LARGEST_PLACE}
use Rattle.wl_plain.specs.declared.measure.Units.{Units}
use Rattle.wl_plain.specs.declared.measure.Row.TheVariants as row
use Rattle.wl_plain.specs.Tables.{array_at, has, no_value, positive_number_at, text_at, whole_number_at, with_member, without}
use Rattle.wl_plain.specs.Measures.{plain_row}

-- the keys of noise
abbrev pub is_noise_key : List ℕ → Bool
is_noise_key key =
    bytes_eq key (codes "rate") || (bytes_eq key (codes "length") || (bytes_eq key (codes "seed") || (bytes_eq key (codes "node") || bytes_eq key (codes "x"))))

abbrev pub has_noise_keys : Members → Bool
has_noise_keys no_members = true
has_noise_keys (member k d ms) = is_noise_key k && has_noise_keys ms

-- the values of an array
abbrev pub array_or_none : List ℕ → Members → List Data
array_or_none k ms = unwrap_or (array_at k ms) []

-- a node of this name
abbrev pub is_name_said : List ℕ → Option (List ℕ) → Bool
is_name_said name None = false
is_name_said name (Some said) = bytes_eq said name

abbrev pub is_node_named : List ℕ → Data → Bool
is_node_named name (table ms) = is_name_said name (text_at (codes "name") ms)
is_node_named name d = false

abbrev pub names_node : Option (List ℕ) → Members → Bool
names_node None top = false
names_node (Some name) top = list_any (is_node_named name) (array_or_none (codes "node") top)

-- a place on the cable
abbrev pub is_cable_spot : Option ℕ → Bool
is_cable_spot None = false
is_cable_spot (Some x) = nat_le x LARGEST_PLACE

-- noise has its own keys alone; if it has a node, there is such a node, and no place beside it; if it has a place, the place is right
abbrev pub is_right : Members → Members → Bool
is_right noise top =
    has_noise_keys noise
    && (if has (codes "node") noise then not (has (codes "x") noise) && names_node (text_at (codes "node") noise) top
    else not (has (codes "x") noise) || is_cable_spot (whole_number_at (codes "x") noise))

-- the key that says where a burst is
abbrev pub spot_key : Members → List ℕ
spot_key noise = if has (codes "node") noise then codes "node" else codes "x"

-- where a node is on the cable
abbrev pub spot_of_node : Data → Data
spot_of_node (table ms) = unwrap_or (get_member (codes "x") ms) no_value
spot_of_node d = no_value

-- where bursts can be: where the noise says, or else at the places of the nodes
abbrev pub spots_or : Option Data → Members → List Data
spots_or (Some d) top = d ∷ []
spots_or None top = map spot_of_node (array_or_none (codes "node") top)

abbrev pub spots : Members → Members → List Data
spots noise top = spots_or (get_member (spot_key noise) noise) top

-- noise with these numbers, if all are there
abbrev pub noise_with : ℕ → Option ℕ → Option ℕ → Option ℕ → Option ℕ → Option Noise
noise_with places (Some tick) (Some rate) (Some lasts) (Some seed) =
    option_map (λ gap. record { seed = seed; gap = gap; length = lasts; places = places }) (mean_gap tick rate lasts)
noise_with places _ _ _ _ = None

abbrev pub noise_said : Units → Members → ℕ → Option Noise
noise_said u noise places =
    noise_with places u.tick (positive_number_at (codes "rate") noise) (positive_number_at (codes "length") noise) (whole_number_at (codes "seed") noise)

abbrev pub noise_in : Units → Members → Members → ℕ → Option Noise
noise_in u noise top places = if is_right noise top && nat_lt 0 places then noise_said u noise places else None

-- a burst of which the table of a disturbance can be made, at one of n places
abbrev pub IsPlaced : ℕ → Burst → Type 0
IsPlaced n burst = (burst.from ≤ LARGEST_WHOLE) × (burst.to ≤ LARGEST_WHOLE) × (burst.place < n)

-- a burst as the table of a disturbance
abbrev pub burst_table : List ℕ → List Data → Burst → Members
burst_table key spots burst =
    with_member (codes "to") (integer (pos burst.to)) (with_member (codes "from") (integer (pos burst.from))
    (with_member key (unwrap_or (slice_get spots burst.place) no_value) no_members))

abbrev pub burst_data : List ℕ → List Data → Burst → Data
burst_data key spots burst = table (burst_table key spots burst)

-- the disturbances that the plan has, unless the value is no array
abbrev pub written_or : Option Data → Option (List Data) → Option (List Data)
written_or None all = Some []
written_or (Some d) all = all

abbrev pub written : Members → Option (List Data)
written top = written_or (get_member (codes "disturbance") top) (array_at (codes "disturbance") top)

-- how many disturbances a plan may have; the name doesn't unfold, so that no goal computes so many bursts
unfoldable pub most_in_all : ℕ
most_in_all = disturbance_limit Wide

abbrev pub unless_many : List Data → Option (List Data)
unless_many ds = if nat_le (length ds) most_in_all then Some ds else None

-- those of the plan, and then the bursts that begin before its end
abbrev pub with_bursts : Members → Members → Option Noise → Option ℕ → Option (List Data) → Option (List Data)
with_bursts noise top (Some said) (Some end) (Some ds) =
    unless_many (ds ++ map (burst_data (spot_key noise) (spots noise top)) (bursts said end (most_in_all + 1)))
with_bursts noise top _ _ _ = None

abbrev pub noisy : Units → Members → Members → Option (List Data)
noisy u noise top =
    with_bursts noise top (noise_in u noise top (length (spots noise top))) (whole_number_at (codes "end") top) (written top)

abbrev pub noisy_of : Units → Option Members → Members → Option (List Data)
noisy_of u None top = None
noisy_of u (Some noise) top = noisy u (plain_row u row.Noise noise) top

-- disturbances in the place of the noise, or no value there if it makes none
abbrev pub put_noise : Option (List Data) → Members → Members
put_noise None top = with_member (codes "noise") no_value top
put_noise (Some ds) top = with_member (codes "disturbance") (array (items_of ds)) (without (codes "noise") top)

unfoldable pub with_noise : Units → Members → Members
with_noise u top =
    if has (codes "noise") top
    then put_noise (noisy_of u (option_and_then as_table (get_member (codes "noise") top)) top) top
    else top
