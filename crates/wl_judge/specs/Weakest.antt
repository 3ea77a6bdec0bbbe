-- The pair of nodes to which an inequality leaves least (this project's profile).
use Rattle.std.specs.Prelude.{ℕ, zero, suc, ◌-◌, ◌<◌, ◌==◌, ◌&&◌, ◌||◌, nat_le, nat_lt, not, Bool, false, length, if◌then◌else◌, Option, Some, None}
use Rattle.wl_topology.specs.Driven.{any_below}
use Rattle.wl_level.specs.Places.{first_place}
use Rattle.wl_bound.specs.Conditions.{is_asked, plain, sides_in}
use Rattle.wl_bound.specs.Families.{Buses, member_at, only_listens}
use Rattle.wl_bound.specs.Oscillators.{longest_of}
use Rattle.wl_bound.specs.declared.condition.Inequality.{Inequality}
use Rattle.wl_bound.specs.declared.condition.Inequality.TheVariants.{DriftFitsJump, BitIsThereAtSample, NoBitTooEarly}
use Rattle.wl_bound.specs.declared.condition.Senders.{Senders}
use Rattle.wl_bound.specs.declared.condition.Sides.{Sides}
use Rattle.wl_judge.specs.declared.weakest.Pair.{Pair}
use Rattle.wl_judge.specs.declared.weakest.Weakest.{Weakest}

-- the first of two inequalities leaves less than the second: what is to spare is right less left, and may be below 0
abbrev pub leaves_less : Sides → Sides → Bool
leaves_less a b =
    if nat_le a.left a.right then nat_le b.left b.right && nat_lt (a.right - a.left) (b.right - b.left)
    else nat_le b.left b.right || nat_lt (b.left - b.right) (a.left - a.right)

-- the weaker of two pairs, and the first of equal ones
abbrev pub weaker_pair : Pair → Pair → Pair
weaker_pair a b = if leaves_less b.sides a.sides then b else a

abbrev pub weaker : Option Pair → Option Pair → Option Pair
weaker None other = other
weaker (Some a) None = Some a
weaker (Some a) (Some b) = Some (weaker_pair a b)

module _ (f : Buses) (senders : Senders) (inequality : Inequality) where
  -- two nodes, if the inequality is asked of them
  abbrev pub pair_at : ℕ → ℕ → Option Pair
  pair_at i j =
      if not (i == j) && is_asked (only_listens f.cable) inequality i j
      then Some (record { node = i; other = j; sides = sides_in f plain senders inequality i j }) else None

  -- the weakest pair of node i with the nodes below a number, and of the nodes below a number
  abbrev pub weakest_with : ℕ → ℕ → Option Pair
  weakest_with i zero = None
  weakest_with i (suc j) = weaker (weakest_with i j) (pair_at i j)

  abbrev pub weakest_below : ℕ → Option Pair
  weakest_below zero = None
  weakest_below (suc i) = weaker (weakest_below i) (weakest_with i (length f.members))

  abbrev pub weakest_pair : Option Pair
  weakest_pair = weakest_below (length f.members)

-- nodes of a bus
abbrev pub IsPairOf : Buses → Pair → Type 0
IsPairOf f pair = (pair.node < length f.members) × (pair.other < length f.members)

-- the weakest pairs of a bus
abbrev pub weakest_of : Buses → Senders → Weakest
weakest_of f senders = record {
  late = weakest_pair f senders BitIsThereAtSample;
  early = weakest_pair f senders NoBitTooEarly;
  drift = weakest_pair f senders DriftFitsJump;
}

-- a node is one of a pair
abbrev pub is_of_pair : ℕ → Option Pair → Bool
is_of_pair i None = false
is_of_pair i (Some pair) = i == pair.node || i == pair.other

abbrev pub is_weak : ℕ → Weakest → Bool
is_weak i weak = is_of_pair i weak.late || is_of_pair i weak.early || is_of_pair i weak.drift

-- no node has longer quanta
abbrev pub has_longer : Buses → ℕ → ℕ → Bool
has_longer f i j = nat_lt (longest_of (member_at f i).oscillator 0) (longest_of (member_at f j).oscillator 0)

abbrev pub is_coarsest : Buses → ℕ → Bool
is_coarsest f i = not (any_below (length f.members) (has_longer f i))

abbrev pub coarsest : Buses → Option ℕ
coarsest f = first_place (is_coarsest f) (length f.members)
