-- The condition for a sound bus: three inequalities for each pair of nodes. This project's; what is taken from public texts is named.
use Rattle.std.specs.Prelude.{◌≡◌, ℕ, ◌+◌, ◌-◌, ◌*◌, ◌<◌, ◌≤◌, ◌==◌, ◌&&◌, ◌||◌, nat_lt, not, min, Bool, true, length, Option, Some, None, if◌then◌else◌}
use Rattle.std.specs.Option.{is_some}
use Rattle.wl_level.specs.Places.{first_place}
use Rattle.wl_segments.specs.Lengths.{sample_at}
use Rattle.wl_bound.specs.declared.condition.Inequality.{Inequality}
use Rattle.wl_bound.specs.declared.condition.Inequality.TheVariants.{DriftFitsJump, BitIsThereAtSample, NoBitTooEarly}
use Rattle.wl_bound.specs.declared.condition.Sides.{Sides}
use Rattle.wl_bound.specs.declared.condition.Failure.{Failure}
use Rattle.wl_bound.specs.declared.condition.Senders.{Senders}
use Rattle.wl_bound.specs.declared.condition.Senders.TheVariants.{Any, One}
use Rattle.wl_bound.specs.declared.family.Setting.{Setting}
use Rattle.wl_bound.specs.declared.family.Source.TheVariants.{Together, Alone}
use Rattle.wl_bound.specs.Families.{Buses, Bus, bus_of, member_at, only_listens}
use Rattle.wl_bound.specs.Terms.{greatest, ahead, drift, jump, look, early, apart, late, pulled, strays}

-- What takes time. What a node loses at changes of its rate makes it early, and never late. Ten bits of drift: stuffing gives an edge every ten bits at least (Bosch CAN 2.0 part B, section 10).
unfoldable pub left_of : Bus → Inequality → ℕ → ℕ → ℕ
left_of b DriftFitsJump i j = 10 * drift b i j + pulled b i j
left_of b BitIsThereAtSample i j = if i == j then b.delay i i + b.turns i else late b i j + 11 * strays b j + ahead b j
left_of b NoBitTooEarly i j = look b j + 10 * drift b i j + min (apart b j i) (early b j - b.delay j j) + b.tick + ahead b i

-- the time that there is: a jump of either node; the quanta up to the sample; PHASE_SEG2 (Bosch CAN 2.0 part B, section 10)
unfoldable pub right_of : Bus → Inequality → ℕ → ℕ → ℕ
right_of b DriftFitsJump i j = min (jump b i) (jump b j)
right_of b BitIsThereAtSample i j = sample_at (b.lengths i) * b.shortest i
right_of b NoBitTooEarly i j = (b.lengths i).ps2 * b.shortest i

-- The pairs that are asked. A node is no pair, but for its own bit, which must be back at its sample. What a node drives that only
-- listens comes back to itself and to no other node (ISO 11898-1, bus monitoring): it keeps up with the others, and they needn't with its bits.
abbrev pub is_asked : (ℕ → Bool) → Inequality → ℕ → ℕ → Bool
is_asked listens DriftFitsJump i j = not (i == j) && not (listens i && listens j)
is_asked listens BitIsThereAtSample i j = i == j || not (listens j)
is_asked listens NoBitTooEarly i j = not (i == j) && not (listens j)

-- The condition for one bus, for each pair that is asked.
pub record IsSound (b : Bus) : Type 0 where
  -- Ten bits of drift are within the jump width of both nodes; and within that of node i with what other senders pull node j forward. Else an edge
  -- doesn't put right what has gathered since the one before, and the nodes drift apart over a frame (Bosch CAN 2.0 part B, section 10; Hartwich and
  -- Bassemir, The configuration of the CAN bit timing; the pull is this project's).
  pub drift_fits_jump : (i j : ℕ) → i < b.nodes → j < b.nodes → is_asked b.listens DriftFitsJump i j ≡ true
      → left_of b DriftFitsJump i j ≤ right_of b DriftFitsJump i j
  -- There and back, the looks, and eleven bits of drift are within the way to the sample. Else a node samples before the other's bit has come: it
  -- takes a recessive bit for a dominant one or the other way round, in an arbitration or at an acknowledgement (Hartwich and Bassemir: PROP_SEG).
  pub bit_is_there_at_sample : (i j : ℕ) → i < b.nodes → j < b.nodes → is_asked b.listens BitIsThereAtSample i j ≡ true
      → left_of b BitIsThereAtSample i j ≤ right_of b BitIsThereAtSample i j
  -- The look, ten bits of drift and a tick are within PHASE_SEG2. Else the next bit of a fast node, or its acknowledgement, comes before the
  -- sample of the bit in front of it (Hartwich and Bassemir: the Phase_Seg2 of a late sampler; the look is this project's).
  pub no_bit_too_early : (i j : ℕ) → i < b.nodes → j < b.nodes → is_asked b.listens NoBitTooEarly i j ≡ true
      → left_of b NoBitTooEarly i j ≤ right_of b NoBitTooEarly i j

-- the left side for all senders at once, or the greatest for each of them alone
abbrev pub left_by : Buses → Setting → Senders → Inequality → ℕ → ℕ → ℕ
left_by f s Any inequality i j = left_of (bus_of f s) inequality i j
left_by f s One inequality i j = greatest (length f.members) (λ a. (member_at f a).sends)
    (λ a. left_of (bus_of f (record s { source = Alone a })) inequality i j)

abbrev pub sides_in : Buses → Setting → Senders → Inequality → ℕ → ℕ → Sides
sides_in f s senders inequality i j = record { left = left_by f s senders inequality i j; right = right_of (bus_of f s) inequality i j }

-- an inequality fails for a pair
abbrev pub fails : Buses → Setting → Senders → Inequality → ℕ → ℕ → Bool
fails f s senders inequality i j =
    is_asked (only_listens f.cable) inequality i j && nat_lt (right_of (bus_of f s) inequality i j) (left_by f s senders inequality i j)

-- it fails for node i and some other
abbrev pub fails_at : Buses → Setting → Senders → Inequality → ℕ → Bool
fails_at f s senders inequality i = is_some (first_place (fails f s senders inequality i) (length f.members))

-- the failure at a pair, if there is one
abbrev pub failure_at : Buses → Setting → Senders → Inequality → ℕ → Option ℕ → Option Failure
failure_at f s senders inequality i None = None
failure_at f s senders inequality i (Some j) =
    Some (record { inequality = inequality; node = i; other = j; sides = sides_in f s senders inequality i j })

abbrev pub failure_in : Buses → Setting → Senders → Inequality → Option ℕ → Option Failure
failure_in f s senders inequality None = None
failure_in f s senders inequality (Some i) =
    failure_at f s senders inequality i (first_place (fails f s senders inequality i) (length f.members))

-- the failure of one pair, if it fails
abbrev pub pair_failure : Buses → Setting → Senders → Inequality → ℕ → ℕ → Option Failure
pair_failure f s senders inequality i j =
    if fails f s senders inequality i j
    then Some (record { inequality = inequality; node = i; other = j; sides = sides_in f s senders inequality i j })
    else None

-- the first pair for which it fails, by its first node and then by its second
abbrev pub failure_of : Buses → Setting → Senders → Inequality → Option Failure
failure_of f s senders inequality = failure_in f s senders inequality (first_place (fails_at f s senders inequality) (length f.members))

abbrev pub or_else : Option Failure → Option Failure → Option Failure
or_else None other = other
or_else (Some failure) other = Some failure

-- the first failure: by the inequality, in their order, and then by the pair
unfoldable pub first_failure_of : Buses → Setting → Senders → Option Failure
first_failure_of f s senders =
    or_else (failure_of f s senders DriftFitsJump)
    (or_else (failure_of f s senders BitIsThereAtSample) (failure_of f s senders NoBitTooEarly))

-- the plan's own cable and tolerances
abbrev pub plain : Setting
plain = record { source = Together; change = None; wider = 0; length = 1; longer = 0 }
