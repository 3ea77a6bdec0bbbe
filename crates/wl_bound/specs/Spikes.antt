-- Whether one spike can hide a frame from a receiver, all error active: the receiver drops the frame, and its sender has sent it. This project's.
use Rattle.std.specs.Prelude.{ℕ, zero, suc, ◌+◌, ◌-◌, ◌*◌, ◌==◌, ◌&&◌, nat_lt, not, Bool, length, Option, Some, None, if◌then◌else◌}
use Rattle.std.specs.Option.{is_some}
use Rattle.wl_bound.specs.declared.condition.Inequality.TheVariants.{BitIsThereAtSample}
use Rattle.wl_bound.specs.declared.condition.Senders.{Senders}
use Rattle.wl_bound.specs.declared.family.Setting.{Setting}
use Rattle.wl_bound.specs.declared.spikes.Hiding.{Hiding}
use Rattle.wl_bound.specs.Conditions.{sides_in}
use Rattle.wl_bound.specs.Families.{Bus, Buses, bus_of, member_at, only_listens}
use Rattle.wl_bound.specs.Terms.{jump}

-- What one spike moves, by the jump widths (Bosch CAN 2.0 part B, section 10): it is an edge to each node that it reaches. So node j may begin its error flag a jump later, and node i may sample a jump
-- earlier.
abbrev pub both_jumps : Bus → (i j : ℕ) → ℕ
both_jumps b i j = (b.lengths j).sjw * b.longest j + jump b i

-- A receiver has a frame with the last bit but one of its end, and the sender has sent it with the last (Bosch CAN 2.0 part B, section 5). So node j can drop it for one spike, in the last bit but one. Its
-- flag begins with the last bit, and node i has to find that at its sample: in time without a spike, and with both jumps.
abbrev pub hiding_of : Buses → Setting → Senders → (i j : ℕ) → Hiding
hiding_of f s senders i j = record { sender = i; receiver = j; late = sides_in f s senders BitIsThereAtSample i j; jumps = both_jumps (bus_of f s) i j }

-- by how much the flag may come too late
abbrev pub lacks : Hiding → ℕ
lacks h = h.jumps - (h.late.right - h.late.left)

-- node i sends, and node j answers by a flag that others find
abbrev pub are_flagged : Buses → (i j : ℕ) → Bool
are_flagged f i j = (member_at f i).sends && (not (i == j) && not (only_listens f.cable j))

-- one spike may hide a frame of node i from node j
abbrev pub may_hide : Buses → Setting → Senders → (i j : ℕ) → Bool
may_hide f s senders i j = are_flagged f i j && nat_lt 0 (lacks (hiding_of f s senders i j))

-- the worse of two pairs, and the first of equal ones
abbrev pub worse_hiding : Hiding → Hiding → Hiding
worse_hiding a b = if nat_lt (lacks a) (lacks b) then b else a

abbrev pub worse_of_two : Option Hiding → Option Hiding → Option Hiding
worse_of_two None other = other
worse_of_two (Some a) None = Some a
worse_of_two (Some a) (Some b) = Some (worse_hiding a b)

module _ (f : Buses) (s : Setting) (senders : Senders) where
  abbrev pub hiding_at : (i j : ℕ) → Option Hiding
  hiding_at i j = if may_hide f s senders i j then Some (hiding_of f s senders i j) else None

  -- the worst pair of node i with the nodes below a number, and of the senders below a number
  abbrev pub worst_with : (i n : ℕ) → Option Hiding
  worst_with i zero = None
  worst_with i (suc j) = worse_of_two (worst_with i j) (hiding_at i j)

  abbrev pub worst_below : ℕ → Option Hiding
  worst_below zero = None
  worst_below (suc i) = worse_of_two (worst_below i) (worst_with i (length f.members))

  -- the pair whose flag may come too late by most; none if each flag comes in time
  abbrev pub worst_hiding : Option Hiding
  worst_hiding = worst_below (length f.members)

  abbrev pub hides_no_frame : Bool
  hides_no_frame = not (is_some worst_hiding)
