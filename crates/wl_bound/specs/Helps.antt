-- Which change by a quantum helps most. This project's.
use Rattle.std.specs.Prelude.{ℕ, zero, suc, ◌-◌, ◌==◌, ◌&&◌, ◌||◌, nat_lt, not, min, max, Bool, length, Option, Some, None, if◌then◌else◌}
use Rattle.std.specs.Result.{is_err}
use Rattle.wl_topology.specs.Driven.{any_below}
use Rattle.wl_bound.specs.declared.condition.Inequality.{Inequality}
use Rattle.wl_bound.specs.declared.condition.Inequality.TheVariants.{DriftFitsJump, BitIsThereAtSample, NoBitTooEarly}
use Rattle.wl_bound.specs.declared.condition.Senders.{Senders}
use Rattle.wl_bound.specs.declared.family.Change.{Change}
use Rattle.wl_bound.specs.declared.family.Change.TheVariants.{WiderJump, NarrowerJump, LaterSample, EarlierSample}
use Rattle.wl_bound.specs.declared.family.Setting.{Setting}
use Rattle.wl_bound.specs.declared.help.Reserve.{Reserve}
use Rattle.wl_bound.specs.declared.help.Best.{Best}
use Rattle.wl_bound.specs.Families.{Buses, bus_of, changed, member_at, only_listens}
use Rattle.wl_bound.specs.Terms.{greatest}
use Rattle.wl_bound.specs.Searches.{each}
use Rattle.wl_bound.specs.Conditions.{is_asked, left_by, plain, right_of}

-- more than any margin
abbrev pub no_margin : ℕ
no_margin = 1267650600228229401496703205376

-- the least of the numbers below n that pass a test, by f
abbrev pub least : ℕ → (ℕ → Bool) → (ℕ → ℕ) → ℕ
least zero test f = no_margin
least (suc n) test f = if test n then min (least n test f) (f n) else least n test f

-- what a pair lacks, and what it has to spare
abbrev pub lack_at : Buses → Setting → Senders → Inequality → ℕ → ℕ → ℕ
lack_at f s senders inequality i j = left_by f s senders inequality i j - right_of (bus_of f s) inequality i j

abbrev pub spare_at : Buses → Setting → Senders → Inequality → ℕ → ℕ → ℕ
spare_at f s senders inequality i j = right_of (bus_of f s) inequality i j - left_by f s senders inequality i j

-- the same of the worst pair with node i, and of the worst pair of all
abbrev pub lack_row : Buses → Setting → Senders → Inequality → ℕ → ℕ
lack_row f s senders inequality i = greatest (length f.members) (is_asked (only_listens f.cable) inequality i) (lack_at f s senders inequality i)

abbrev pub spare_row : Buses → Setting → Senders → Inequality → ℕ → ℕ
spare_row f s senders inequality i = least (length f.members) (is_asked (only_listens f.cable) inequality i) (spare_at f s senders inequality i)

abbrev pub reserve_of : Buses → Setting → Senders → Inequality → Reserve
reserve_of f s senders inequality = record {
  lack = greatest (length f.members) each (lack_row f s senders inequality);
  spare = least (length f.members) each (spare_row f s senders inequality);
}

abbrev pub worse_of : Reserve → Reserve → Reserve
worse_of a b = record { lack = max a.lack b.lack; spare = min a.spare b.spare }

-- the least margin: if some inequality fails, what is lacked the most; and what is to spare the least
unfoldable pub reserve_in : Buses → Setting → Senders → Reserve
reserve_in f s senders =
    worse_of (reserve_of f s senders DriftFitsJump)
    (worse_of (reserve_of f s senders BitIsThereAtSample) (reserve_of f s senders NoBitTooEarly))

-- a margin is greater
abbrev pub is_greater : Reserve → Reserve → Bool
is_greater a b = nat_lt a.lack b.lack || (a.lack == b.lack && nat_lt b.spare a.spare)

-- each node allows a change
abbrev pub is_refused_at : Buses → Change → ℕ → Bool
is_refused_at f change i = is_err (changed change (member_at f i).segments)

abbrev pub is_possible : Buses → Change → Bool
is_possible f change = not (any_below (length f.members) (is_refused_at f change))

abbrev pub with_change : Change → Setting
with_change change = record plain { change = Some change }

-- a change takes the place of the best so far if it is possible and its least margin is greater
abbrev pub or_better : Buses → Senders → Best → Change → Best
or_better f senders best change =
    if is_possible f change && is_greater (reserve_in f (with_change change) senders) best.reserve
    then record { change = Some change; reserve = reserve_in f (with_change change) senders } else best

-- the first of those that raise the least margin most
abbrev pub best_change : Buses → Senders → Best
best_change f senders =
    or_better f senders (or_better f senders (or_better f senders (or_better f senders
    (record { change = None; reserve = reserve_in f plain senders }) WiderJump) NarrowerJump) LaterSample) EarlierSample

-- the best change, if the condition holds with it
abbrev pub help_of : Buses → Senders → Option Change
help_of f senders = if (best_change f senders).reserve.lack == 0 then (best_change f senders).change else None
