-- The inequalities that bound how long messages wait, as a test of rows (`AreEnoughByInstances` of wl_counts over the terms of wl_buses::bounded_waits).
use Rattle.std.specs.Prelude.{ℕ, ◌+◌, ◌-◌, ◌*◌, ◌==◌, ◌&&◌, ◌||◌, nat_le, nat_lt, not, max, min, Bool, List, length, slice_index_or, if◌then◌else◌}
use Rattle.wl_topology.specs.Driven.{any_below}
use Rattle.wl_counts.specs.Counts.{periods_in, sum_below}
use Rattle.wl_bound.specs.Terms.{greatest}
use Rattle.wl_respond.specs.Rows.{MessageTerms, row_at, wait_limit}

module _ (lead : ℕ) where
  -- How long before the instant of a window of m a frame of e may have become ready: one that waits after a lesser frame of its own queue has its wait beside that (Davis, Kollmann, Pollex, Slomka 2011).
  -- By priority none waits so: the level of e is its own field then.
  abbrev pub head_start : (m e : MessageTerms) → ℕ
  head_start m e = lead + (if nat_lt m.level e.level then e.wait else 0)

  -- how long the frames of e in a window of m with a length of w take
  abbrev pub window_share : (w : ℕ) → (m e : MessageTerms) → ℕ
  window_share w m e = if nat_le e.field m.level then periods_in (head_start m e + w) e.period * e.cost else 0

  -- how many frames of m a window has at most that has all its frames (Davis, Burns, Bril, Lukkien 2007, section 3.2)
  abbrev pub instances : MessageTerms → ℕ
  instances m = periods_in (head_start m m + m.window) m.period

  -- Instance j of m, with a window of length w, is sent within the wait. It is ready j periods after the first at least.
  abbrev pub is_wait_enough : (m : MessageTerms) → (j w : ℕ) → Bool
  is_wait_enough m j w = nat_le (head_start m m + w + m.tail) (m.wait + j * m.period)

  -- each is, by the window that has all its frames (Tindell, Burns 1994, of the busy period: `one_window_is_enough_for_each_instance` of wl_counts)
  abbrev pub is_whole_enough : MessageTerms → Bool
  is_whole_enough m = nat_le (head_start m m + m.window + m.tail) (m.wait + m.cost)

-- the window of instance j of a message, from the list of those of all
abbrev pub window_at : List ℕ → MessageTerms → ℕ → ℕ
window_at windows m j = min (slice_index_or windows (m.first + j) 0) (wait_limit - 1)

module _ (lead wake : ℕ) (rows : List MessageTerms) where
  -- how long all frames in a window of m take; and how long a frame beyond its level blocks, or a gap
  abbrev pub window_demand : MessageTerms → ℕ
  window_demand m = sum_below (λ e. window_share lead m.window m (row_at rows e)) (length rows)

  abbrev pub blocked_for : MessageTerms → ℕ
  blocked_for m = max wake (greatest (length rows) (λ e. not (nat_le (row_at rows e).field m.level)) (λ e. (row_at rows e).cost))

  -- the same of a window with a length of w up to instance j of message k, that isn't counted
  abbrev pub instance_share : (k j w e : ℕ) → ℕ
  instance_share k j w e = if e == k then j * (row_at rows k).cost else window_share lead w (row_at rows k) (row_at rows e)

  abbrev pub instance_demand : (k j w : ℕ) → ℕ
  instance_demand k j w = sum_below (instance_share k j w) (length rows)

  -- The inequalities of a message: one for the window that has all its frames; and one for the wait by that window, or two for each instance there (Davis, Burns, Bril, Lukkien 2007, sections 3.1 and 3.2, as a test).
  abbrev pub is_window_enough : MessageTerms → Bool
  is_window_enough m = nat_le (blocked_for m + window_demand m) m.window

  abbrev pub is_room_enough : (k j w : ℕ) → Bool
  is_room_enough k j w = nat_le (blocked_for (row_at rows k) + instance_demand k j w) w

  module _ (windows : List ℕ) where
    abbrev pub is_instance_enough : (k j : ℕ) → Bool
    is_instance_enough k j =
        is_room_enough k j (window_at windows (row_at rows k) j) && is_wait_enough lead (row_at rows k) j (window_at windows (row_at rows k) j)

    abbrev pub lacks_instance : (k j : ℕ) → Bool
    lacks_instance k j = not (is_instance_enough k j)

    -- the list has a window for each instance
    abbrev pub has_windows : ℕ → Bool
    has_windows k = nat_le (instances lead (row_at rows k)) (length windows)

    abbrev pub are_instances_enough : ℕ → Bool
    are_instances_enough k = has_windows k && not (any_below (instances lead (row_at rows k)) (lacks_instance k))

    abbrev pub is_enough : ℕ → Bool
    is_enough k = is_window_enough (row_at rows k) && (is_whole_enough lead (row_at rows k) || are_instances_enough k)

    abbrev pub lacks_enough : ℕ → Bool
    lacks_enough k = not (is_enough k)

    abbrev pub are_enough : Bool
    are_enough = not (any_below (length rows) lacks_enough)
