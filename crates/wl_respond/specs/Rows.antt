-- A message in numbers: what the inequalities are about. Times are in millionths of a tick.
use Rattle.std.specs.Prelude.{ℕ, ◌<◌, ◌^◌, List, slice_index_or}

-- The node of a message, its arbitration field, and the greatest field that may go before it: the level. Its time from a frame's beginning to that of the next winner, and to its own end; the shortest
-- time between two of its frames. A window of its frames, and its greatest wait. The place of its first instance's window in the list of those of all. Davis, Burns, Bril, Lukkien 2007, section 2.
pub record MessageTerms : Type 0 where
  pub node : ℕ
  pub field : ℕ
  pub level : ℕ
  pub cost : ℕ
  pub tail : ℕ
  pub period : ℕ
  pub window : ℕ
  pub wait : ℕ
  pub first : ℕ

-- what the numbers stay below, so that all fits 128 bits: this project's
abbrev pub cost_limit : ℕ
cost_limit = 2 ^ 105

abbrev pub period_limit : ℕ
period_limit = 2 ^ 106

abbrev pub wait_limit : ℕ
wait_limit = 2 ^ 90

pub record IsRow (r : MessageTerms) : Type 0 where
  pub some : 0 < r.period
  pub period : r.period < period_limit
  pub cost : r.cost < cost_limit
  pub tail : r.tail < cost_limit
  pub window : r.window < wait_limit
  pub wait : r.wait < wait_limit

abbrev pub no_row : MessageTerms
no_row = record { node = 0; field = 0; level = 0; cost = 0; tail = 0; period = 1; window = 0; wait = 0; first = 0 }

abbrev pub row_at : List MessageTerms → ℕ → MessageTerms
row_at rows e = slice_index_or rows e no_row
