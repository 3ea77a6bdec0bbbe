-- Fault confinement: the error counters of a node as a function of all that happened to it, and the mode that they give.
use Rattle.std.specs.Prelude.{ℕ, ◌+◌, ◌-◌, ◌≤◌, ◌||◌, nat_lt, nat_le, min, Bool, true, false, List, if◌then◌else◌, fold}
use Rattle.wl_confine.specs.declared.Happened.{Happened}
use Rattle.wl_confine.specs.declared.Happened.TheVariants.{Nothing, RxError, RxAfterFlag, RxFlagBit, RxLong, TxError, TxFree, PassiveAck, TxFlagBit, TxLong, Sent, Acked, Recovered}
use Rattle.wl_confine.specs.declared.Mode.{Mode}
use Rattle.wl_confine.specs.declared.Mode.TheVariants.{Active, Passive, Off}

-- the transmit error count (TEC) and the receive error count (REC); Bosch CAN 2.0 part B, section 8
pub record Counts : Type 0 where
  pub tec : ℕ
  pub rec : ℕ

-- the TEC from which on a node is bus off; Bosch CAN 2.0 part B, section 8, rule 10
abbrev pub off_at : ℕ
off_at = 256

-- the TEC or REC from which on a node is error passive; Bosch CAN 2.0 part B, section 8, rule 9
abbrev pub passive_at : ℕ
passive_at = 128

-- where the REC stops; this project's profile
abbrev pub greatest_rec : ℕ
greatest_rec = 255

-- what a REC above 127 becomes by a reception; Bosch CAN 2.0 part B, section 8, rule 8, with 127 as this project's profile
abbrev pub lowered_rec : ℕ
lowered_rec = 127

-- what an error, a flag or a long run of dominant bits adds; Bosch CAN 2.0 part B, section 8, rules 2 to 6
abbrev pub penalty : ℕ
penalty = 8

-- n more at the TEC, which is kept at 256 once it is that much; this project's profile
abbrev pub tec_up : ℕ → Counts → Counts
tec_up n c = record { tec = min off_at (c.tec + n); rec = c.rec }

-- n more at the REC, which stops at 255; this project's profile
abbrev pub rec_up : ℕ → Counts → Counts
rec_up n c = record { tec = c.tec; rec = min greatest_rec (c.rec + n) }

-- the counts of a node to which nothing happened yet; Bosch CAN 2.0 part B, section 8
abbrev pub no_counts : Counts
no_counts = record { tec = 0; rec = 0 }

-- the counts after one more thing happened; Bosch CAN 2.0 part B, section 8, rules 1 to 8 and 12
abbrev pub counts_after : Counts → Happened → Counts
counts_after c Nothing = c
counts_after c (RxError _) = rec_up 1 c
counts_after c RxAfterFlag = rec_up penalty c
counts_after c RxFlagBit = rec_up penalty c
counts_after c RxLong = rec_up penalty c
counts_after c (TxError _) = tec_up penalty c
counts_after c TxFree = c
counts_after c PassiveAck = tec_up penalty c
counts_after c TxFlagBit = tec_up penalty c
counts_after c TxLong = tec_up penalty c
counts_after c Sent = record { tec = c.tec - 1; rec = c.rec }
counts_after c Acked = record { tec = c.tec; rec = if nat_lt lowered_rec c.rec then lowered_rec else c.rec - 1 }
counts_after c Recovered = no_counts

-- the counts after all that happened; Bosch CAN 2.0 part B, section 8
abbrev pub counts_of : List Happened → Counts
counts_of happened = fold counts_after no_counts happened

-- the mode that the counts give; Bosch CAN 2.0 part B, section 8, rules 9 to 11
abbrev pub mode_of : Counts → Mode
mode_of c =
    if nat_le off_at c.tec then Off
    else if nat_le passive_at c.tec || nat_le passive_at c.rec then Passive
    else Active

-- an error was found, whether or not a counter moves; Bosch CAN 2.0 part B, section 7.1
abbrev pub is_error : Happened → Bool
is_error (RxError _) = true
is_error (TxError _) = true
is_error TxFree = true
is_error _ = false

-- what holds of the counters of every node; this project's profile
pub record AreCounts (c : Counts) : Type 0 where
  pub tec : c.tec ≤ off_at
  pub rec : c.rec ≤ greatest_rec
