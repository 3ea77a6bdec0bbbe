-- Flags, the wait after a flag, and the delimiter: each by its own list of samples. (Bosch CAN 2.0 part B, sections 3.2.3 and
-- 3.2.4. Which recessive flag bits, late flags and long dominant runs are counted also after overload flags and passive flags is this
-- project's profile of section 8, rules 2 and 4 to 6.)
use Rattle.std.specs.Prelude.{ℕ, ◌-◌, ◌%◌, ◌==◌, ◌&&◌, nat_le, Bool, true, false, not, List, [], ◌∷◌, ◌++◌, length, if◌then◌else◌}
use Rattle.std.specs.List.{list_any}
use Rattle.wl_level.specs.declared.Level.{Level}
use Rattle.wl_level.specs.declared.Level.TheVariants.{Dominant}
use Rattle.wl_level.specs.Levels.{is_dominant}
use Rattle.wl_level.specs.Places.{run_at_end}
use Rattle.wl_confine.specs.declared.ErrorKind.{ErrorKind}
use Rattle.wl_confine.specs.declared.ErrorKind.TheVariants.{Bit, Form}
use Rattle.wl_confine.specs.declared.Mode.{Mode}
use Rattle.wl_confine.specs.declared.Mode.TheVariants as modes
use Rattle.wl_confine.specs.declared.Happened.{Happened}
use Rattle.wl_confine.specs.declared.Happened.TheVariants as happens
use Rattle.wl_machine.specs.declared.state.Role.{Role}
use Rattle.wl_machine.specs.declared.state.Role.TheVariants.{Tx, Rx}
use Rattle.wl_machine.specs.Stretch.{Flag, Sampled, Judgement, continues, begins}
use Rattle.wl_machine.specs.Stretch.Flag.{ActiveFlag, OverloadFlag, PassiveFlag}
use Rattle.wl_machine.specs.Stretch.Sort.{Flagging, Waiting, Delimiting, Intermission}

-- what counts for a transmitter or a receiver: an error, a flag bit found recessive, a dominant run that is too long (section 8)
abbrev pub error_of : Role → ErrorKind → Happened
error_of Tx kind = happens.TxError kind
error_of Rx kind = happens.RxError kind

abbrev pub flag_bit_of : Role → Happened
flag_bit_of Tx = happens.TxFlagBit
flag_bit_of Rx = happens.RxFlagBit

abbrev pub long_of : Role → Happened
long_of Tx = happens.TxLong
long_of Rx = happens.RxLong

-- the flag of an error, by the mode before it: only an error active node sends an active one (section 8)
abbrev pub error_flag : Mode → Flag
error_flag modes.Active = ActiveFlag
error_flag modes.Passive = PassiveFlag false
error_flag modes.Off = PassiveFlag false

-- an error of this kind, whose flag begins with the next bit (section 7.2)
abbrev pub fails : Role → Mode → ErrorKind → Judgement
fails role mode kind = begins (error_of role kind) (Flagging (error_flag mode) role) []

-- Six bits that are driven dominant, whatever is found; each that is found recessive counts.
abbrev pub dominant_flag : Flag → Role → List Level → Sampled → Judgement
dominant_flag flag role own x =
    let happened = if is_dominant x.level then happens.Nothing else flag_bit_of role in
    if length own == 5 then begins happened (Waiting flag role (own ++ x.level ∷ [])) [] else continues happened

-- A passive flag is over with six equal samples in a row. Where it is that of a missing acknowledgement, its first dominant sample
-- makes the error count (section 8, rule 3, exception 1).
abbrev pub passive_flag : Bool → Role → List Level → Sampled → Judgement
passive_flag unacknowledged role own x =
    let happened = if unacknowledged && is_dominant x.level && not (list_any is_dominant own) then happens.PassiveAck else happens.Nothing in
    if run_at_end x.level (own ++ x.level ∷ []) == 6 then begins happened (Waiting (PassiveFlag unacknowledged) role (own ++ x.level ∷ [])) []
    else continues happened

abbrev pub flagging : Flag → Role → List Level → Sampled → Judgement
flagging ActiveFlag role own x = dominant_flag ActiveFlag role own x
flagging OverloadFlag role own x = dominant_flag OverloadFlag role own x
flagging (PassiveFlag unacknowledged) role own x = passive_flag unacknowledged role own x

-- the first of a count, and each eighth after it
abbrev pub is_each_eighth : ℕ → ℕ → Bool
is_each_eighth first n = nat_le first n && ((n - first) % 8 == 0)

-- how many dominant samples in a row are too many after a flag (section 8, rule 6)
abbrev pub long_from : Flag → ℕ
long_from ActiveFlag = 14
long_from OverloadFlag = 14
long_from (PassiveFlag unacknowledged) = 8

-- the unbroken dominant run at the end of a wait: with the flag's own samples, but for a passive flag
abbrev pub dominant_run : Flag → List Level → List Level → ℕ
dominant_run ActiveFlag flagged own = run_at_end Dominant (flagged ++ own)
dominant_run OverloadFlag flagged own = run_at_end Dominant (flagged ++ own)
dominant_run (PassiveFlag unacknowledged) flagged own = run_at_end Dominant own

-- a dominant first sample counts for a receiver, after the flag of an error (section 8, rule 2)
abbrev pub is_after_flag : Flag → Role → List Level → Bool
is_after_flag ActiveFlag Rx [] = true
is_after_flag (PassiveFlag unacknowledged) Rx [] = true
is_after_flag flag role own = false

-- the wait until the line is recessive, which is the first bit of the delimiter
abbrev pub waiting : Flag → Role → List Level → List Level → Sampled → Judgement
waiting flag role flagged own x =
    if not (is_dominant x.level) then begins happens.Nothing (Delimiting role) (x.level ∷ [])
    else if is_after_flag flag role own then continues happens.RxAfterFlag
    else if is_each_eighth (long_from flag) (dominant_run flag flagged (own ++ x.level ∷ [])) then continues (long_of role)
    else continues happens.Nothing

-- an error in a delimiter: a bit that a transmitter sends otherwise, or a field of fixed form (section 7.1)
abbrev pub delimiter_error : Role → ErrorKind
delimiter_error Tx = Bit
delimiter_error Rx = Form

-- Eight recessive bits. A dominant one is an error, but for the last, which is an overload (section 3.2.4).
abbrev pub delimiting : Role → List Level → Sampled → Judgement
delimiting role own x =
    if not (is_dominant x.level) then (if length own == 7 then begins happens.Nothing (Intermission role) [] else continues happens.Nothing)
    else if length own == 7 then begins happens.Nothing (Flagging OverloadFlag role) []
    else fails role x.mode (delimiter_error role)
