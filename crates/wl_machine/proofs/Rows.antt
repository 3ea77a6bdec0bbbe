-- Worked examples of the machine, by computation.
use Rattle.std.proofs.Common.{◌≡◌, ℕ, zero, suc, ◌-◌, List, [], ◌∷◌, ◌++◌, true, false, Option, Some, None, refl, replicate}
use Rattle.wl_level.specs.declared.Level.{Level}
use Rattle.wl_level.specs.declared.Level.TheVariants.{Dominant, Recessive}
use Rattle.wl_confine.specs.declared.ErrorKind.TheVariants.{Stuff, Ack, Crc}
use Rattle.wl_confine.specs.declared.Mode.TheVariants.{Active, Passive}
use Rattle.wl_confine.specs.declared.Happened.{Happened}
use Rattle.wl_confine.specs.declared.Happened.TheVariants as happens
use Rattle.wl_frame.specs.Grammar.{Content, bits_of, number_bits}
use Rattle.wl_machine.specs.Keeps.{keeps, keeps_in_sent_tail, keeps_in_tail, state_keeps}
use Rattle.wl_machine.specs.declared.state.State.TheVariants as states
use Rattle.wl_machine.specs.declared.state.Role.{Role}
use Rattle.wl_machine.specs.declared.state.Role.TheVariants.{Tx, Rx}
use Rattle.wl_machine.specs.Stretch.{Stretch, Sampled, Input, Ended}
use Rattle.wl_machine.specs.Stretch.Sort.{Integration, Framing, Flagging, Suspension}
use Rattle.wl_machine.specs.Stretch.Flag.{PassiveFlag}
use Rattle.wl_machine.specs.Stretch.Ended.{Sent, Received}
use Rattle.wl_machine.specs.Stretch.Input.{Sample, SwitchedOff}
use Rattle.wl_machine.specs.Judged.{awaits_start, judged, stretch_of, stretch_after, drive_of, role_of}
use Rattle.wl_machine.specs.BetweenFrames.{begun_head}
use Rattle.wl_machine.specs.RecessiveStay.{rest_by, rest_of}

abbrev heard : Level → Sampled
heard level = record { level = level; head = None; mode = Active }

abbrev all : ℕ → Level → List Input
all n level = replicate n (Sample (heard level))

-- what happens at a dominant sample after n recessive and m dominant ones
abbrev stuck : ℕ → ℕ → Happened
stuck n m = (judged (stretch_of (all n Recessive ++ all m Dominant)) (heard Dominant)).happened

-- eleven recessive samples, and dominant for ever: a stuff error at 17
before_stuff : stuck 11 4 ≡ happens.Nothing
unfolding bits_of number_bits
before_stuff = refl

stuff_error : stuck 11 5 ≡ happens.RxError Stuff
unfolding bits_of number_bits
stuff_error = refl

-- six flag bits, and a dominant sample after them
in_flag : stuck 11 11 ≡ happens.Nothing
unfolding bits_of number_bits
in_flag = refl

after_flag : stuck 11 12 ≡ happens.RxAfterFlag
unfolding bits_of number_bits
after_flag = refl

-- the 14th dominant sample since the flag began, and each eighth
long : stuck 11 19 ≡ happens.RxLong
unfolding bits_of number_bits
long = refl

long_again : stuck 11 27 ≡ happens.RxLong
unfolding bits_of number_bits
long_again = refl

between : stuck 11 26 ≡ happens.Nothing
unfolding bits_of number_bits
between = refl

-- one sample of a machine alone on its wire
abbrev alone : Option Content → Stretch → Stretch
alone head s = stretch_after s (Sample (record { level = drive_of s; head = head; mode = Active }))

abbrev alone_after : Option Content → ℕ → Stretch
alone_after head zero = record { sort = Integration; own = [] }
alone_after head (suc n) = alone head (alone_after head n)

abbrev zero_frame : Option Content
zero_frame = Some (record { extended = false; id = 0; remote = false; dlc = 0; bytes = [] })

abbrev happens_alone : ℕ → Happened
happens_alone n =
    let s = alone_after zero_frame n in
    (judged s (record { level = drive_of s; head = zero_frame; mode = Active })).happened

early : happens_alone 20 ≡ happens.Nothing
unfolding bits_of number_bits
early = refl

-- nobody acknowledges: an error of the acknowledgement at sample 53
ack : happens_alone 52 ≡ happens.TxError Ack
unfolding bits_of number_bits
ack = refl

again : happens_alone 111 ≡ happens.TxError Ack
unfolding bits_of number_bits
again = refl

-- two machines on one wire, each with its head
record Pair : Type 0 where
  first : Stretch
  second : Stretch
  first_head : Option Content
  second_head : Option Content

abbrev wire : Level → Level → Level
wire Dominant b = Dominant
wire Recessive b = b

abbrev level_on : Pair → Level
level_on p = wire (drive_of p.first) (drive_of p.second)

abbrev sampled_by : Pair → Option Content → Sampled
sampled_by p head = record { level = level_on p; head = head; mode = Active }

-- a frame that is sent is no longer the head
abbrev head_after : Ended → Option Content → Option Content
head_after (Sent frame) head = None
head_after done head = head

abbrev stepped : Pair → Level → Pair
stepped p level =
    let x : Sampled = record { level = level; head = p.first_head; mode = Active } in
    let y : Sampled = record { level = level; head = p.second_head; mode = Active } in
    record {
      first = stretch_after p.first (Sample x);
      second = stretch_after p.second (Sample y);
      first_head = head_after (judged p.first x).ended p.first_head;
      second_head = head_after (judged p.second y).ended p.second_head;
    }

abbrev pair_after : Option Content → Option Content → ℕ → Pair
pair_after a b zero = record { first = record { sort = Integration; own = [] }; second = record { sort = Integration; own = [] }; first_head = a; second_head = b }
pair_after a b (suc n) = let p = pair_after a b n in stepped p (level_on p)

abbrev base : ℕ → Content
base id = record { extended = false; id = id; remote = false; dlc = 0; bytes = [] }

-- what is done at sample n, counted from 1, by the first and by the second
abbrev first_done : Option Content → Option Content → ℕ → Ended
first_done a b n = let p = pair_after a b (n - 1) in (judged p.first (sampled_by p p.first_head)).ended

abbrev second_done : Option Content → Option Content → ℕ → Ended
second_done a b n = let p = pair_after a b (n - 1) in (judged p.second (sampled_by p p.second_head)).ended

received_58 : second_done (Some (base 256)) (Some (base 257)) 58 ≡ Received (base 256)
unfolding bits_of number_bits
received_58 = refl

sent_59 : first_done (Some (base 256)) (Some (base 257)) 59 ≡ Sent (base 256)
unfolding bits_of number_bits
sent_59 = refl

received_107 : first_done (Some (base 256)) (Some (base 257)) 107 ≡ Received (base 257)
unfolding bits_of number_bits
received_107 = refl

sent_108 : second_done (Some (base 256)) (Some (base 257)) 108 ≡ Sent (base 257)
unfolding bits_of number_bits
sent_108 = refl

received_60 : second_done (Some (base 0)) None 60 ≡ Received (base 0)
unfolding bits_of number_bits
received_60 = refl

sent_61 : first_done (Some (base 0)) None 61 ≡ Sent (base 0)
unfolding bits_of number_bits
sent_61 = refl

-- the receiver acknowledges at 53
acked_53 : (let p = pair_after (Some (base 0)) None 52 in (judged p.second (sampled_by p p.second_head)).happened) ≡ happens.Acked
unfolding bits_of number_bits
acked_53 = refl

-- the greater identifier is a transmitter up to sample 23, and loses at 24
abbrev second_role : ℕ → Role
second_role n = role_of (pair_after (Some (base 256)) (Some (base 257)) n).second

sends_23 : second_role 23 ≡ Tx
unfolding bits_of number_bits
sends_23 = refl

loses_24 : second_role 24 ≡ Rx
unfolding bits_of number_bits
loses_24 = refl

-- An extended frame and a base frame of identifier 0: the extended one loses at 26 to a data frame, whose RTR bit meets its SRR bit,
-- and at 27 to a remote frame, whose IDE bit meets its own.
abbrev extended : Option Content
extended = Some (record { extended = true; id = 0; remote = false; dlc = 0; bytes = [] })

abbrev remote : Option Content
remote = Some (record { extended = false; id = 0; remote = true; dlc = 0; bytes = [] })

abbrev extended_role : Option Content → ℕ → Role
extended_role head n = role_of (pair_after extended head n).first

extended_sends_25 : extended_role (Some (base 0)) 25 ≡ Tx
unfolding bits_of number_bits
extended_sends_25 = refl

extended_loses_26 : extended_role (Some (base 0)) 26 ≡ Rx
unfolding bits_of number_bits
extended_loses_26 = refl

extended_sends_26 : extended_role remote 26 ≡ Tx
unfolding bits_of number_bits
extended_sends_26 = refl

extended_loses_27 : extended_role remote 27 ≡ Rx
unfolding bits_of number_bits
extended_loses_27 = refl

extended_received_81 : second_done extended None 81 ≡ Received (record { extended = true; id = 0; remote = false; dlc = 0; bytes = [] })
unfolding bits_of number_bits
extended_received_81 = refl

-- a frame with its last CRC bit turned over: no acknowledgement, and an error at the third sample after it
abbrev d : Input
d = Sample (heard Dominant)

abbrev r : Input
r = Sample (heard Recessive)

abbrev turned : List Input
turned = d ∷ d ∷ d ∷ d ∷ d ∷ r ∷ d ∷ d ∷ d ∷ d ∷ d ∷ r ∷ d ∷ d ∷ d ∷ d ∷ d ∷ r ∷ d ∷ d ∷ d ∷ d ∷ d ∷ r ∷ d ∷ d ∷ d ∷ d ∷ d ∷ r ∷ d ∷ d ∷ d ∷ d ∷ d ∷ r ∷ d ∷ d ∷ d ∷ r ∷ []

abbrev turned_after : ℕ → Stretch
turned_after n = stretch_of (all 11 Recessive ++ turned ++ all n Recessive)

no_acknowledgement : drive_of (turned_after 1) ≡ Recessive
no_acknowledgement = refl

crc_error_54 : (judged (turned_after 2) (heard Recessive)).happened ≡ happens.RxError Crc
crc_error_54 = refl

-- Of the two senders above the first has sent its frame with sample 59, the last of seven bits behind an ACK delimiter at 52; so both rest for ten samples after the
-- acknowledgement, and the second begins its frame behind the three bits of the intermission, at 63.
abbrev second_rest : ℕ → Option ℕ
second_rest n = rest_of (pair_after (Some (base 256)) (Some (base 257)) n).second

abbrev first_rest : ℕ → Option ℕ
first_rest n = rest_of (pair_after (Some (base 256)) (Some (base 257)) n).first

no_rest_50 : second_rest 50 ≡ None
unfolding bits_of number_bits
no_rest_50 = refl

rests_51 : second_rest 51 ≡ Some 10
unfolding bits_of number_bits
rests_51 = refl

sender_rests_51 : first_rest 51 ≡ Some 10
unfolding bits_of number_bits
sender_rests_51 = refl

rests_59 : second_rest 59 ≡ Some 2
unfolding bits_of number_bits
rests_59 = refl

rests_61 : second_rest 61 ≡ Some 0
unfolding bits_of number_bits
rests_61 = refl

recessive_61 : drive_of (pair_after (Some (base 256)) (Some (base 257)) 61).second ≡ Recessive
unfolding bits_of number_bits
recessive_61 = refl

begins_62 : drive_of (pair_after (Some (base 256)) (Some (base 257)) 62).second ≡ Dominant
unfolding bits_of number_bits
begins_62 = refl

-- an integration has ten samples before that of its end
integrates_for : rest_of (stretch_of []) ≡ Some 10
integrates_for = refl

-- behind the six bits of an error flag: eight of a delimiter and three of an intermission, the last of which is no rest
abbrev flagged : ℕ → Stretch
flagged n = stretch_of (all 11 Recessive ++ all 12 Dominant ++ all n Recessive)

waits_for : rest_of (flagged 0) ≡ Some 10
unfolding bits_of number_bits
waits_for = refl

delimits_for : rest_of (flagged 1) ≡ Some 9
unfolding bits_of number_bits
delimits_for = refl

intermits_for : rest_of (flagged 8) ≡ Some 2
unfolding bits_of number_bits
intermits_for = refl

intermits_no_more : rest_of (flagged 10) ≡ Some 0
unfolding bits_of number_bits
intermits_no_more = refl

-- a frame that waits there begins with the next sample
abbrev offered : Stretch → Stretch
offered s = stretch_after s (Sample (record { level = Recessive; head = zero_frame; mode = Active }))

sends_behind : drive_of (offered (flagged 10)) ≡ Dominant
unfolding bits_of number_bits
sends_behind = refl

-- eight samples of a suspension; and 128 times 11 of bus off, of which the last is no rest
abbrev suspended_for : ℕ → Stretch
suspended_for n = record { sort = Suspension; own = replicate n Recessive }

suspends_for : rest_of (suspended_for 0) ≡ Some 7
suspends_for = refl

suspends_no_more : rest_of (suspended_for 7) ≡ Some 0
suspends_no_more = refl

sends_behind_suspension : drive_of (offered (suspended_for 7)) ≡ Dominant
unfolding bits_of number_bits
sends_behind_suspension = refl

off_for : rest_of (stretch_of (SwitchedOff ∷ [])) ≡ Some 1407
off_for = refl

off_for_less : rest_of (stretch_of (SwitchedOff ∷ all 30 Recessive)) ≡ Some 1377
off_for_less = refl

-- a passive flag of six bits before the delimiter, and one whose sixth equal bit is still to come
passive_for : rest_by (Flagging (PassiveFlag false) Rx) [] ≡ Some 16
passive_for = refl

passive_for_less : rest_by (Flagging (PassiveFlag false) Rx) (Dominant ∷ Recessive ∷ Recessive ∷ []) ≡ Some 14
passive_for_less = refl

-- a frame that waits is sent with the dominant third bit of an intermission for its start of frame, and not where a passive transmitter is to be suspended
joins : stretch_after (flagged 10) (Sample (record { level = Dominant; head = zero_frame; mode = Active })) ≡ record { sort = Framing zero_frame; own = Dominant ∷ [] }
unfolding bits_of number_bits
joins = refl

joins_not : begun_head Tx Passive zero_frame ≡ None
joins_not = refl

-- who awaits a start of frame: while it integrates, behind the first bit of an intermission, and up to its own start of frame
awaits_first : awaits_start (stretch_of []) ≡ true
awaits_first = refl

awaits_behind : awaits_start (flagged 9) ≡ true
unfolding bits_of number_bits
awaits_behind = refl

awaits_not_yet : awaits_start (flagged 8) ≡ false
unfolding bits_of number_bits
awaits_not_yet = refl

awaits_decided : awaits_start (offered (flagged 10)) ≡ true
unfolding bits_of number_bits
awaits_decided = refl

awaits_no_more : awaits_start (stretch_after (offered (flagged 10)) (Sample (heard Dominant))) ≡ false
unfolding bits_of number_bits
awaits_no_more = refl

-- which bits after what is stuffed a receiver's machine only keeps: the ACK delimiter, at place 2, if the CRC sequence is right, and the first five of the end of frame, at
-- places 3 to 7, if they are recessive
kept_none : keeps_in_tail true 1 Recessive ≡ false
kept_none = refl

kept_delimiter : keeps_in_tail true 2 Recessive ≡ true
kept_delimiter = refl

kept_wrong : keeps_in_tail false 2 Recessive ≡ false
kept_wrong = refl

kept_first : keeps_in_tail false 3 Recessive ≡ true
kept_first = refl

kept_last : keeps_in_tail true 7 Recessive ≡ true
kept_last = refl

kept_over : keeps_in_tail true 8 Recessive ≡ false
kept_over = refl

kept_dominant : keeps_in_tail true 5 Dominant ≡ false
kept_dominant = refl

kept_no_delimiter : keeps_in_tail true 2 Dominant ≡ false
kept_no_delimiter = refl

-- and a transmitter's: all that are recessive, but for the acknowledgement slot, at place 1, and the last bit of the end of frame, at 9
kept_sent_first : keeps_in_sent_tail 0 Recessive ≡ true
kept_sent_first = refl

kept_no_slot : keeps_in_sent_tail 1 Recessive ≡ false
kept_no_slot = refl

kept_no_answer : keeps_in_sent_tail 1 Dominant ≡ false
kept_no_answer = refl

kept_sent_delimiter : keeps_in_sent_tail 2 Recessive ≡ true
kept_sent_delimiter = refl

kept_sent_last : keeps_in_sent_tail 8 Recessive ≡ true
kept_sent_last = refl

kept_sent_over : keeps_in_sent_tail 9 Recessive ≡ false
kept_sent_over = refl

kept_sent_dominant : keeps_in_sent_tail 5 Dominant ≡ false
kept_sent_dominant = refl

-- and the bits of a flag's delimiter before its eighth, whoever sent the frame before it
kept_behind : state_keeps (states.Delimiter Tx 1) Recessive ≡ true
kept_behind = refl

kept_seventh : state_keeps (states.Delimiter Rx 6) Recessive ≡ true
kept_seventh = refl

kept_no_eighth : state_keeps (states.Delimiter Rx 7) Recessive ≡ false
kept_no_eighth = refl

kept_no_error : state_keeps (states.Delimiter Tx 6) Dominant ≡ false
kept_no_error = refl

kept_no_late_overload : state_keeps (states.Delimiter Rx 7) Dominant ≡ false
kept_no_late_overload = refl

-- and the first two bits of an intermission, whoever sent the frame before it
kept_between : state_keeps (states.Intermission Tx 0) Recessive ≡ true
kept_between = refl

kept_second : state_keeps (states.Intermission Rx 1) Recessive ≡ true
kept_second = refl

kept_no_third : state_keeps (states.Intermission Rx 2) Recessive ≡ false
kept_no_third = refl

kept_no_overload : state_keeps (states.Intermission Tx 0) Dominant ≡ false
kept_no_overload = refl

-- The same holds of the running stretch, after a flag: its delimiter begins with the first recessive sample behind it, and the intermission with the ninth.
keeps_no_wait : keeps (flagged 0) Recessive ≡ false
unfolding bits_of number_bits
keeps_no_wait = refl

keeps_behind : keeps (flagged 1) Recessive ≡ true
unfolding bits_of number_bits
keeps_behind = refl

keeps_seventh : keeps (flagged 6) Recessive ≡ true
unfolding bits_of number_bits
keeps_seventh = refl

keeps_no_eighth : keeps (flagged 7) Recessive ≡ false
unfolding bits_of number_bits
keeps_no_eighth = refl

keeps_no_error : keeps (flagged 4) Dominant ≡ false
unfolding bits_of number_bits
keeps_no_error = refl

keeps_first : keeps (flagged 8) Recessive ≡ true
unfolding bits_of number_bits
keeps_first = refl

keeps_second : keeps (flagged 9) Recessive ≡ true
unfolding bits_of number_bits
keeps_second = refl

keeps_no_third : keeps (flagged 10) Recessive ≡ false
unfolding bits_of number_bits
keeps_no_third = refl
