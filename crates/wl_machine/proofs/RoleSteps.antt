-- The role of a stretch, by the judgement of each sample.
use Rattle.std.proofs.Common.{◌≡◌, ◌∙◌, ℕ, ◌-◌, List, [], ◌∷◌, ◌++◌, length, Bool, true, false, cond, ◌&&◌, Option, Some, None, refl, sym, ap, subst}
use Rattle.std.specs.Prelude.{fold, nat_le, ◌==◌}
use Rattle.wl_level.specs.declared.Level.{Level}
use Rattle.wl_level.specs.Levels.{is_dominant}
use Rattle.wl_confine.specs.declared.ErrorKind.{ErrorKind}
use Rattle.wl_confine.specs.declared.ErrorKind.TheVariants.{Bit, Ack}
use Rattle.wl_confine.specs.declared.Mode.{Mode}
use Rattle.wl_confine.specs.declared.Mode.TheVariants.{Active, Passive, Off}
use Rattle.wl_confine.specs.declared.Happened.{Happened}
use Rattle.wl_confine.specs.declared.Happened.TheVariants as happens
use Rattle.wl_frame.specs.Stuffing.{is_stuff, destuffed_bits}
use Rattle.wl_frame.specs.Grammar.{Content, bits_of, layout_of, is_arbitration}
use Rattle.wl_machine.specs.declared.state.Role.{Role}
use Rattle.wl_machine.specs.declared.state.Role.TheVariants.{Tx, Rx}
use Rattle.wl_machine.specs.Stretch.{Flag, Sort, Stretch, Sampled, Input, Judgement, continues, begins, free}
use Rattle.wl_machine.specs.Stretch.Flag.{ActiveFlag, OverloadFlag, PassiveFlag}
use Rattle.wl_machine.specs.Stretch.Sort.{Integration, Idle, Framing, Flagging, Waiting, Delimiting, Intermission, Suspension, OffBus}
use Rattle.wl_machine.specs.Stretch.Input.{Sample, SwitchedOff}
use Rattle.wl_machine.specs.Stretch.Ended.{Sent, Received}
use Rattle.wl_machine.specs.Flags.{error_of, flag_bit_of, long_of, error_flag, fails, dominant_flag, flagging, waiting, delimiting, is_after_flag}
use Rattle.wl_machine.specs.BetweenFrames.{integration, idle, idle_on, intermission, begun_head, after_intermission, suspension, off_bus}
use Rattle.wl_machine.specs.Frames.{stuffed_end, sent_at, frame_role, differing, unanswered, sent_tail, received_tail, framing_sent, framing_received, framing_by}
use Rattle.wl_machine.specs.States.{stretch_by}
use Rattle.wl_machine.specs.Judged.{judged_by, judged, or_next, stretch_after, stretch_of, role_by, role_of}
use Rattle.wl_machine.specs.Roles.{counted_role, loses, loses_by, ends_role, ends_role_by, begun_role}
use Rattle.wl_machine.proofs.Framed.{role_first, role_next}

-- the flag of a missing acknowledgement, in the role of a receiver
abbrev is_unacknowledged_receiver : Sort → Bool
is_unacknowledged_receiver (Flagging (PassiveFlag true) Rx) = true
is_unacknowledged_receiver sort = false

-- what happened is counted in this role, if in any
record IsCounted (role : Role) (happened : Happened) : Type 0 where
  by : (r : Role) → counted_role happened ≡ Some r → role ≡ r

-- the stretch that begins goes on with the role, or begins with one of its own
record IsBegun (role : Role) (ends : Bool) (next : Stretch) : Type 0 where
  goes : role_of next ≡ cond ends (begun_role next) role
  plain : is_unacknowledged_receiver next.sort ≡ false

record Roles (role : Role) (ends : Bool) (j : Judgement) : Type 0 where
  counted : IsCounted role j.happened
  next : (n : Stretch) → j.next ≡ Some n → IsBegun role ends n

none_counted : (role : Role) (happened : Happened) → counted_role happened ≡ None → IsCounted role happened
none_counted role happened h = record { by = λ r e. cc }

role_counted : (role : Role) (happened : Happened) → counted_role happened ≡ Some role → IsCounted role happened
role_counted role happened h = record { by = λ r e. cc }

error_counted : (role : Role) (kind : ErrorKind) → counted_role (error_of role kind) ≡ Some role
error_counted Tx kind = refl
error_counted Rx kind = refl

bit_counted : (role : Role) → IsCounted role (flag_bit_of role)
bit_counted Tx = role_counted Tx happens.TxFlagBit refl
bit_counted Rx = role_counted Rx happens.RxFlagBit refl

long_counted : (role : Role) → IsCounted role (long_of role)
long_counted Tx = role_counted Tx happens.TxLong refl
long_counted Rx = role_counted Rx happens.RxLong refl

counted_if : (role : Role) (b : Bool) (h k : Happened) → IsCounted role h → IsCounted role k → IsCounted role (cond b h k)
counted_if role true h k p q = p
counted_if role false h k p q = q

module _ (role : Role) (ends : Bool) where
  roles_on : (happened : Happened) → IsCounted role happened → Roles role ends (continues happened)
  roles_on happened h = record { counted = h; next = λ n e. cc }

  roles_begins : (happened : Happened) (sort : Sort) (own : List Level) → IsCounted role happened → IsBegun role ends (stretch_by sort own)
      → Roles role ends (begins happened sort own)
  roles_begins happened sort own h b = record {
    counted = h;
    next = λ n e.
        let same_one : stretch_by sort own ≡ n = cc in
        subst (IsBegun role ends) same_one b;
  }

  roles_if : (b : Bool) (j k : Judgement) → Roles role ends j → Roles role ends k → Roles role ends (cond b j k)
  roles_if true j k p q = p
  roles_if false j k p q = q

  roles_when : (b : Bool) (j k : Judgement) → (b ≡ true → Roles role ends j) → Roles role ends k → Roles role ends (cond b j k)
  roles_when true j k p q = p refl
  roles_when false j k p q = q

-- an error's flag keeps the role
flag_begun : (role : Role) (mode : Mode) → IsBegun role false (stretch_by (Flagging (error_flag mode) role) [])
flag_begun role Active = record { goes = refl; plain = refl }
flag_begun role Passive = record { goes = refl; plain = refl }
flag_begun role Off = record { goes = refl; plain = refl }

roles_fails : (role : Role) (mode : Mode) (kind : ErrorKind) → Roles role false (fails role mode kind)
roles_fails role mode kind =
    roles_begins role false (error_of role kind) (Flagging (error_flag mode) role) [] (role_counted role (error_of role kind) (error_counted role kind)) (flag_begun role mode)

free_begun : (role : Role) (head : Option Content) → IsBegun role true (stretch_by (free head) [])
free_begun role None = record { goes = refl; plain = refl }
free_begun role (Some head) = record { goes = refl; plain = refl }

received_begun : (role : Role) (own : List Level) → IsBegun role true (stretch_by (Framing None) own)
received_begun role own = record { goes = refl; plain = refl }

after_begun : (role was : Role) (mode : Mode) (head : Option Content) → IsBegun role true (stretch_by (after_intermission was mode head) [])
after_begun role Tx Active head = free_begun role head
after_begun role Tx Passive head = record { goes = refl; plain = refl }
after_begun role Tx Off head = free_begun role head
after_begun role Rx mode head = free_begun role head

-- a frame that begins with the start of frame of others
framed_begun : (role : Role) (level : Level) (head : Option Content) → IsBegun role true (stretch_by (Framing head) (level ∷ []))
framed_begun role level None = received_begun role (level ∷ [])
framed_begun role level (Some head) = record { goes = role_first head level; plain = refl }

begun_head_begins : (role was : Role) (mode : Mode) (head : Option Content) (level : Level) → IsBegun role true (stretch_by (Framing (begun_head was mode head)) (level ∷ []))
begun_head_begins role Tx Active head level = framed_begun role level head
begun_head_begins role Tx Passive head level = framed_begun role level None
begun_head_begins role Tx Off head level = framed_begun role level head
begun_head_begins role Rx mode head level = framed_begun role level head

overload_begun : (role : Role) → IsBegun role false (stretch_by (Flagging OverloadFlag role) [])
overload_begun role = record { goes = refl; plain = refl }

wait_begun : (role : Role) (flag : Flag) (flagged : List Level) → IsBegun role false (stretch_by (Waiting flag role flagged) [])
wait_begun role flag flagged = record { goes = refl; plain = refl }

delimiter_begun : (role : Role) (own : List Level) → IsBegun role false (stretch_by (Delimiting role) own)
delimiter_begun role own = record { goes = refl; plain = refl }

intermission_begun : (role : Role) → IsBegun role false (stretch_by (Intermission role) [])
intermission_begun role = record { goes = refl; plain = refl }

nothing : (role : Role) → IsCounted role happens.Nothing
nothing role = none_counted role happens.Nothing refl

recovered : (role : Role) → IsCounted role happens.Recovered
recovered role = none_counted role happens.Recovered refl

idle_roles : (head : Option Content) → Roles Rx true (idle_on head)
idle_roles None = roles_on Rx true happens.Nothing (nothing Rx)
idle_roles (Some head) = roles_begins Rx true happens.Nothing (Framing (Some head)) [] (nothing Rx) (record { goes = refl; plain = refl })

late_receiver : (flag : Flag) (role : Role) (own : List Level) → is_after_flag flag role own ≡ true → role ≡ Rx
late_receiver ActiveFlag Rx own h = refl
late_receiver ActiveFlag Tx own h = cc
late_receiver OverloadFlag role own h = cc
late_receiver (PassiveFlag unacknowledged) Rx own h = refl
late_receiver (PassiveFlag unacknowledged) Tx own h = cc

owed_counted : (unacknowledged : Bool) (role : Role) (b c : Bool) → is_unacknowledged_receiver (Flagging (PassiveFlag unacknowledged) role) ≡ false
    → IsCounted role (cond (unacknowledged && b && c) happens.PassiveAck happens.Nothing)
owed_counted true Tx b c h = counted_if Tx (true && b && c) happens.PassiveAck happens.Nothing (role_counted Tx happens.PassiveAck refl) (nothing Tx)
owed_counted true Rx b c h = cc
owed_counted false role b c h = nothing role

module _ (x : Sampled) where
  integration_roles : (own : List Level) → Roles Rx true (integration own x)
  integration_roles own = search (roles_if Rx true, roles_begins Rx true, roles_on Rx true, nothing, free_begun) depth 12

  idle_all : Roles Rx true (idle x)
  idle_all = search (roles_if Rx true, roles_begins Rx true, idle_roles, nothing, received_begun) depth 12

  suspension_roles : (own : List Level) → Roles Rx true (suspension own x)
  suspension_roles own = search (roles_if Rx true, roles_begins Rx true, roles_on Rx true, nothing, free_begun, received_begun) depth 12

  off_roles : (own : List Level) → Roles Rx true (off_bus own x)
  off_roles own = search (roles_if Rx true, roles_begins Rx true, roles_on Rx true, nothing, recovered, free_begun) depth 12

  third_roles : (role was : Role) → Roles role true
      (cond (is_dominant x.level) (begins happens.Nothing (Framing (begun_head was x.mode x.head)) (x.level ∷ [])) (begins happens.Nothing (after_intermission was x.mode x.head) []))
  third_roles role was = search (roles_if role true, roles_begins role true, nothing, begun_head_begins, after_begun) depth 12

  early_roles : (role : Role) → Roles role false
      (cond (is_dominant x.level) (begins happens.Nothing (Flagging OverloadFlag role) []) (continues happens.Nothing))
  early_roles role = search (roles_if role false, roles_begins role false, roles_on role false, nothing, overload_begun) depth 12

  third_if : (role : Role) (b : Bool) (j k : Judgement) → Roles role true j → Roles role false k → Roles role b (cond b j k)
  third_if role true j k p q = p
  third_if role false j k p q = q

  intermission_roles : (role : Role) (own : List Level) → Roles role (length own == 2) (intermission role own x)
  intermission_roles role own = third_if role (length own == 2) _ _ (third_roles role role) (early_roles role)

  dominant_roles : (flag : Flag) (role : Role) (own : List Level) → Roles role false (dominant_flag flag role own x)
  dominant_roles flag role own =
      search (roles_if role false, roles_begins role false, roles_on role false, counted_if, nothing, bit_counted, wait_begun) depth 14

  flag_roles : (flag : Flag) (role : Role) (own : List Level) → is_unacknowledged_receiver (Flagging flag role) ≡ false → Roles role false (flagging flag role own x)
  flag_roles ActiveFlag role own h = dominant_roles ActiveFlag role own
  flag_roles OverloadFlag role own h = dominant_roles OverloadFlag role own
  flag_roles (PassiveFlag unacknowledged) role own h =
      roles_if role false _ _ _
      (roles_begins role false _ _ [] (owed_counted unacknowledged role _ _ h) (wait_begun role (PassiveFlag unacknowledged) (own ++ x.level ∷ [])))
      (roles_on role false _ (owed_counted unacknowledged role _ _ h))

  late_roles : (flag : Flag) (role : Role) (own : List Level) → is_after_flag flag role own ≡ true → Roles role false (continues happens.RxAfterFlag)
  late_roles flag role own h = subst (λ r. Roles r false (continues happens.RxAfterFlag)) (sym (late_receiver flag role own h)) (roles_on Rx false happens.RxAfterFlag (role_counted Rx happens.RxAfterFlag refl))

  wait_roles : (flag : Flag) (role : Role) (flagged own : List Level) → Roles role false (waiting flag role flagged own x)
  wait_roles flag role flagged own =
      roles_if role false _ _ _
      (roles_begins role false happens.Nothing (Delimiting role) (x.level ∷ []) (nothing role) (delimiter_begun role (x.level ∷ [])))
      (roles_when role false (is_after_flag flag role own) _ _ (late_roles flag role own)
      (roles_if role false _ _ _ (roles_on role false (long_of role) (long_counted role)) (roles_on role false happens.Nothing (nothing role))))

  delimiter_roles : (role : Role) (own : List Level) → Roles role false (delimiting role own x)
  delimiter_roles role own =
      search (roles_if role false, roles_begins role false, roles_on role false, roles_fails role, nothing, intermission_begun, overload_begun) depth 12

  -- frames

  sends_on : Roles Tx false (continues happens.Nothing)
  sends_on = roles_on Tx false happens.Nothing (nothing Tx)

  differing_roles : (head : Content) (own : List Level) → Roles Tx false (differing head own x)
  differing_roles head own =
      roles_if Tx false (is_dominant (sent_at head own (length own))) _ _ (roles_fails Tx x.mode Bit)
      (roles_if Tx false (is_stuff own (length own)) _ _
      (roles_if Tx false (nat_le (length (destuffed_bits own (length own))) (layout_of (bits_of head)).rtr) _ _
      (roles_begins Tx false happens.TxFree (Flagging (error_flag x.mode) Tx) [] (role_counted Tx happens.TxFree refl) (flag_begun Tx x.mode))
      (roles_fails Tx x.mode Bit))
      (roles_if Tx false (is_arbitration (bits_of head) (length (destuffed_bits own (length own)))) _ _ sends_on (roles_fails Tx x.mode Bit)))

  unanswered_roles : (mode : Mode) → Roles Tx false (unanswered mode)
  unanswered_roles Active = roles_fails Tx Active Ack
  unanswered_roles Passive = roles_begins Tx false happens.TxFree (Flagging (PassiveFlag true) Tx) [] (role_counted Tx happens.TxFree refl) (record { goes = refl; plain = refl })
  unanswered_roles Off = roles_fails Tx Off Ack

  sent_roles : (head : Content) → Roles Tx false (record { happened = happens.Sent; ended = Sent head; next = Some (stretch_by (Intermission Tx) []) })
  sent_roles head = record {
    counted = role_counted Tx happens.Sent refl;
    next = λ n e. let same_one : stretch_by (Intermission Tx) [] ≡ n = cc in subst (IsBegun Tx false) same_one (intermission_begun Tx);
  }

  sent_tail_roles : (head : Content) (n : ℕ) → Roles Tx false (sent_tail head n x)
  sent_tail_roles head n =
      roles_if Tx false _ _ _ (roles_if Tx false _ _ _ sends_on (unanswered_roles x.mode))
      (roles_if Tx false _ _ _ (roles_fails Tx x.mode Bit) (roles_if Tx false _ _ _ (sent_roles head) sends_on))

  received_roles : (frame : Content) → Roles Rx false (record { happened = happens.Nothing; ended = Received frame; next = None })
  received_roles frame = record { counted = nothing Rx; next = λ n e. cc }

  acked : IsCounted Rx happens.Acked
  acked = role_counted Rx happens.Acked refl

  received_tail_roles : (bits : List Level) (n : ℕ) → Roles Rx false (received_tail bits n x)
  received_tail_roles bits n =
      search (roles_if Rx false, roles_begins Rx false, roles_on Rx false, roles_fails Rx, received_roles, nothing, acked, overload_begun, intermission_begun) depth 14

  received_all : (own : List Level) (end : Option ℕ) → Roles Rx false (framing_received own end x)
  received_all own None = search (roles_if Rx false, roles_on Rx false, roles_fails Rx, nothing) depth 12
  received_all own (Some end) = received_tail_roles (destuffed_bits own end) (length own - end)

  sent_all : (head : Content) (own : List Level) (end : Option ℕ) → Roles Tx false (framing_sent head own end x)
  sent_all head own None = search (roles_if Tx false, roles_on Tx false, differing_roles head, nothing) depth 12
  sent_all head own (Some end) = sent_tail_roles head (length own - end)

  framing_roles : (role : Role) (head : Content) (own : List Level) → Roles role false (framing_by role (Some head) own x)
  framing_roles Tx head own = sent_all head own (stuffed_end own)
  framing_roles Rx head own = received_all own (stuffed_end own)

  all_roles : (sort : Sort) (own : List Level) → is_unacknowledged_receiver sort ≡ false → Roles (role_by sort own) (ends_role_by sort own) (judged_by sort own x)
  all_roles Integration own h = integration_roles own
  all_roles Idle own h = idle_all
  all_roles (Framing None) own h = received_all own (stuffed_end own)
  all_roles (Framing (Some head)) own h = framing_roles (frame_role (Some head) own) head own
  all_roles (Flagging flag role) own h = flag_roles flag role own h
  all_roles (Waiting flag role flagged) own h = wait_roles flag role flagged own
  all_roles (Delimiting role) own h = delimiter_roles role own
  all_roles (Intermission role) own h = intermission_roles role own
  all_roles Suspension own h = suspension_roles own
  all_roles OffBus own h = off_roles own

-- no machine comes to one
plain_next : (s : Stretch) (x : Sampled) (next : Option Stretch) → (judged s x).next ≡ next → is_unacknowledged_receiver s.sort ≡ false
    → is_unacknowledged_receiver (or_next next (stretch_by s.sort (s.own ++ x.level ∷ []))).sort ≡ false
plain_next s x None e h = h
plain_next s x (Some n) e h = ((all_roles x s.sort s.own h).next n e).plain

plain_after : (s : Stretch) (input : Input) → is_unacknowledged_receiver s.sort ≡ false → is_unacknowledged_receiver (stretch_after s input).sort ≡ false
plain_after s (Sample x) h = plain_next s x (judged s x).next refl h
plain_after s SwitchedOff h = refl

plain_fold : (s : Stretch) (past : List Input) → is_unacknowledged_receiver s.sort ≡ false → is_unacknowledged_receiver (fold stretch_after s past).sort ≡ false
plain_fold s [] h = h
plain_fold s (input ∷ past) h = plain_fold (stretch_after s input) past (plain_after s input h)

pub role_counts : (past : List Input) (x : Sampled) (role : Role) → counted_role (judged (stretch_of past) x).happened ≡ Some role → role_of (stretch_of past) ≡ role
role_counts past x role e = (all_roles x (stretch_of past).sort (stretch_of past).own (plain_fold (stretch_by Integration []) past refl)).counted.by role e

next_role : (past : List Input) (next : Stretch) (x : Sampled) → (judged (stretch_of past) x).next ≡ Some next
    → role_of next ≡ cond (ends_role (stretch_of past)) (begun_role next) (role_of (stretch_of past))
next_role past next x e =
    ((all_roles x (stretch_of past).sort (stretch_of past).own (plain_fold (stretch_by Integration []) past refl)).next next e).goes

pub role_carried : (past : List Input) (next : Stretch) (x : Sampled) → (judged (stretch_of past) x).next ≡ Some next → ends_role (stretch_of past) ≡ false
    → role_of next ≡ role_of (stretch_of past)
role_carried past next x e h = next_role past next x e ∙ ap (λ b. cond b (begun_role next) (role_of (stretch_of past))) h

pub role_begins : (past : List Input) (next : Stretch) (x : Sampled) → (judged (stretch_of past) x).next ≡ Some next → ends_role (stretch_of past) ≡ true
    → role_of next ≡ begun_role next
role_begins past next x e h = next_role past next x e ∙ ap (λ b. cond b (begun_role next) (role_of (stretch_of past))) h

grown_role : (sort : Sort) (own : List Level) (level : Level) → role_by sort (own ++ level ∷ []) ≡ cond (loses_by sort own level) Rx (role_by sort own)
grown_role Integration own level = refl
grown_role Idle own level = refl
grown_role (Framing None) own level = refl
grown_role (Framing (Some head)) own level = role_next head own level
grown_role (Flagging flag role) own level = refl
grown_role (Waiting flag role flagged) own level = refl
grown_role (Delimiting role) own level = refl
grown_role (Intermission role) own level = refl
grown_role Suspension own level = refl
grown_role OffBus own level = refl

pub role_stays : (s : Stretch) (x : Sampled) → (judged s x).next ≡ None → role_of (stretch_after s (Sample x)) ≡ cond (loses s x.level) Rx (role_of s)
role_stays s x e = ap (λ n. role_of (or_next n (stretch_by s.sort (s.own ++ x.level ∷ [])))) e ∙ grown_role s.sort s.own x.level
