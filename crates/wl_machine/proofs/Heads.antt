-- A judgement completes no frame but its stretch's head, and begins no stretch of a head but the one given.
use Rattle.std.proofs.Common.{◌≡◌, ℕ, ◌-◌, List, [], length, Bool, true, false, cond, Option, Some, None, refl, ap, subst, inl, inr, ◌⊎◌}
use Rattle.wl_level.specs.declared.Level.{Level}
use Rattle.wl_confine.specs.declared.ErrorKind.{ErrorKind}
use Rattle.wl_confine.specs.declared.ErrorKind.TheVariants.{Ack}
use Rattle.wl_confine.specs.declared.Mode.{Mode}
use Rattle.wl_confine.specs.declared.Mode.TheVariants.{Active, Passive, Off}
use Rattle.wl_confine.specs.declared.Happened.{Happened}
use Rattle.wl_confine.specs.declared.Happened.TheVariants as happens
use Rattle.wl_frame.specs.Stuffing.{destuffed_bits}
use Rattle.wl_frame.specs.Grammar.{Content}
use Rattle.wl_machine.specs.declared.state.Role.{Role}
use Rattle.wl_machine.specs.declared.state.Role.TheVariants.{Tx, Rx}
use Rattle.wl_machine.specs.Stretch.{Flag, Sort, Stretch, Sampled, Judgement, continues, begins, free}
use Rattle.wl_machine.specs.Stretch.Flag.{ActiveFlag, OverloadFlag, PassiveFlag}
use Rattle.wl_machine.specs.Stretch.Sort.{Integration, Idle, Framing, Flagging, Waiting, Delimiting, Intermission, Suspension, OffBus}
use Rattle.wl_machine.specs.Stretch.Ended.{Sent, Received}
use Rattle.wl_machine.specs.Flags.{error_of, error_flag, fails, dominant_flag, flagging, waiting, delimiting}
use Rattle.wl_machine.specs.BetweenFrames.{integration, idle, idle_on, intermission, begun_head, after_intermission, suspension, off_bus}
use Rattle.wl_machine.specs.Frames.{stuffed_end, frame_role, differing, unanswered, sent_tail, received_tail, framing_sent, framing_received, framing_by}
use Rattle.wl_machine.specs.States.{stretch_by}
use Rattle.wl_machine.specs.Judged.{judged_by, judged, head_of}

record Keeps (head given : Option Content) (j : Judgement) : Type 0 where
  sent : (f : Content) → j.ended ≡ Sent f → head ≡ Some f
  over : (f : Content) → j.ended ≡ Sent f → j.next ≡ Some (stretch_by (Intermission Tx) [])
  next : (n : Stretch) → j.next ≡ Some n → (head_of n.sort ≡ given) ⊎ (head_of n.sort ≡ None)

module _ (head given : Option Content) where
  keeps_on : (happened : Happened) → Keeps head given (continues happened)
  keeps_on happened = record { sent = λ f e. cc; over = λ f e. cc; next = λ n e. cc }

  keeps_begins : (happened : Happened) (sort : Sort) (own : List Level) → (head_of sort ≡ given) ⊎ (head_of sort ≡ None) → Keeps head given (begins happened sort own)
  keeps_begins happened sort own h = record {
    sent = λ f e. cc;
    over = λ f e. cc;
    next = λ n e.
        let same_one : record { sort = sort; own = own } ≡ n = cc in
        subst (λ m. (head_of m.sort ≡ given) ⊎ (head_of m.sort ≡ None)) same_one h;
  }

  keeps_if : (b : Bool) (j k : Judgement) → Keeps head given j → Keeps head given k → Keeps head given (cond b j k)
  keeps_if true j k p q = p
  keeps_if false j k p q = q

  keeps_fails : (role : Role) (mode : Mode) (kind : ErrorKind) → Keeps head given (fails role mode kind)
  keeps_fails role mode kind = keeps_begins (error_of role kind) (Flagging (error_flag mode) role) [] (inr refl)

free_head : (given : Option Content) → (head_of (free given) ≡ given) ⊎ (head_of (free given) ≡ None)
free_head None = inl refl
free_head (Some head) = inl refl

after_head : (role : Role) (mode : Mode) (given : Option Content)
    → (head_of (after_intermission role mode given) ≡ given) ⊎ (head_of (after_intermission role mode given) ≡ None)
after_head Tx Active given = free_head given
after_head Tx Passive given = inr refl
after_head Tx Off given = free_head given
after_head Rx mode given = free_head given

begun_head_is : (role : Role) (mode : Mode) (given : Option Content) → (head_of (Framing (begun_head role mode given)) ≡ given) ⊎ (head_of (Framing (begun_head role mode given)) ≡ None)
begun_head_is Tx Active given = inl refl
begun_head_is Tx Passive given = inr refl
begun_head_is Tx Off given = inl refl
begun_head_is Rx mode given = inl refl

no_head : (given : Option Content) (sort : Sort) → head_of sort ≡ None → (head_of sort ≡ given) ⊎ (head_of sort ≡ None)
no_head given sort h = inr h

idle_keeps : (given : Option Content) → Keeps None given (idle_on given)
idle_keeps None = keeps_on None None happens.Nothing
idle_keeps (Some head) = keeps_begins None (Some head) happens.Nothing (Framing (Some head)) [] (inl refl)

module _ (x : Sampled) where
  integration_keeps : (own : List Level) → Keeps None x.head (integration own x)
  integration_keeps own = search (keeps_if None x.head, keeps_begins None x.head, keeps_on None x.head, free_head) depth 12

  idle_all : Keeps None x.head (idle x)
  idle_all = search (keeps_if None x.head, keeps_begins None x.head, idle_keeps, no_head) depth 12

  intermission_keeps : (role : Role) (own : List Level) → Keeps None x.head (intermission role own x)
  intermission_keeps role own = search (keeps_if None x.head, keeps_begins None x.head, keeps_on None x.head, after_head, begun_head_is, no_head) depth 12

  suspension_keeps : (own : List Level) → Keeps None x.head (suspension own x)
  suspension_keeps own = search (keeps_if None x.head, keeps_begins None x.head, keeps_on None x.head, free_head, no_head) depth 12

  off_keeps : (own : List Level) → Keeps None x.head (off_bus own x)
  off_keeps own = search (keeps_if None x.head, keeps_begins None x.head, keeps_on None x.head, free_head) depth 12

  dominant_keeps : (flag : Flag) (role : Role) (own : List Level) → Keeps None x.head (dominant_flag flag role own x)
  dominant_keeps flag role own = search (keeps_if None x.head, keeps_begins None x.head, keeps_on None x.head, no_head) depth 12

  flag_keeps : (flag : Flag) (role : Role) (own : List Level) → Keeps None x.head (flagging flag role own x)
  flag_keeps ActiveFlag role own = dominant_keeps ActiveFlag role own
  flag_keeps OverloadFlag role own = dominant_keeps OverloadFlag role own
  flag_keeps (PassiveFlag unacknowledged) role own = search (keeps_if None x.head, keeps_begins None x.head, keeps_on None x.head, no_head) depth 12

  wait_keeps : (flag : Flag) (role : Role) (flagged own : List Level) → Keeps None x.head (waiting flag role flagged own x)
  wait_keeps flag role flagged own = search (keeps_if None x.head, keeps_begins None x.head, keeps_on None x.head, no_head) depth 12

  delimiter_keeps : (role : Role) (own : List Level) → Keeps None x.head (delimiting role own x)
  delimiter_keeps role own = search (keeps_if None x.head, keeps_begins None x.head, keeps_on None x.head, keeps_fails None x.head, no_head) depth 12

  -- frames

  differing_keeps : (head : Content) (own : List Level) → Keeps (Some head) x.head (differing head own x)
  differing_keeps head own = search (keeps_if (Some head) x.head, keeps_begins (Some head) x.head, keeps_on (Some head) x.head, keeps_fails (Some head) x.head, no_head) depth 12

  unanswered_keeps : (head : Content) (mode : Mode) → Keeps (Some head) x.head (unanswered mode)
  unanswered_keeps head Active = keeps_fails (Some head) x.head Tx Active Ack
  unanswered_keeps head Passive = keeps_begins (Some head) x.head happens.TxFree (Flagging (PassiveFlag true) Tx) [] (inr refl)
  unanswered_keeps head Off = keeps_fails (Some head) x.head Tx Off Ack

  sent_keeps : (head : Content) (happened : Happened)
      → Keeps (Some head) x.head (record { happened = happened; ended = Sent head; next = Some (stretch_by (Intermission Tx) []) })
  sent_keeps head happened = record {
    sent = λ f e. cc;
    over = λ f e. refl;
    next = λ m e. let same_one : stretch_by (Intermission Tx) [] ≡ m = cc in inr (subst (λ k. head_of k.sort ≡ None) same_one refl);
  }

  sent_tail_keeps : (head : Content) (n : ℕ) → Keeps (Some head) x.head (sent_tail head n x)
  sent_tail_keeps head n = search (keeps_if (Some head) x.head, keeps_on (Some head) x.head, keeps_fails (Some head) x.head, unanswered_keeps head, sent_keeps head) depth 12

  received_keeps : (head : Option Content) (frame : Content) (happened : Happened) → Keeps head x.head (record { happened = happened; ended = Received frame; next = None })
  received_keeps head frame happened = record { sent = λ f e. cc; over = λ f e. cc; next = λ n e. cc }

  received_tail_keeps : (head : Option Content) (bits : List Level) (n : ℕ) → Keeps head x.head (received_tail bits n x)
  received_tail_keeps head bits n = search (keeps_if head x.head, keeps_begins head x.head, keeps_on head x.head, keeps_fails head x.head, received_keeps head, no_head) depth 12

  received_all : (head : Option Content) (own : List Level) (end : Option ℕ) → Keeps head x.head (framing_received own end x)
  received_all head own None = search (keeps_if head x.head, keeps_on head x.head, keeps_fails head x.head) depth 12
  received_all head own (Some end) = received_tail_keeps head (destuffed_bits own end) (length own - end)

  sent_all : (head : Content) (own : List Level) (end : Option ℕ) → Keeps (Some head) x.head (framing_sent head own end x)
  sent_all head own None = search (keeps_if (Some head) x.head, keeps_on (Some head) x.head, differing_keeps head) depth 12
  sent_all head own (Some end) = sent_tail_keeps head (length own - end)

  framing_keeps : (role : Role) (head : Option Content) (own : List Level) → Keeps head x.head (framing_by role head own x)
  framing_keeps Tx (Some head) own = sent_all head own (stuffed_end own)
  framing_keeps Tx None own = received_all None own (stuffed_end own)
  framing_keeps Rx head own = received_all head own (stuffed_end own)

  all_keep : (sort : Sort) (own : List Level) → Keeps (head_of sort) x.head (judged_by sort own x)
  all_keep Integration own = integration_keeps own
  all_keep Idle own = idle_all
  all_keep (Framing head) own = framing_keeps (frame_role head own) head own
  all_keep (Flagging flag role) own = flag_keeps flag role own
  all_keep (Waiting flag role flagged) own = wait_keeps flag role flagged own
  all_keep (Delimiting role) own = delimiter_keeps role own
  all_keep (Intermission role) own = intermission_keeps role own
  all_keep Suspension own = suspension_keeps own
  all_keep OffBus own = off_keeps own

headed : (sort : Sort) (frame : Content) → head_of sort ≡ Some frame → sort ≡ Framing (Some frame)
headed Integration frame h = cc
headed Idle frame h = cc
headed (Framing head) frame h = ap Framing h
headed (Flagging flag role) frame h = cc
headed (Waiting flag role flagged) frame h = cc
headed (Delimiting role) frame h = cc
headed (Intermission role) frame h = cc
headed Suspension frame h = cc
headed OffBus frame h = cc

pub sent_head : (s : Stretch) (x : Sampled) (frame : Content) → (judged s x).ended ≡ Sent frame → s.sort ≡ Framing (Some frame)
sent_head s x frame h = headed s.sort frame ((all_keep x s.sort s.own).sent frame h)

pub next_head : (s next : Stretch) (x : Sampled) → (judged s x).next ≡ Some next → (head_of next.sort ≡ x.head) ⊎ (head_of next.sort ≡ None)
next_head s next x h = (all_keep x s.sort s.own).next next h

pub sent_over : (s : Stretch) (x : Sampled) (frame : Content) → (judged s x).ended ≡ Sent frame → (judged s x).next ≡ Some (stretch_by (Intermission Tx) [])
sent_over s x frame h = (all_keep x s.sort s.own).over frame h
