-- The frames that were begun on a wire, each sent by one machine and received by all others, one event later.
use Rattle.std.proofs.Common.{◌≡◌, ℕ, suc, ◌+◌, ◌<◌, ◌∙◌, List, [], ◌∷◌, ◌++◌, length, map, true, false, cond, Option, Some, None, refl, sym, ap, arith, append-nil, inl, inr}
use Rattle.std.specs.Prelude.{nat_le, count_by}
use Rattle.std.specs.List.{All}
use Rattle.std.proofs.lemmas.Bool.{both_ways}
use Rattle.wl_level.specs.declared.Level.{Level}
use Rattle.wl_level.specs.declared.Level.TheVariants.{Dominant, Recessive}
use Rattle.wl_frame.specs.Stuffing.{destuffed_bits}
use Rattle.wl_frame.specs.Grammar.{content_of}
use Rattle.wl_machine.specs.declared.state.Role.{Role}
use Rattle.wl_machine.specs.declared.state.Role.TheVariants.{Tx, Rx}
use Rattle.wl_machine.specs.Stretch.{Sort, Stretch, Sampled, Ended}
use Rattle.wl_machine.specs.Stretch.Sort.{Integration, Idle, Framing, Flagging, Waiting, Delimiting, Intermission, Suspension, OffBus}
use Rattle.wl_machine.specs.Stretch.Ended.{Received}
use Rattle.wl_machine.specs.Stretch.Input.{Sample}
use Rattle.wl_machine.specs.Frames.{stuffed_end}
use Rattle.wl_machine.specs.Judged.{judged, stretch_after, role_of}
use Rattle.wl_wire.specs.Wire.{Wire, Handed, Event, Bit, Own, stretch_at, bus, sampled, is_between, is_between_by, may_be_alone, added, next_wire}
use Rattle.wl_wire.specs.InStep.{Has, AreSoundFrames, AreBetween, AreInIntermission, AreInFrame}
use Rattle.wl_wire.specs.Outcome.{frames_of, acknowledged_by, begun_by, is_start_of_frame, is_start_of_frame_by, Passage, seen_by, is_received_by, HaveGot, IsFree}
use Rattle.wl_wire.proofs.Between.{frame_begins, still_between, between_alone, longer, begun, quiet, alone_quiet, on, intermission_free, intermission_alone, none_alone_in_it}
use Rattle.wl_wire.proofs.Bus.{level_cases}
use Rattle.wl_wire.proofs.Deeds.{added_cases, plain_frames, plain_acknowledged, begun_same, begun_now}
use Rattle.wl_wire.proofs.Events.{OwnHeads, sample_at, at_bit, none_alone, own_events}
use Rattle.wl_wire.proofs.Quiet.{is_plain}

-- what a machine has of the running frame: as a receiver an acknowledgement after the slot, and the frame before its last bit
abbrev pub extra_acks : Option ℕ → Role → ℕ → ℕ
extra_acks None role n = 0
extra_acks (Some end) Tx n = 0
extra_acks (Some end) Rx n = cond (nat_le (end + 2) n) 1 0

abbrev pub extra_frames : Option ℕ → Role → List Level → List Ended
extra_frames None role own = []
extra_frames (Some end) Tx own = []
extra_frames (Some end) Rx own = cond (nat_le (end + 9) (length own)) (Received (content_of (destuffed_bits own end)) ∷ []) []

abbrev pub AreSenders : Wire → List Passage → Type 0
AreSenders w passages = All (λ p. (p.sender < w.count) × Has w.frames p.sender p.frame) passages

-- the same while a frame is under way
pub record HaveGotIn (w : Wire) (own : List Level) (passages : List Passage) : Type 0 where
  pub senders : AreSenders w passages
  pub begun : (k : ℕ) → k < w.count → begun_by (w.past k) ≡ suc (length passages)
  pub frames : (k : ℕ) → k < w.count → frames_of (w.past k) ≡ map (seen_by k) passages ++ extra_frames (stuffed_end own) (role_of (stretch_at w k)) own
  pub acknowledged : (k : ℕ) → k < w.count
      → acknowledged_by (w.past k) ≡ count_by (is_received_by k) passages + extra_acks (stuffed_end own) (role_of (stretch_at w k)) (length own)

pub data Progress (w : Wire) : Type 0 where
  free : (passages : List Passage) → IsFree w → HaveGot w passages → Progress w
  under_way : (passages : List Passage) → (own : List Level) → AreInFrame w own → HaveGotIn w own passages → Progress w

-- a machine that did nothing by an event
record DidNothing (w new : Wire) (k : ℕ) : Type 0 where
  begun : begun_by (new.past k) ≡ begun_by (w.past k)
  frames : frames_of (new.past k) ≡ frames_of (w.past k)
  acknowledged : acknowledged_by (new.past k) ≡ acknowledged_by (w.past k)

nothing_added : (w : Wire) (event : Event) (k : ℕ) → added w event k ≡ [] → DidNothing w (next_wire w event) k
nothing_added w event k e =
    let same : (next_wire w event).past k ≡ w.past k = ap (λ inputs. w.past k ++ inputs) e ∙ append-nil (w.past k) in
    record { begun = ap begun_by same; frames = ap frames_of same; acknowledged = ap acknowledged_by same }

plain_added : (w : Wire) (event : Event) (k : ℕ) (x : Sampled) → added w event k ≡ Sample x ∷ [] → is_plain (judged (stretch_at w k) x) ≡ true
    → is_start_of_frame (stretch_after (stretch_at w k) (Sample x)) ≡ false → DidNothing w (next_wire w event) k
plain_added w event k x e p start =
    let same : (next_wire w event).past k ≡ w.past k ++ Sample x ∷ [] = ap (λ inputs. w.past k ++ inputs) e in
    record {
      begun = ap begun_by same ∙ begun_same (w.past k) x start;
      frames = ap frames_of same ∙ plain_frames (w.past k) x p;
      acknowledged = ap acknowledged_by same ∙ plain_acknowledged (w.past k) x p;
    }

got_on : (w : Wire) (event : Event) (passages : List Passage) → ((k : ℕ) → k < w.count → DidNothing w (next_wire w event) k) → HaveGot w passages → HaveGot (next_wire w event) passages
got_on w event passages keeps got = record {
  senders = got.senders;
  begun = λ k lt. (keeps k lt).begun ∙ got.begun k lt;
  frames = λ k lt. (keeps k lt).frames ∙ got.frames k lt;
  acknowledged = λ k lt. (keeps k lt).acknowledged ∙ got.acknowledged k lt;
}

-- between frames no frame was just begun
no_start_by : (sort : Sort) (own : List Level) → is_between_by sort own ≡ true → is_start_of_frame_by sort own ≡ false
no_start_by Idle own b = refl
no_start_by Suspension own b = refl
no_start_by (Intermission role) own b = refl
no_start_by (Framing (Some head)) [] b = refl
no_start_by (Framing (Some head)) (l ∷ own) b = cc
no_start_by (Framing None) own b = cc
no_start_by Integration own b = refl
no_start_by (Flagging flag role) own b = refl
no_start_by (Waiting flag role flagged) own b = refl
no_start_by (Delimiting role) own b = refl
no_start_by OffBus own b = refl

no_start : (s : Stretch) → is_between s ≡ true → is_start_of_frame s ≡ false
no_start s b = no_start_by s.sort s.own b

-- a bit by itself
record IsQuiet (s : Stretch) (x : Sampled) : Type 0 where
  plain : is_plain (judged s x) ≡ true
  start : is_start_of_frame (stretch_after s (Sample x)) ≡ false

own_did_nothing : (w : Wire) (machine : ℕ) (handed : Handed)
    → ((k : ℕ) → k < w.count → may_be_alone (stretch_at w k) ≡ true → IsQuiet (stretch_at w k) (sampled Recessive (w.frames k) handed))
    → (k : ℕ) → k < w.count → DidNothing w (next_wire w (Own machine handed)) k
own_did_nothing w machine handed quiet_alone k lt = elim (added_cases w (Own machine handed) k) [
  | inl e ↦ nothing_added w (Own machine handed) k e
  | inr more ↦
      (let q : IsQuiet (stretch_at w k) more.0 = own_events w machine handed (λ j x. IsQuiet (stretch_at w j) x) k (quiet_alone k lt) more.0 more.1 in
      plain_added w (Own machine handed) k more.0 more.1 q.plain q.start)
]

module _ (w : Wire) (sound : AreSoundFrames w.count w.frames) (heads : OwnHeads w) where
  -- between frames
  module _ (b : AreBetween w) (passages : List Passage) (got : HaveGot w passages) where
    quiet_did_nothing : (handed : ℕ → Handed) → bus w ≡ Recessive → (k : ℕ) → k < w.count → DidNothing w (next_wire w (Bit handed)) k
    quiet_did_nothing handed r k lt =
        plain_added w (Bit handed) k (sample_at w handed k) refl (quiet w sound heads b handed k lt r).plain
        (no_start (stretch_after (stretch_at w k) (Sample (sample_at w handed k))) (quiet w sound heads b handed k lt r).between)

    got_quiet : (handed : ℕ → Handed) → bus w ≡ Recessive → HaveGot (next_wire w (Bit handed)) passages
    got_quiet handed r = got_on w (Bit handed) passages (quiet_did_nothing handed r) got

    got_alone : (machine : ℕ) (handed : Handed) → HaveGot (next_wire w (Own machine handed)) passages
    got_alone machine handed =
        got_on w (Own machine handed) passages
        (own_did_nothing w machine handed
        (λ k lt may. record {
          plain = (alone_quiet w sound heads b handed k lt may).plain;
          start = no_start (stretch_after (stretch_at w k) (Sample (sampled Recessive (w.frames k) handed))) (alone_quiet w sound heads b handed k lt may).between;
        })) got

    got_first : (handed : ℕ → Handed) → bus w ≡ Dominant → HaveGotIn (next_wire w (Bit handed)) (Dominant ∷ []) passages
    got_first handed d = record {
      senders = got.senders;
      begun = λ k lt. begun_now (w.past k) (sample_at w handed k) (ap is_start_of_frame (begun w sound heads b handed k lt d).next) ∙ ap suc (got.begun k lt);
      frames = λ k lt. plain_frames (w.past k) (sample_at w handed k) (begun w sound heads b handed k lt d).plain ∙ got.frames k lt ∙ sym (append-nil (map (seen_by k) passages));
      acknowledged = λ k lt. plain_acknowledged (w.past k) (sample_at w handed k) (begun w sound heads b handed k lt d).plain ∙ got.acknowledged k lt ∙ omega arith;
    }

    pub between_progress : (handed : ℕ → Handed) → OwnHeads (next_wire w (Bit handed)) → Progress (next_wire w (Bit handed))
    between_progress handed new_heads = elim (level_cases (bus w)) [
      | inl d ↦ under_way passages (Dominant ∷ []) (frame_begins w sound heads b handed new_heads d) (got_first handed d)
      | inr r ↦ free passages (inl (still_between w sound heads b handed r)) (got_quiet handed r)
    ]

    pub between_own_progress : (machine : ℕ) (handed : Handed) → Progress (next_wire w (Own machine handed))
    between_own_progress machine handed = free passages (inl (between_alone w sound heads b machine handed)) (got_alone machine handed)

-- in an intermission
module _ (w : Wire) (own : List Level) (f : AreInIntermission w own) (passages : List Passage) (got : HaveGot w passages) where
  pub intermission_progress : (handed : ℕ → Handed) → Progress (next_wire w (Bit handed))
  intermission_progress handed =
      free passages (intermission_free w own f handed)
      (got_on w (Bit handed) passages
      (λ k lt. plain_added w (Bit handed) k (sample_at w handed k) refl
      (ap (λ s. is_plain (judged s (sample_at w handed k))) (f.each k lt).1 ∙ (on w own f handed k lt).plain)
      (ap is_start_of_frame (sym (at_bit w handed k) ∙ longer w own f handed k lt))) got)

  pub intermission_own_progress : (machine : ℕ) (handed : Handed) → Progress (next_wire w (Own machine handed))
  intermission_own_progress machine handed =
      free passages (inr (own, intermission_alone w own f machine handed))
      (got_on w (Own machine handed) passages (own_did_nothing w machine handed (λ k lt may. absurd (none_alone_in_it w own f k lt may))) got)

-- in a frame no machine has a bit by itself
pub got_in_alone : (w : Wire) (own : List Level) (passages : List Passage) (machine : ℕ) (handed : Handed) → ((k : ℕ) → k < w.count → may_be_alone (stretch_at w k) ≡ false)
    → HaveGotIn w own passages → HaveGotIn (next_wire w (Own machine handed)) own passages
got_in_alone w own passages machine handed not_alone got =
    let nothing : (k : ℕ) → k < w.count → DidNothing w (next_wire w (Own machine handed)) k =
    own_did_nothing w machine handed (λ k lt may. absurd (both_ways (may_be_alone (stretch_at w k)) (not_alone k lt) may)) in
    record {
      senders = got.senders;
      begun = λ k lt. (nothing k lt).begun ∙ got.begun k lt;
      frames = λ k lt.
          (nothing k lt).frames ∙ got.frames k lt
          ∙ ap (λ s. map (seen_by k) passages ++ extra_frames (stuffed_end own) (role_of s) own) (sym (none_alone w machine handed k (not_alone k lt)));
      acknowledged = λ k lt.
          (nothing k lt).acknowledged ∙ got.acknowledged k lt
          ∙ ap (λ s. count_by (is_received_by k) passages + extra_acks (stuffed_end own) (role_of s) (length own)) (sym (none_alone w machine handed k (not_alone k lt)));
    }
