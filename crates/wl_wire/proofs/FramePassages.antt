-- The frames that were begun on a wire, while one is under way, one event later.
use Rattle.std.proofs.Common.{◌≡◌, ◌≢◌, ℕ, suc, ◌+◌, ◌-◌, ◌<◌, ◌≤◌, ◌∙◌, List, [], ◌∷◌, ◌++◌, length, map, Bool, true, false, cond, not, Option, Some, None, refl, sym, ap, arith, append-nil, append_assoc, length-append, inl, inr}
use Rattle.std.specs.Prelude.{◌==◌, slice_get, count_by}
use Rattle.std.proofs.lemmas.List.{map-append}
use Rattle.std.proofs.lemmas.List.Elements.{All-push}
use Rattle.std.proofs.lemmas.List.Sums.{sum_by-append}
use Rattle.std.proofs.lemmas.Bool.{cases_eq, cases_lt, eq-eqb, ne_eqb, lt-leb, le-leb}
use Rattle.wl_level.specs.declared.Level.{Level}
use Rattle.wl_level.specs.Places.{or_at}
use Rattle.wl_level.proofs.Callers.{length_more}
use Rattle.wl_frame.specs.Stuffing.{destuffed_bits}
use Rattle.wl_frame.specs.Grammar.{Content, content_of}
use Rattle.wl_frame.proofs.Callers.{kept_old}
use Rattle.wl_machine.specs.declared.state.Role.{Role}
use Rattle.wl_machine.specs.declared.state.Role.TheVariants.{Tx, Rx}
use Rattle.wl_machine.specs.Stretch.Sort.{Framing}
use Rattle.wl_machine.specs.Stretch.Ended.{Sent, Received}
use Rattle.wl_machine.specs.Stretch.Input.{Sample}
use Rattle.wl_machine.specs.Frames.{stuffed_end, frame_role}
use Rattle.wl_machine.specs.Judged.{judged, stretch_after, head_of, role_of}
use Rattle.wl_machine.specs.States.{stretch_by}
use Rattle.wl_machine.proofs.Callers.{ends_at, role_receives, tail_sends}
use Rattle.wl_wire.specs.Wire.{Wire, Handed, Bit, stretch_at, bus, next_wire}
use Rattle.wl_wire.specs.InStep.{Has, AreSoundFrames, AreInFrame, IsSender}
use Rattle.wl_wire.specs.Outcome.{frames_of, acknowledged_by, is_start_of_frame, Passage, seen_by, is_received_by, HaveGot}
use Rattle.wl_wire.proofs.Deeds.{none_more, frames_more, acknowledged_more, plain_frames, plain_acknowledged, begun_same}
use Rattle.wl_wire.proofs.Events.{OwnHeads, sample_at, at_bit}
use Rattle.wl_wire.proofs.Passages.{Progress, HaveGotIn, extra_acks, extra_frames}
use Rattle.wl_wire.proofs.Quiet.{is_plain, read_back}
use Rattle.wl_wire.proofs.Stuffing.{ArbitrationDecides, IsMember, Receives, member, role_cases, not_both_roles, sends_content, stuffed_on, stuffed_bit}
use Rattle.wl_wire.proofs.Stuffing as stuffing
use Rattle.wl_wire.proofs.Tail.{EndsBy, GoesOnBy, acked_in, got_in}
use Rattle.wl_wire.proofs.Tail as tail

-- with the last bit of the stuffed part a machine has nothing of the frame
no_frames_yet : (t : Bool) (role : Role) (own : List Level) → extra_frames (or_at None t (length own)) role own ≡ []
no_frames_yet true Tx own = refl
no_frames_yet true Rx own = ap (λ b. cond b (Received (content_of (destuffed_bits own (length own))) ∷ []) []) (lt-leb (length own + 9) (length own) (omega arith))
no_frames_yet false role own = refl

no_acks_yet : (t : Bool) (role : Role) (n : ℕ) → extra_acks (or_at None t n) role n ≡ 0
no_acks_yet true Tx n = refl
no_acks_yet true Rx n = ap (λ b. cond b 1 0) (lt-leb (n + 2) n (omega arith))
no_acks_yet false role n = refl

not_started : (head : Option Content) (own : List Level) (l : Level) → 0 < length own → is_start_of_frame (stretch_by (Framing head) (own ++ l ∷ [])) ≡ false
not_started head own l some = let e : length (own ++ l ∷ []) ≡ length own + 1 = length_more own l in ne_eqb (length (own ++ l ∷ [])) 1 (λ one. omega (arith, one, e, some))

-- in the stuffed part
module _ (decides : ArbitrationDecides) (w : Wire) (own : List Level) (sound : AreSoundFrames w.count w.frames) (heads : OwnHeads w) (f : AreInFrame w own)
    (none : stuffed_end own ≡ None) (passages : List Passage) (got : HaveGotIn w own passages) (handed : ℕ → Handed) where
  plain_there : (k : ℕ) → k < w.count → is_plain (judged (stretch_at w k) (sample_at w handed k)) ≡ true
  plain_there k lt = ap is_plain (stuffed_on decides w own sound heads f none (slice_get (w.frames k) (handed k).which) (handed k).mode k lt)

  no_start_there : (k : ℕ) → k < w.count → is_start_of_frame (stretch_after (stretch_at w k) (Sample (sample_at w handed k))) ≡ false
  no_start_there k lt =
      ap is_start_of_frame (sym (at_bit w handed k) ∙ stuffing.next_stretch decides w own sound heads f none handed k lt) ∙ not_started (f.each k lt).0 own (bus w) f.begun

  pub got_stuffed : HaveGotIn (next_wire w (Bit handed)) (own ++ bus w ∷ []) passages
  got_stuffed = record {
    senders = got.senders;
    begun = λ k lt. begun_same (w.past k) (sample_at w handed k) (no_start_there k lt) ∙ got.begun k lt;
    frames = λ k lt.
        plain_frames (w.past k) (sample_at w handed k) (plain_there k lt) ∙ got.frames k lt
        ∙ ap (λ o. map (seen_by k) passages ++ extra_frames o (role_of (stretch_at w k)) own) none
        ∙ ap (λ es. map (seen_by k) passages ++ es)
        (sym (ap (λ o. extra_frames o (role_of (stretch_at (next_wire w (Bit handed)) k)) (own ++ bus w ∷ [])) (stuffing.end_next decides w own sound heads f none handed)
        ∙ no_frames_yet (ends_at (own ++ bus w ∷ []) (length (own ++ bus w ∷ []))) (role_of (stretch_at (next_wire w (Bit handed)) k)) (own ++ bus w ∷ [])));
    acknowledged = λ k lt.
        plain_acknowledged (w.past k) (sample_at w handed k) (plain_there k lt) ∙ got.acknowledged k lt
        ∙ ap (λ o. count_by (is_received_by k) passages + extra_acks o (role_of (stretch_at w k)) (length own)) none
        ∙ ap (λ n. count_by (is_received_by k) passages + n)
        (sym (ap (λ o. extra_acks o (role_of (stretch_at (next_wire w (Bit handed)) k)) (length (own ++ bus w ∷ []))) (stuffing.end_next decides w own sound heads f none handed)
        ∙ no_acks_yet (ends_at (own ++ bus w ∷ []) (length (own ++ bus w ∷ []))) (role_of (stretch_at (next_wire w (Bit handed)) k)) (length (own ++ bus w ∷ []))));
  }

-- one more of the ten bits
more_acks : (end n m : ℕ) (role : Role) → end ≤ n → m ≡ n + 1 → extra_acks (Some end) role n + cond (acked_in role (n - end)) 1 0 ≡ extra_acks (Some end) role m
more_acks end n m Tx le e = refl
more_acks end n m Rx le e = elim (cases_lt (n - end) 1) [
  | inl first ↦
      ap (λ b. cond b 1 0 + cond ((n - end) == 1) 1 0) (lt-leb (end + 2) n (omega arith)) ∙ ap (λ b. 0 + cond b 1 0) (ne_eqb (n - end) 1 (λ one. omega (arith, one, first)))
      ∙ ap (λ b. cond b 1 0) (sym (lt-leb (end + 2) m (omega arith)))
  | inr later ↦ elim (cases_eq (n - end) 1) [
    | inl slot ↦
        ap (λ b. cond b 1 0 + cond ((n - end) == 1) 1 0) (lt-leb (end + 2) n (omega arith)) ∙ ap (λ b. 0 + cond b 1 0) (eq-eqb (n - end) 1 slot)
        ∙ ap (λ b. cond b 1 0) (sym (le-leb (end + 2) m (omega arith)))
    | inr apart ↦
        ap (λ b. cond b 1 0 + cond ((n - end) == 1) 1 0) (le-leb (end + 2) n (omega (arith, apart))) ∙ ap (λ b. 1 + cond b 1 0) (ne_eqb (n - end) 1 apart)
        ∙ ap (λ b. cond b 1 0) (sym (le-leb (end + 2) m (omega (arith, apart))))
  ]
]

more_frames : (end : ℕ) (own : List Level) (l : Level) (role : Role) → end ≤ length own → length own < end + 9
    → extra_frames (Some end) role own ++ got_in role (destuffed_bits own end) (length own - end) ≡ extra_frames (Some end) role (own ++ l ∷ [])
more_frames end own l Tx le small = refl
more_frames end own l Rx le small =
    let more : length (own ++ l ∷ []) ≡ length own + 1 = length_more own l in
    ap (λ b. cond b (Received (content_of (destuffed_bits own end)) ∷ []) [] ++ cond ((length own - end) == 8) (Received (content_of (destuffed_bits own end)) ∷ []) [])
    (lt-leb (end + 9) (length own) small)
    ∙ elim (cases_eq (length own - end) 8) [
      | inl last ↦
          ap (λ b. cond b (Received (content_of (destuffed_bits own end)) ∷ []) []) (eq-eqb (length own - end) 8 last)
          ∙ ap (λ ks. Received (content_of ks) ∷ []) (sym (kept_old own l end le))
          ∙ ap (λ b. cond b (Received (content_of (destuffed_bits (own ++ l ∷ []) end)) ∷ []) []) (sym (le-leb (end + 9) (length (own ++ l ∷ [])) (omega arith)))
      | inr apart ↦
          ap (λ b. cond b (Received (content_of (destuffed_bits own end)) ∷ []) []) (ne_eqb (length own - end) 8 apart)
          ∙ ap (λ b. cond b (Received (content_of (destuffed_bits (own ++ l ∷ []) end)) ∷ []) []) (sym (lt-leb (end + 9) (length (own ++ l ∷ [])) (omega (arith, apart))))
    ]

-- in the ten bits after it
module _ (w : Wire) (own : List Level) (sound : AreSoundFrames w.count w.frames) (heads : OwnHeads w) (f : AreInFrame w own)
    (end : ℕ) (over : stuffed_end own ≡ Some end) (passages : List Passage) (got : HaveGotIn w own passages) (handed : ℕ → Handed) where
  abbrev place : ℕ
  place = length own - end

  abbrev new : Wire
  new = next_wire w (Bit handed)

  abbrev grown : List Level
  grown = own ++ bus w ∷ []

  inside : (end ≤ length own) × (length own < end + 10)
  inside = f.tail end over

  old_frames : (k : ℕ) → k < w.count → frames_of (w.past k) ≡ map (seen_by k) passages ++ extra_frames (Some end) (role_of (stretch_at w k)) own
  old_frames k lt = got.frames k lt ∙ ap (λ o. map (seen_by k) passages ++ extra_frames o (role_of (stretch_at w k)) own) over

  old_acks : (k : ℕ) → k < w.count → acknowledged_by (w.past k) ≡ count_by (is_received_by k) passages + extra_acks (Some end) (role_of (stretch_at w k)) (length own)
  old_acks k lt = got.acknowledged k lt ∙ ap (λ o. count_by (is_received_by k) passages + extra_acks o (role_of (stretch_at w k)) (length own)) over

  module _ (apart : place ≢ 9) where
    no_start_here : (k : ℕ) → k < w.count → is_start_of_frame (stretch_after (stretch_at w k) (Sample (sample_at w handed k))) ≡ false
    no_start_here k lt =
        ap is_start_of_frame (sym (at_bit w handed k) ∙ tail.next_stretch w own sound heads f end over handed apart k lt) ∙ not_started (f.each k lt).0 own (bus w) f.begun

    goes : (k : ℕ) → k < w.count → GoesOnBy (acked_in (role_of (stretch_at w k)) place) (got_in (role_of (stretch_at w k)) (destuffed_bits own end) place) (judged (stretch_at w k) (sample_at w handed k))
    goes k lt = tail.goes_on_there w own sound heads f end over handed apart k lt

    frame_role_stays : (head : Option Content) → frame_role head grown ≡ frame_role head own
    frame_role_stays None = refl
    frame_role_stays (Some head) = elim (role_cases (frame_role (Some head) own)) [
      | inl t ↦ tail_sends head place end own (bus w) (tail.is_tail w own sound heads f end over handed) t ∙ sym t
      | inr r ↦ role_receives (Some head) own (bus w) r ∙ sym r
    ]

    role_stays : (k : ℕ) → k < w.count → role_of (stretch_at w k) ≡ role_of (stretch_at new k)
    role_stays k lt =
        ap role_of (f.each k lt).1 ∙ sym (frame_role_stays (f.each k lt).0)
        ∙ ap role_of (sym (tail.next_stretch w own sound heads f end over handed apart k lt))

    still : stuffed_end grown ≡ Some end
    still = tail.still_over w own sound heads f end over handed

    frames_there : (k : ℕ) → k < w.count → frames_of (new.past k) ≡ map (seen_by k) passages ++ extra_frames (stuffed_end grown) (role_of (stretch_at new k)) grown
    frames_there k lt =
        let le : end ≤ length own = inside.0 in
        let below : length own < end + 10 = inside.1 in
        frames_more (w.past k) (sample_at w handed k)
        ∙ ap (λ es. frames_of (w.past k) ++ es) (goes k lt).got_is
        ∙ ap (λ es. es ++ got_in (role_of (stretch_at w k)) (destuffed_bits own end) place) (old_frames k lt)
        ∙ append_assoc (map (seen_by k) passages) (extra_frames (Some end) (role_of (stretch_at w k)) own) (got_in (role_of (stretch_at w k)) (destuffed_bits own end) place)
        ∙ ap (λ es. map (seen_by k) passages ++ es) (more_frames end own (bus w) (role_of (stretch_at w k)) le (omega (arith, apart)))
        ∙ ap (λ r. map (seen_by k) passages ++ extra_frames (Some end) r grown) (role_stays k lt)
        ∙ ap (λ o. map (seen_by k) passages ++ extra_frames o (role_of (stretch_at new k)) grown) (sym still)

    acks_there : (k : ℕ) → k < w.count
        → acknowledged_by (new.past k) ≡ count_by (is_received_by k) passages + extra_acks (stuffed_end grown) (role_of (stretch_at new k)) (length grown)
    acks_there k lt =
        acknowledged_more (w.past k) (sample_at w handed k)
        ∙ ap (λ b. acknowledged_by (w.past k) + cond b 1 0) (goes k lt).acked_is
        ∙ ap (λ n. n + cond (acked_in (role_of (stretch_at w k)) place) 1 0) (old_acks k lt)
        ∙ add_parts (count_by (is_received_by k) passages) (extra_acks (Some end) (role_of (stretch_at w k)) (length own)) (cond (acked_in (role_of (stretch_at w k)) place) 1 0)
        ∙ ap (λ n. count_by (is_received_by k) passages + n) (more_acks end (length own) (length grown) (role_of (stretch_at w k)) inside.0 (length_more own (bus w)))
        ∙ ap (λ r. count_by (is_received_by k) passages + extra_acks (Some end) r (length grown)) (role_stays k lt)
        ∙ ap (λ o. count_by (is_received_by k) passages + extra_acks o (role_of (stretch_at new k)) (length grown)) (sym still)
      where
        add_parts : (a b c : ℕ) → (a + b) + c ≡ a + (b + c)
        add_parts a b c = omega arith

    pub got_tail : HaveGotIn new grown passages
    got_tail = record {
      senders = got.senders;
      begun = λ k lt. begun_same (w.past k) (sample_at w handed k) (no_start_here k lt) ∙ got.begun k lt;
      frames = frames_there;
      acknowledged = acks_there;
    }

  -- the last of them
  module _ (last : place ≡ 9) where
    abbrev passage : Passage
    passage = record { sender = f.sender.0; frame = f.sender.2 }

    sender_is : IsMember w own f.sender.0
    sender_is = inl (f.sender.2, f.sender.3)

    -- what a machine in each role has then
    record HasAll (k : ℕ) : Type 0 where
      frames : frames_of (new.past k) ≡ map (seen_by k) passages ++ seen_by k passage ∷ []
      acks : acknowledged_by (new.past k) ≡ count_by (is_received_by k) passages + cond (is_received_by k passage) 1 0

    sender_has : (k : ℕ) (lt : k < w.count) (head : Content) → IsSender w own k head → HasAll k
    sender_has k lt head s =
        let role : role_of (stretch_at w k) ≡ Tx = ap role_of s.framing ∙ s.role in
        let ends : EndsBy Tx (Sent head ∷ []) (judged (stretch_at w k) (sample_at w handed k)) = tail.sender_ends w own sound heads f end over handed last k head s in
        let same_machine : k ≡ f.sender.0 = tail.one_sender w own sound heads f end over k f.sender.0 head f.sender.2 lt f.sender.1 s f.sender.3 in
        let same_frame : head ≡ f.sender.2 = tail.same_head w own sound heads f end over k f.sender.0 head f.sender.2 lt f.sender.1 s f.sender.3 in
        record {
          frames =
              frames_more (w.past k) (sample_at w handed k)
              ∙ ap (λ es. frames_of (w.past k) ++ es) ends.got_is
              ∙ ap (λ es. es ++ Sent head ∷ []) (old_frames k lt ∙ ap (λ r. map (seen_by k) passages ++ extra_frames (Some end) r own) role ∙ append-nil (map (seen_by k) passages))
              ∙ ap (λ c. map (seen_by k) passages ++ Sent c ∷ []) same_frame
              ∙ ap (λ b. map (seen_by k) passages ++ cond b (Sent f.sender.2) (Received f.sender.2) ∷ []) (sym (eq-eqb k f.sender.0 same_machine));
          acks =
              acknowledged_more (w.past k) (sample_at w handed k)
              ∙ ap (λ b. acknowledged_by (w.past k) + cond b 1 0) ends.acked_is
              ∙ ap (λ n. n + 0) (old_acks k lt ∙ ap (λ r. count_by (is_received_by k) passages + extra_acks (Some end) r (length own)) role)
              ∙ no_more (count_by (is_received_by k) passages)
              ∙ ap (λ b. count_by (is_received_by k) passages + cond (not b) 1 0) (sym (eq-eqb k f.sender.0 same_machine));
        }
      where
        no_more : (n : ℕ) → (n + 0) + 0 ≡ n + 0
        no_more n = omega arith

    other_machine : (k : ℕ) (lt : k < w.count) (head : Option Content) → Receives w own k head → k ≢ f.sender.0
    other_machine k lt head r e =
        let sorts : Some f.sender.2 ≡ head = ap (λ s. head_of s.sort) (sym f.sender.3.framing ∙ ap (stretch_at w) (sym e) ∙ r.framing) in
        not_both_roles (frame_role head own) (ap (λ h. frame_role h own) (sym sorts) ∙ f.sender.3.role) r.role

    receiver_has : (k : ℕ) (lt : k < w.count) (head : Option Content) → Receives w own k head → HasAll k
    receiver_has k lt head r =
        let le : end ≤ length own = inside.0 in
        let role : role_of (stretch_at w k) ≡ Rx = ap role_of r.framing ∙ r.role in
        let ends : EndsBy Rx [] (judged (stretch_at w k) (sample_at w handed k)) = tail.receiver_ends w own sound heads f end over handed last k head r in
        let other : k ≢ f.sender.0 = other_machine k lt head r in
        let frame : content_of (destuffed_bits own end) ≡ f.sender.2 =
        ap content_of (tail.kept_is w own sound heads f end over f.sender.0 f.sender.2 f.sender.1 f.sender.3)
        ∙ (read_back f.sender.2 (sends_content w own f.sender.0 f.sender.2 sound heads f.sender.1 f.sender.3)).content in
        record {
          frames =
              frames_more (w.past k) (sample_at w handed k)
              ∙ ap (λ es. frames_of (w.past k) ++ es) ends.got_is
              ∙ append-nil (frames_of (w.past k))
              ∙ old_frames k lt ∙ ap (λ role. map (seen_by k) passages ++ extra_frames (Some end) role own) role
              ∙ ap (λ b. map (seen_by k) passages ++ cond b (Received (content_of (destuffed_bits own end)) ∷ []) []) (le-leb (end + 9) (length own) (omega (arith, last)))
              ∙ ap (λ c. map (seen_by k) passages ++ Received c ∷ []) frame
              ∙ ap (λ b. map (seen_by k) passages ++ cond b (Sent f.sender.2) (Received f.sender.2) ∷ []) (sym (ne_eqb k f.sender.0 other));
          acks =
              acknowledged_more (w.past k) (sample_at w handed k)
              ∙ ap (λ b. acknowledged_by (w.past k) + cond b 1 0) ends.acked_is
              ∙ ap (λ n. n + 0)
              (old_acks k lt ∙ ap (λ role. count_by (is_received_by k) passages + extra_acks (Some end) role (length own)) role
              ∙ ap (λ b. count_by (is_received_by k) passages + cond b 1 0) (le-leb (end + 2) (length own) (omega (arith, last))))
              ∙ one_more (count_by (is_received_by k) passages)
              ∙ ap (λ b. count_by (is_received_by k) passages + cond (not b) 1 0) (sym (ne_eqb k f.sender.0 other));
        }
      where
        one_more : (n : ℕ) → (n + 1) + 0 ≡ n + 1
        one_more n = omega arith

    has_by : (k : ℕ) (lt : k < w.count) → IsMember w own k → HasAll k
    has_by k lt (inl m) = sender_has k lt m.0 m.1
    has_by k lt (inr m) = receiver_has k lt m.0 m.1

    has_all : (k : ℕ) → k < w.count → HasAll k
    has_all k lt = has_by k lt (member w own f k lt)

    no_start_after : (k : ℕ) → k < w.count → is_start_of_frame (stretch_after (stretch_at w k) (Sample (sample_at w handed k))) ≡ false
    no_start_after k lt = ap is_start_of_frame (sym (at_bit w handed k) ∙ ((tail.frame_ends w own sound heads f end over handed last).each k lt).1)

    pub got_ended : HaveGot new (passages ++ passage ∷ [])
    got_ended = record {
      senders = All-push (λ p. (p.sender < w.count) × Has w.frames p.sender p.frame) passages passage got.senders (f.sender.1, heads f.sender.0 f.sender.2 (ap (λ s. head_of s.sort) f.sender.3.framing));
      begun = λ k lt.
          begun_same (w.past k) (sample_at w handed k) (no_start_after k lt) ∙ got.begun k lt
          ∙ (let e : length (passages ++ passage ∷ []) ≡ length passages + 1 = length-append passages (passage ∷ []) in let goal : suc (length passages) ≡ length (passages ++ passage ∷ []) = omega arith in goal);
      frames = λ k lt. (has_all k lt).frames ∙ sym (map-append (seen_by k) passages (passage ∷ []));
      acknowledged = λ k lt.
          (has_all k lt).acks ∙ ap (λ n. count_by (is_received_by k) passages + n) (sym (none_more (cond (is_received_by k passage) 1 0)))
          ∙ sym (sum_by-append (λ p. cond (is_received_by k p) 1 0) passages (passage ∷ []));
    }

  pub tail_progress : Progress new
  tail_progress = elim (cases_eq place 9) [
    | inl last ↦
        Progress.free (passages ++ record { sender = f.sender.0; frame = f.sender.2 } ∷ []) (inr ([], tail.frame_ends w own sound heads f end over handed last)) (got_ended last)
    | inr apart ↦ Progress.under_way passages grown (tail.frame_goes_on w own sound heads f end over handed apart) (got_tail apart)
  ]
