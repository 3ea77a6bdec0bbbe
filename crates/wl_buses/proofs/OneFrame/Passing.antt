-- The bits of a frame, one after another: all sample each as it is on the bus, and who still sends is close to all.
use Rattle.std.proofs.Common.{◌≡◌, ◌∙◌, ◌⊎◌, inl, inr, sym, ap, subst, ℕ, zero, suc, ◌+◌, ◌-◌, ◌<◌, ◌≤◌, ◌||◌, not, cond, Bool, true, false, arith}
use Rattle.std.proofs.lemmas.Bool.{cases_lt, cases_Bool, and_parts, and_from, or_cases, or_left, not-true}
use Rattle.wl_segments.specs.Lengths.{bit_quanta, sample_at}
use Rattle.wl_topology.specs.Driven.{DrivenLaws}
use Rattle.wl_topology.proofs.Callers.{any_from}
use Rattle.wl_phase.specs.Clocks.{steady_tick}
use Rattle.wl_phase.specs.Ways.{moved_to}
use Rattle.wl_buses.specs.OneFrame.Stations.{Stations, AreStations, AreClose, HaveRoom, ReachesBy}
use Rattle.wl_buses.specs.OneFrame.Starts.{Start, Drives, BeginsAlone, FollowsHard, FollowsSoft, AreAllowed, AreSenders, reaches_at}
use Rattle.wl_buses.specs.OneFrame.OneBit.{OneBit, AreRight, IsRight, sampled_at}
use Rattle.wl_buses.specs.OneFrame.Course.{IsCourse, IsSampled, RightUpTo, begins_with_edge, bus_bit, has_sent, since_edge, still_sends}
use Rattle.wl_buses.proofs.OneFrame.Measures.{drifted, tick_next}
use Rattle.wl_buses.proofs.OneFrame.Starting.{frame_close}
use Rattle.wl_buses.proofs.OneFrame.Nearing.{bit_close}
use Rattle.wl_buses.proofs.OneFrame.Sampled.{all_right, is_there}

-- fewer senders are close if more are
pub fewer : (s : Stations) (sends less : ℕ → Bool) (since : ℕ) (place : ℕ → ℕ) → ((k : ℕ) → k < s.count → less k ≡ true → sends k ≡ true) → AreClose s sends since place → AreClose s less since place
fewer s sends less since place h close i k inside there other some = close i k inside there other (either some)
  where
    either : (less i ≡ true) ⊎ (less k ≡ true) → (sends i ≡ true) ⊎ (sends k ≡ true)
    either (inl own) = inl (h i inside own)
    either (inr theirs) = inr (h k there theirs)

-- the same places
pub same_places : (s : Stations) (sends : ℕ → Bool) (since : ℕ) (place new : ℕ → ℕ) → ((i : ℕ) → i < s.count → new i ≡ place i) → AreClose s sends since place → AreClose s sends since new
same_places s sends since place new h close i k inside there other some =
    subst (λ n. ReachesBy s since i k n (new k)) (sym (h i inside))
    (subst (λ p. ReachesBy s since i k (place i) p) (sym (h k there)) (close i k inside there other some))

-- the sample isn't moved back before the one a bit earlier
moves_up : (aim jump n old bit : ℕ) → n ≡ old + bit → jump ≤ bit → old ≤ moved_to aim jump n
moves_up aim jump n old bit e h = omega arith

-- how a bit with an edge begins at a station
pub begun_by : (s : Stations) (are : AreStations s) (b : Start) (k : ℕ) → k < s.count → BeginsAlone s b k ⊎ FollowsSoft s b k
    → (b.from k ≡ b.place k) ⊎ ((w : ℕ) × Drives s b k w × (b.drives k ≡ true → reaches_at s b w k ≤ steady_tick (s.clocks k) (b.from k)))
begun_by s are b k there (inl itself) = inl itself.from
begun_by s are b k there (inr soft) =
    inr (soft.by, soft.finds.by, (λ e. (let seen = soft.finds.finds.seen in let up = tick_next s are k there soft.found (b.from k) (soft.not_before e) in omega arith)))

-- who drives a bit dominant has sent it
pub drives_sent : (bits : ℕ → Start) (n k : ℕ) → (bits n).drives k ≡ true → has_sent bits n k ≡ true
drives_sent bits zero k e = or_left ((bits 0).drives k) ((bits 0).joins k) e
drives_sent bits (suc n) k e = e

pub drives_first : (s : Stations) (bits : ℕ → Start) → AreAllowed s (has_sent bits 0) → AreAllowed s (bits 0).drives
drives_first s bits allowed k there e = allowed k there (drives_sent bits 0 k e)

-- who sends still has sent before, and may send
pub still_before : (s : Stations) (bits : ℕ → Start) (n k : ℕ) → still_sends s bits (suc n) k ≡ true → still_sends s bits n k ≡ true
still_before s bits n k e = (and_parts (still_sends s bits n k) (has_sent bits n k || not (bus_bit s bits n)) e).0

pub still_allowed : (s : Stations) (bits : ℕ → Start) → ((k : ℕ) → k < s.count → still_sends s bits 0 k ≡ true → s.may_send k ≡ true) → (n k : ℕ) → k < s.count
    → still_sends s bits n k ≡ true → s.may_send k ≡ true
still_allowed s bits allowed zero k there e = allowed k there e
still_allowed s bits allowed (suc n) k there e = still_allowed s bits allowed n k there (still_before s bits n k e)

module _ (s : Stations) (are : AreStations s) (room : HaveRoom s) (bits : ℕ → Start) (drove : ℕ → ℕ → Bool) (length : ℕ) (until : ℕ → ℕ)
    (is : IsCourse s bits drove length until) (laws : DrivenLaws) where
  abbrev sends : ℕ → ℕ → Bool
  sends = still_sends s bits

  abbrev since : ℕ → ℕ
  since = since_edge s bits

  abbrev sample : ℕ → ℕ → ℕ
  sample n i = sampled_at s (bits n) i

  -- what station k drives is recessive from before the sample of bit n at station i up to a tick
  pub record IsHeld (n i k end : ℕ) : Type 0 where
    pub begin : ℕ
    pub before : begin ≤ sample n i - s.delay k i
    pub recessive : (t : ℕ) → begin ≤ t → t < end → drove k t ≡ false

  -- what has been shown when the samples of bit n come
  pub record Reached (n : ℕ) : Type 0 where
    pub close : AreClose s (sends (suc n)) (since n) (bits n).place
    pub right : (i : ℕ) → i < s.count → RightUpTo s bits drove n i
    pub held : (i k : ℕ) → i < s.count → k < s.count → sends n k ≡ true → (bits n).drives k ≡ false → IsHeld n i k (steady_tick (s.clocks k) ((bits (suc n)).from k))
    pub lost : (i k : ℕ) → i < s.count → k < s.count → sends 0 k ≡ true → sends n k ≡ false → IsHeld n i k (until k)

  -- who sends still
  abbrev pub sent_before : (n k : ℕ) → sends (suc n) k ≡ true → sends n k ≡ true
  sent_before = still_before s bits

  pub sent_as : (n k : ℕ) → bus_bit s bits n ≡ true → sends (suc n) k ≡ true → has_sent bits n k ≡ true
  sent_as n k bus e = elim (or_cases (has_sent bits n k) (not (bus_bit s bits n)) (and_parts (sends n k) (has_sent bits n k || not (bus_bit s bits n)) e).1) [
    | inl drives ↦ drives
    | inr recessive ↦ (let f : not (bus_bit s bits n) ≡ false = ap not bus in cc)
  ]

  sends_on : (n k : ℕ) → sends n k ≡ true → (bits n).drives k ≡ true → sends (suc n) k ≡ true
  sends_on n k e f = and_from (sends n k) (has_sent bits n k || not (bus_bit s bits n)) e (or_left (has_sent bits n k) (not (bus_bit s bits n)) (drives_sent bits n k f))

  gives_way : (n k : ℕ) → sends n k ≡ true → sends (suc n) k ≡ false → (bits n).drives k ≡ false
  gives_way n k e f = elim (cases_Bool ((bits n).drives k)) [
    | inl drives ↦ (let g = sends_on n k e drives in cc)
    | inr recessive ↦ recessive
  ]

  abbrev pub allowed_at : (n k : ℕ) → k < s.count → sends n k ≡ true → s.may_send k ≡ true
  allowed_at = still_allowed s bits is.allowed

  -- a station that is on the bus
  on_bus : (n k : ℕ) → k < s.count → (bits n).drives k ≡ true → bus_bit s bits n ≡ true
  on_bus n k there e = any_from s.count k (bits n).drives there e

  off_bus : (n k : ℕ) → k < s.count → bus_bit s bits n ≡ false → (bits n).drives k ≡ false
  off_bus n k there e = elim (cases_Bool ((bits n).drives k)) [
    | inl drives ↦ (let g = on_bus n k there drives in cc)
    | inr recessive ↦ recessive
  ]

  -- how a bit begins at a sender
  begun_first : (k : ℕ) → BeginsAlone s (bits 0) k ⊎ FollowsHard s (bits 0) k
      → ((bits 0).from k ≡ (bits 0).place k) ⊎ ((w : ℕ) × Drives s (bits 0) k w × ((bits 0).drives k ≡ true → reaches_at s (bits 0) w k ≤ steady_tick (s.clocks k) ((bits 0).from k)))
  begun_first k (inl itself) = inl itself.from
  begun_first k (inr hard) =
      inr (
        hard.by,
        hard.finds.by,
        (λ e. (let seen = hard.finds.finds.seen in
            let f : steady_tick (s.clocks k) ((bits 0).from k) ≡ steady_tick (s.clocks k) hard.found = ap (steady_tick (s.clocks k)) hard.from in omega arith)),
      )

  begun_at : (n k : ℕ) → n < length → k < s.count → ((i : ℕ) → i < s.count → RightUpTo s bits drove n i)
      → ((bits n).from k ≡ (bits n).place k) ⊎ ((w : ℕ) × Drives s (bits n) k w × ((bits n).drives k ≡ true → reaches_at s (bits n) w k ≤ steady_tick (s.clocks k) ((bits n).from k)))
  begun_at zero k less there right = begun_first k (is.begin k there)
  begun_at (suc n) k less there right = elim (cases_Bool (begins_with_edge s bits (suc n))) [
    | inl edge ↦ begun_by s are (bits (suc n)) k there (is.edge n less right edge k there)
    | inr plain ↦ inl (is.plain n k less there right plain).1
  ]

  -- the samples of a bit
  up_to : (n : ℕ) → Reached n → (k : ℕ) → k < s.count → IsRight s (bits n) drove k → RightUpTo s bits drove (suc n) k
  up_to n r k there right m less = elim (cases_lt m n) [
    | inl before ↦ r.right k there m before
    | inr last ↦ (let e : n ≡ m = omega arith in subst (λ j. IsRight s (bits j) drove k) e right)
  ]

  quiet_held : (n i k end : ℕ) → i < s.count → k < s.count → IsHeld n i k end → s.delay k i ≤ sample n i → sample n i < end + s.delay k i → drove k (sample n i - s.delay k i) ≡ false
  quiet_held n i k end inside there h later less = (let before = h.before in h.recessive (sample n i - s.delay k i) (omega arith) (omega arith))

  -- it has lost by this very bit
  quiet_now : (n i k : ℕ) → n < length → i < s.count → k < s.count → Reached n → sends n k ≡ true → sends (suc n) k ≡ false
      → (sample n k < sample n i → IsRight s (bits n) drove k) → s.delay k i ≤ sample n i → drove k (sample n i - s.delay k i) ≡ false
  quiet_now n i k less inside there r sender gone right later =
      elim (cases_lt (sample n i - s.delay k i) (steady_tick (s.clocks k) ((bits (suc n)).from k))) [
        | inl still ↦ quiet_held n i k (steady_tick (s.clocks k) ((bits (suc n)).from k)) inside there (r.held i k inside there sender (gives_way n k sender gone)) later (omega arith)
        | inr over ↦
            (let after = is.after n k less there in
            let up = tick_next s are k there ((bits n).place k + sample_at (s.lengths k)) ((bits (suc n)).from k) (omega arith) in
            let way = are.line.later k i there inside in
            let end = is.over n i k less inside there in
            is.lost n k (sample n i - s.delay k i) less there (up_to n r k there (right (omega arith))) sender gone over (omega arith))
      ]

  quiet_at : (n i k : ℕ) → n < length → i < s.count → k < s.count → Reached n → sends (suc n) k ≡ false
      → (sample n k < sample n i → IsRight s (bits n) drove k) → s.delay k i ≤ sample n i → drove k (sample n i - s.delay k i) ≡ false
  quiet_at n i k less inside there r gone right later = elim (cases_Bool (sends n k)) [
    | inl sender ↦ quiet_now n i k less inside there r sender gone right later
    | inr none ↦ elim (cases_Bool (sends 0 k)) [
      | inl began ↦ quiet_held n i k (until k) inside there (r.lost i k inside there began none) later (is.over n i k less inside there)
      | inr listens ↦ is.listens n i k less inside there listens (r.right k there) right later
    ]
  ]

  one : (n : ℕ) → n < length → Reached n → OneBit s (sends (suc n)) (since n) (bits n) (bits (suc n)) drove
  one n less r = record {
    close = r.close;
    few = is.few n less;
    allowed = λ k there e. still_allowed s bits is.allowed (suc n) k there e;
    senders = λ k there e. sends_on n k (is.senders n k (omega arith) there (r.right k there) e) e;
    begun = λ k there e. begun_at n k less there r.right;
    after = λ k there. is.after n k less there;
    still = λ k there right e. is.senders (suc n) k (omega arith) there (up_to n r k there right) e;
    next = λ k there e right. is.next n k less there (still_before s bits n k e) (up_to n r k there right);
    drives = λ k t there e from before. is.drives n k t less there (r.right k there) (still_before s bits n k e) from before;
    quiet = λ i k inside there gone right later. quiet_at n i k less inside there r gone right later;
  }

  right_at : (n : ℕ) → n < length → Reached n → AreRight s (bits n) drove
  right_at n less r = all_right s are room.samples (sends (suc n)) (since n) (bits n) (bits (suc n)) drove (one n less r) laws

  -- the start of frame
  first : 0 < length → Reached 0
  first some = record {
    close =
        fewer s s.may_send (sends 1) 0 (bits 0).place (λ k there e. is.allowed k there (sent_before 0 k e)) (frame_close s are (bits 0) (drives_first s bits is.allowed) is.begin);
    right = λ i inside m less. absurd (omega arith);
    held = λ i k inside there sender recessive.
        record { begin = 0; before = omega arith; recessive = λ t from less. is.joined k t some there sender recessive less };
    lost = λ i k inside there began none. cc;
  }

  -- the next bit
  module _ (n : ℕ) (less : suc n < length) (r : Reached n) where
    sampled : AreRight s (bits n) drove
    sampled = right_at n (omega arith) r

    pub right : (i : ℕ) → i < s.count → RightUpTo s bits drove (suc n) i
    right i inside = up_to n r i inside (sampled i inside)

    -- places if no edge comes
    pub close_due : AreClose s (sends (suc n)) (suc (since n)) (bits (suc n)).due
    close_due =
        same_places s (sends (suc n)) (suc (since n)) (λ i. (bits n).place i + bit_quanta (s.lengths i)) (bits (suc n)).due (λ i inside. is.due n i inside)
        (λ i k inside there other some. drifted s (since n) i k ((bits n).place i) ((bits n).place k) (r.close i k inside there other some))

    pub few_due : suc (since n) ≤ 10
    few_due = let few = is.few n (omega arith) in omega arith

    since_next : begins_with_edge s bits (suc n) ≡ true → since (suc n) ≡ 0
    since_next e = ap (λ b. cond b 0 (suc (since n))) e

    pub since_more : begins_with_edge s bits (suc n) ≡ false → since (suc n) ≡ suc (since n)
    since_more e = ap (λ b. cond b 0 (suc (since n))) e

    close_plain : begins_with_edge s bits (suc n) ≡ false → AreClose s (sends (suc n)) (since (suc n)) (bits (suc n)).place
    close_plain e =
        subst (λ m. AreClose s (sends (suc n)) m (bits (suc n)).place) (sym (since_more e))
        (same_places s (sends (suc n)) (suc (since n)) (bits (suc n)).due (bits (suc n)).place (λ i inside. (is.plain n i less inside right e).0) close_due)

    pub sent_next : (k : ℕ) → k < s.count → (bits (suc n)).drives k ≡ true → sends (suc n) k ≡ true
    sent_next k there e = is.senders (suc n) k (omega arith) there (right k there) e

    pub senders_next : AreSenders s (sends (suc n)) (bits (suc n))
    senders_next k there e = sent_next k there e

    close_edge : begins_with_edge s bits (suc n) ≡ true → AreClose s (sends (suc (suc n))) (since (suc n)) (bits (suc n)).place
    close_edge e =
        subst (λ m. AreClose s (sends (suc (suc n))) m (bits (suc n)).place) (sym (since_next e))
        (fewer s (bits (suc n)).drives (sends (suc (suc n))) 0 (bits (suc n)).place (λ k there f. sent_as (suc n) k (and_parts (not (bus_bit s bits n)) (bus_bit s bits (suc n)) e).1 f)
        (bit_close s are room (sends (suc n)) (suc (since n)) few_due (bits (suc n)) close_due senders_next (λ k there f. still_allowed s bits is.allowed (suc n) k there (sent_next k there f)) (is.edge n less right e)))

    close_next : AreClose s (sends (suc (suc n))) (since (suc n)) (bits (suc n)).place
    close_next = elim (cases_Bool (begins_with_edge s bits (suc n))) [
      | inl edge ↦ close_edge edge
      | inr plain ↦ fewer s (sends (suc n)) (sends (suc (suc n))) (since (suc n)) (bits (suc n)).place (λ k there f. still_before s bits (suc n) k f) (close_plain plain)
    ]

    -- a bit later
    place_up : (i : ℕ) → i < s.count → BeginsAlone s (bits (suc n)) i ⊎ FollowsSoft s (bits (suc n)) i → (bits n).place i ≤ (bits (suc n)).place i
    place_up i inside (inl itself) = let e = itself.place in let f = is.due n i inside in omega arith
    place_up i inside (inr soft) =
        let l = (are.line.book i inside).lengths in
        let long = l.low in
        let jump = l.sjw_half in
        let up = moves_up (soft.found - 1) (s.lengths i).sjw ((bits (suc n)).due i) ((bits n).place i) (bit_quanta (s.lengths i)) (is.due n i inside) (omega arith) in
        let e = soft.place in
        omega arith

    later_place : (i : ℕ) → i < s.count → (bits n).place i ≤ (bits (suc n)).place i
    later_place i inside = elim (cases_Bool (begins_with_edge s bits (suc n))) [
      | inl edge ↦ place_up i inside (is.edge n less right edge i inside)
      | inr plain ↦ (let e = (is.plain n i less inside right plain).0 in let f = is.due n i inside in omega arith)
    ]

    later_sample : (i : ℕ) → i < s.count → sample n i ≤ sample (suc n) i
    later_sample i inside =
        let up = later_place i inside in
        tick_next s are i inside ((bits n).place i + sample_at (s.lengths i)) ((bits (suc n)).place i + sample_at (s.lengths i)) (omega arith)

    held_later : (i k end : ℕ) → i < s.count → IsHeld n i k end → IsHeld (suc n) i k end
    held_later i k end inside h = record { begin = h.begin; before = (let up = later_sample i inside in let before = h.before in omega arith); recessive = h.recessive }

    held_edge : (i k : ℕ) → i < s.count → k < s.count → sends (suc n) k ≡ true → (bits (suc n)).drives k ≡ false → begins_with_edge s bits (suc n) ≡ true
        → IsHeld (suc n) i k (steady_tick (s.clocks k) ((bits (suc (suc n))).from k))
    held_edge i k inside there sender recessive edge =
        let bus : not (bus_bit s bits n) ≡ true = (and_parts (not (bus_bit s bits n)) (bus_bit s bits (suc n)) edge).0 in
        let old : (bits n).drives k ≡ false = off_bus n k there (not-true (bus_bit s bits n) bus) in
        let h = held_later i k (steady_tick (s.clocks k) ((bits (suc n)).from k)) inside (r.held i k inside there (still_before s bits n k sender) old) in
        record {
          begin = h.begin;
          before = h.before;
          recessive = λ t from before. elim (cases_lt t (steady_tick (s.clocks k) ((bits (suc n)).from k))) [
            | inl still ↦ h.recessive t from still
            | inr next ↦ is.drives (suc n) k t less there (right k there) sender next before ∙ recessive
          ];
        }

    held_plain : (i k : ℕ) → i < s.count → k < s.count → sends (suc n) k ≡ true → (bits (suc n)).drives k ≡ false → begins_with_edge s bits (suc n) ≡ false
        → IsHeld (suc n) i k (steady_tick (s.clocks k) ((bits (suc (suc n))).from k))
    held_plain i k inside there sender recessive plain = record {
      begin = steady_tick (s.clocks k) ((bits (suc n)).from k);
      before = (let come = is_there s are room.samples (sends (suc n)) (since (suc n)) (let f = is.few (suc n) less in omega arith) (bits (suc n)) (λ k there e. still_allowed s bits is.allowed (suc n) k there e) (close_plain plain) i k inside there sender (is.plain n k less there right plain).1 in omega arith);
      recessive = λ t from before. is.drives (suc n) k t less there (right k there) sender from before ∙ recessive;
    }

    lost_now : (i k : ℕ) → i < s.count → k < s.count → sends n k ≡ true → sends (suc n) k ≡ false → IsHeld (suc n) i k (until k)
    lost_now i k inside there sender gone =
        let h = held_later i k (steady_tick (s.clocks k) ((bits (suc n)).from k)) inside (r.held i k inside there sender (gives_way n k sender gone)) in
        record {
          begin = h.begin;
          before = h.before;
          recessive = λ t from before. elim (cases_lt t (steady_tick (s.clocks k) ((bits (suc n)).from k))) [
            | inl still ↦ h.recessive t from still
            | inr next ↦ is.lost n k t (omega arith) there (right k there) sender gone next before
          ];
        }

    next : Reached (suc n)
    next = record {
      close = close_next;
      right = right;
      held = λ i k inside there sender recessive. elim (cases_Bool (begins_with_edge s bits (suc n))) [
        | inl edge ↦ held_edge i k inside there sender recessive edge
        | inr plain ↦ held_plain i k inside there sender recessive plain
      ];
      lost = λ i k inside there began gone. elim (cases_Bool (sends n k)) [
        | inl sender ↦ lost_now i k inside there sender gone
        | inr none ↦ held_later i k (until k) inside (r.lost i k inside there began none)
      ];
    }

  pub reached : (n : ℕ) → n < length → Reached n
  reached zero less = first less
  reached (suc n) less = next n less (reached n (omega arith))

  pub one_bit : (n : ℕ) → n < length → OneBit s (sends (suc n)) (since n) (bits n) (bits (suc n)) drove
  one_bit n less = one n less (reached n less)

  pub sampled_bit : (n : ℕ) → n < length → IsSampled s bits drove n
  sampled_bit n less = let r = reached n less in record { right = right_at n less r; close = r.close }
