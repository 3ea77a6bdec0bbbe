-- An acknowledgement: a bit that all drive but one, at stations that are close.
use Rattle.std.proofs.Common.{◌≡◌, ◌≢◌, ◌∙◌, ◌⊎◌, inl, inr, refl, sym, ℕ, zero, suc, ◌+◌, ◌-◌, ◌*◌, ◌<◌, ◌≤◌, Bool, true, false, arith}
use Rattle.std.proofs.lemmas.Bool.{both_ways, cases_eq, false_from_ne_true}
use Rattle.wl_segments.specs.Lengths.{bit_quanta}
use Rattle.wl_topology.specs.Driven.{DrivenLaws, driven, any_below}
use Rattle.wl_topology.proofs.Callers.{any_from, any_one}
use Rattle.wl_phase.specs.Clocks.{steady_tick}
use Rattle.wl_buses.specs.OneFrame.Stations.{Stations, AreStations, AreClose, FitsBut, HaveRoomToSample, with_longer_ways}
use Rattle.wl_buses.specs.OneFrame.Starts.{Start, reaches_at}
use Rattle.wl_buses.specs.OneFrame.OneBit.{OneBit, AreRight, sampled_at}
use Rattle.wl_buses.specs.OneFrame.Acknowledged.{AreAllClose, IsAcknowledgedByAll, IsAnsweredByAll, answering, recessive_bit}
use Rattle.wl_buses.proofs.OneFrame.Measures.{drifted}
use Rattle.wl_buses.proofs.OneFrame.AckWays.{begin_there}
use Rattle.wl_buses.proofs.OneFrame.Nearing.{bit_later}
use Rattle.wl_buses.proofs.OneFrame.Passing.{begun_by, same_places}
use Rattle.wl_buses.proofs.OneFrame.Sampled.{all_right, is_there, next_later}

-- none below n if none at all
pub none_at_all : (n : ℕ) → any_below n (λ k. false) ≡ false
none_at_all n = false_from_ne_true (any_below n (λ k. false)) (λ e. (let k = any_one n (λ k. false) e in let f = k.2 in cc))

-- one of two numbers isn't a third
pub another : (w : ℕ) → (k : ℕ) × (k < 2) × (k ≢ w)
another w = elim (cases_eq w 0) [
  | inl zeroth ↦ (1, omega arith, (λ e. (let f = zeroth in omega arith)))
  | inr other ↦ (0, omega arith, (λ e. other (sym e)))
]

-- the same stations with longer ways
pub later_stations : (s : Stations) (more : ℕ → ℕ) → AreStations s → AreStations (with_longer_ways s more)
later_stations s more are = record {
  line = record { steady = are.line.steady; book = are.line.book; later = are.line.later; detours = are.line.detours };
  ways = record {
    there_and_back = λ i k inside there pair may. (let way = are.ways.there_and_back i k inside there pair may in omega arith);
    over = λ i k a inside there third pair apart other may. (let way = are.ways.over i k a inside there third pair apart other may in omega arith);
    straight = λ i k inside there pair may. (let way = are.ways.straight i k inside there pair may in omega arith);
  };
}

module _ (s : Stations) (way : ℕ → ℕ → ℕ) (more : ℕ → ℕ) (are_before : AreStations (answering s way)) (fits : FitsBut (answering s way) more) (room : HaveRoomToSample (with_longer_ways (answering s way) more)) (winner : ℕ) (place : ℕ → ℕ) (slot : Start) (over : ℕ → ℕ)
    (drove : ℕ → ℕ → Bool) (until : ℕ → ℕ) (is : IsAnsweredByAll s (with_longer_ways (answering s way) more).way winner place slot over drove until) (since : ℕ) (few : since ≤ 9) (near_before : AreAllClose s way since place) (laws : DrivenLaws) where
  abbrev late : ℕ → ℕ → ℕ
  late = (with_longer_ways (answering s way) more).way

  abbrev u : Stations
  u = answering s way

  abbrev t : Stations
  t = answering s late

  are : AreStations t
  are = later_stations u more are_before

  close : AreAllClose s late since place
  close i k inside there other some = (let near = near_before i k inside there other some in omega arith)

  abbrev all : ℕ → Bool
  all = λ k. true

  -- so many bits later
  next_before : (n : ℕ) (place : ℕ → ℕ) → AreClose u all n place → AreClose u all (suc n) (λ i. place i + bit_quanta (s.lengths i))
  next_before n place near i k inside there other some = drifted u n i k (place i) (place k) (near i k inside there other some)

  next_bit : (n : ℕ) (place : ℕ → ℕ) → AreClose t all n place → AreClose t all (suc n) (λ i. place i + bit_quanta (s.lengths i))
  next_bit n place near i k inside there other some = drifted t n i k (place i) (place k) (near i k inside there other some)

  -- the CRC delimiter
  delimiter : OneBit t all since (recessive_bit place) slot drove
  delimiter = record {
    close = close;
    few = few;
    allowed = λ k there e. refl;
    senders = λ k there e. refl;
    begun = λ k there e. inl refl;
    after = is.after;
    still = λ k there right e. refl;
    next = λ k there e right. is.next k there right;
    drives = λ k u there e from before. is.quiet k u there from before;
    quiet = λ i k inside there e right later. cc;
  }

  pub delimited : AreRight t (recessive_bit place) drove
  delimited = all_right t are room all since (recessive_bit place) slot drove delimiter laws

  recessive : (i : ℕ) → i < s.count → driven s.count s.delay drove i (sampled_at s (recessive_bit place) i) ≡ false
  recessive i inside = delimited i inside ∙ none_at_all s.count

  not_early : (i k : ℕ) → i < s.count → k < s.count → sampled_at s (recessive_bit place) i < reaches_at s slot k i
  not_early i k inside there =
      next_later t are room all since (recessive_bit place) slot drove delimiter (suc (steady_tick (s.clocks k) (slot.from k))) i k inside there
      (λ w third before. delimited w third) refl (omega arith)

  -- the ACK slot
  close_due : AreClose u all (suc since) slot.due
  close_due = same_places u all (suc since) (λ i. place i + bit_quanta (s.lengths i)) slot.due is.due (next_before since place near_before)

  either : (i k : ℕ) → i < s.count → k < s.count → i ≢ k → (slot.drives i ≡ true) ⊎ (slot.drives k ≡ true)
  either i k inside there other = elim (cases_eq i winner) [
    | inl wins ↦ inr (is.answers k there (λ e. other (wins ∙ sym e)))
    | inr loses ↦ inl (is.answers i inside loses)
  ]

  close_slot : AreClose t all 0 slot.place
  close_slot i k inside there other some =
      bit_later u are_before more fits room.late_fits all (suc since) (omega arith) slot close_due (λ w third e. refl) (λ w third e. refl)
      (begin_there (answering s late) (λ i. true) way slot (is.begin delimited)) i k inside there other
      (either i k inside there other)

  acknowledgement : OneBit t all 0 slot (recessive_bit over) drove
  acknowledgement = record {
    close = close_slot;
    few = omega arith;
    allowed = λ k there e. refl;
    senders = λ k there e. refl;
    begun = λ k there e. begun_by t are slot k there (is.begin delimited k there);
    after = is.later;
    still = λ k there right e. refl;
    next = λ k there e right. inl (is.ends k there right);
    drives = λ k u there e from before. is.drives k u there (delimited k there) from before;
    quiet = λ i k inside there e right later. cc;
  }

  pub slotted : AreRight t slot drove
  slotted = all_right t are room all 0 slot (recessive_bit over) drove acknowledgement laws

  some_answer : any_below s.count slot.drives ≡ true
  some_answer =
      let k = another winner in
      let some = is.some in
      let there : k.0 < s.count = (let h = k.1 in omega arith) in
      any_from s.count k.0 slot.drives there (is.answers k.0 there k.2)

  -- the ACK delimiter, and what follows it
  close_over : AreClose t all 1 over
  close_over = same_places t all 1 (λ i. slot.place i + bit_quanta (s.lengths i)) over (λ i inside. is.ends i inside (slotted i inside)) (next_bit 0 slot.place close_slot)

  rests_then : (i k u : ℕ) → i < s.count → k < s.count → sampled_at s (recessive_bit over) i ≤ u → u < until k + s.delay k i → s.delay k i ≤ u → drove k (u - s.delay k i) ≡ false
  rests_then i k u inside there from before come =
      let here : steady_tick (s.clocks k) (over k) + s.delay k i ≤ sampled_at s (recessive_bit over) i =
      is_there t are room all 1 (omega arith) (recessive_bit over) (λ w third e. refl) close_over i k inside there refl refl in
      is.rests k (u - s.delay k i) there (slotted k there) (omega arith) (omega arith)

  silent : (i u : ℕ) → i < s.count → sampled_at s (recessive_bit over) i ≤ u → ((k : ℕ) → k < s.count → u < until k + s.delay k i) → driven s.count s.delay drove i u ≡ false
  silent i u inside from before =
      false_from_ne_true (driven s.count s.delay drove i u)
      (λ e. (let k = laws.dominant_by s.count s.delay drove i u e in
      both_ways (drove k.0 (u - s.delay k.0 i)) (rests_then i k.0 u inside k.1 from (before k.0 k.1) k.2) k.3))

  close_later : (n : ℕ) → AreClose t all n (λ i. slot.place i + n * bit_quanta (s.lengths i))
  close_later zero = same_places t all 0 slot.place (λ i. slot.place i + 0 * bit_quanta (s.lengths i)) (λ i inside. omega arith) close_slot
  close_later (suc n) =
      same_places t all (suc n) (λ i. slot.place i + n * bit_quanta (s.lengths i) + bit_quanta (s.lengths i)) (λ i. slot.place i + suc n * bit_quanta (s.lengths i)) (λ i inside. omega arith)
      (next_bit n (λ i. slot.place i + n * bit_quanta (s.lengths i)) (close_later n))

  pub acknowledged : IsAcknowledgedByAll s late place slot over drove until
  acknowledged = record {
    before = recessive;
    not_early = not_early;
    dominant = λ i inside. slotted i inside ∙ some_answer;
    silent = silent;
    close = close_later;
  }
