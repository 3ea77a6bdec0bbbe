-- A listener in step with a free-running sender, quantum by quantum.
use Rattle.std.proofs.Common.{◌≡◌, ◌∙◌, ◌⊎◌, inl, inr, refl, sym, ap, subst, ℕ, zero, suc, ◌+◌, ◌-◌, ◌*◌, ◌<◌, ◌≤◌, [], ◌∷◌, ◌++◌, length, take, Bool, true, false, cond, not, ◌&&◌, Some, None, arith, append-nil, add-one}
use Rattle.std.specs.Prelude.{nat_lt, nat_le}
use Rattle.std.proofs.lemmas.Bool.{cases_lt, cases_eq, lt-ltb, eq-eqb, and_left, and_right, and_parts, false_from_ne_true, true_from_ne_false}
use Rattle.std.proofs.Math.Nat.{mul-le-mul_right}
use Rattle.std.proofs.lemmas.List.{take_more}
use Rattle.wl_level.specs.declared.Level.{Level}
use Rattle.wl_level.specs.declared.Level.TheVariants.{Dominant, Recessive}
use Rattle.wl_level.specs.Levels.{is_dominant}
use Rattle.wl_level.specs.Places.{at, before}
use Rattle.wl_level.proofs.Callers.{dominant_from}
use Rattle.wl_segments.specs.declared.SyncRules.{SyncRules}
use Rattle.wl_segments.specs.declared.SyncRules.TheVariants.{After, Book}
use Rattle.wl_segments.specs.Lengths.{Lengths, sample_at, bit_quanta, found_at}
use Rattle.wl_sync.specs.declared.Sync.{Sync}
use Rattle.wl_sync.specs.declared.Sync.TheVariants.{Hard, Error}
use Rattle.wl_sync.specs.declared.Beat.{Beat}
use Rattle.wl_sync.specs.declared.Beat.TheVariants.{Plain, Sample, Start}
use Rattle.wl_sync.specs.declared.Seen.{Seen}
use Rattle.wl_sync.specs.Edges.{is_hard_edge, looks, counts_at, phase_error}
use Rattle.wl_sync.specs.Bits.{beat_of, sync_of}
use Rattle.wl_sync.specs.Running.{Running, clock_after}
use Rattle.wl_sync.specs.Steps.{running_sync}
use Rattle.wl_sync.specs.Skips.{moved_place}
use Rattle.wl_frame.specs.Laws.{IsEdge}
use Rattle.wl_phase.specs.Clocks.{IsSteady, steady_tick}
use Rattle.wl_phase.specs.Ways.{ByTheBook, WayLaws, sample_way, way_after, moved_to}
use Rattle.wl_phase.specs.InStep.{Sender, Listener, Listens, IsListening, ClocksAreNear, HaveEdges, SamplesBit, arrival, seen_before, sampled_by, samples_from, bit_parts, quantum_parts, tick_parts, bit_instant, quantum_instant}
use Rattle.wl_phase.proofs.Steps.{IsValid, Leaves, Passes, zero_is}
use Rattle.wl_phase.proofs.Edges.{answer_soft}
use Rattle.wl_phase.proofs.Runs as runs
use Rattle.wl_phase.proofs.Runs.{Goes, valid_at, sync_is}
use Rattle.wl_phase.proofs.Instants.{tick_later, bit_next, quantum_more, arrived_high, unarrived_low, arrived_from, unarrived_from}
use Rattle.wl_phase.proofs.Drift.{AreLong, IsNear, begun_then, next_later, next_after, near_next, near_edge, near_late, near_early}

pub cases_level : (v : Level) → (v ≡ Dominant) ⊎ (v ≡ Recessive)
cases_level Dominant = inl refl
cases_level Recessive = inr refl

-- no edge counts where the level before, or the last sample, is dominant, or this level is recessive
module _ (r : Running) (x : Seen) where
  pub before_dominant : r.level ≡ Dominant → running_sync r x ≡ false
  before_dominant e = (let g : (is_dominant x.level && not (is_dominant r.level)) ≡ false = and_right _ _ (ap (λ v. not (is_dominant v)) e) in rw g refl)

  pub now_recessive : x.level ≡ Recessive → running_sync r x ≡ false
  now_recessive e = (let g : (is_dominant x.level && not (is_dominant r.level)) ≡ false = and_left _ _ (ap is_dominant e) in rw g refl)

  sample_dominant : r.sample ≡ Dominant → running_sync r x ≡ false
  sample_dominant e = (let g : ((is_dominant x.level && not (is_dominant r.level)) && not (is_dominant r.sample)) ≡ false = and_right _ _ (ap (λ v. not (is_dominant v)) e) in rw g refl)

-- an edge that counts at a node that listens
pub looks_from : (s : SyncRules) (place k : ℕ) → s ≡ Book → 0 < k → looks s place k ≡ true
looks_from After place k e h = cc
looks_from Book place k e h = lt-ltb 0 k h

pub soft_from : (s : SyncRules) (x : Seen) → s ≡ Book → x.awaits ≡ false → is_hard_edge s x ≡ false
soft_from After x e f = cc
soft_from Book x e f = and_left _ _ f

-- whatever of the conditions hold, it is a conjunction
all_five : (a b c d e : Bool) → a ≡ true → b ≡ true → c ≡ true → d ≡ true → e ≡ false → ((((a && b) && c) && d) && not e) ≡ true
all_five a b c d e p q r s t = rw (p, q, r, s, t) refl

never_late : (a b driving hard : Bool) → driving ≡ false → (((a && b) && driving) && not hard) ≡ false
never_late a b driving hard e = and_left _ _ (and_right _ _ e)

pub counts_then : (r : Running) (x : Seen) → r.lengths.sync ≡ Book → 0 < r.quanta → x.level ≡ Dominant → x.driving ≡ false → r.level ≡ Recessive → r.sample ≡ Recessive
    → r.synced ≡ false → running_sync r x ≡ true
counts_then r x book begun now driving was sampled fresh =
    let counts : counts_at r.lengths x.level (is_hard_edge r.lengths.sync x) x.driving r.level r.sample r.quanta ≡ true =
    all_five (is_dominant x.level) (not (is_dominant r.level)) (not (is_dominant r.sample)) (looks r.lengths.sync (sample_at r.lengths) r.quanta)
    (((nat_lt (found_at r.lengths) r.quanta && nat_le r.quanta (sample_at r.lengths)) && x.driving) && not (is_hard_edge r.lengths.sync x))
    (ap is_dominant now) (ap (λ v. not (is_dominant v)) was) (ap (λ v. not (is_dominant v)) sampled) (looks_from r.lengths.sync (sample_at r.lengths) r.quanta book begun)
    (never_late (nat_lt (found_at r.lengths) r.quanta) (nat_le r.quanta (sample_at r.lengths)) x.driving (is_hard_edge r.lengths.sync x) driving) in
    rw (counts, fresh) refl

pub unsampled_by : (b : Beat) → ((level : Level) → b ≡ Sample level → ⊥) → sampled_by b ≡ []
unsampled_by (Sample level) h = absurd (h level refl)
unsampled_by Start h = refl
unsampled_by Plain h = refl

-- the conditions of the law
pub record Given (s : Sender) (j : Listener) (seen : ℕ → Seen) (found : ℕ) : Type 0 where
  pub goes : Goes
  pub ways : WayLaws
  pub sender : IsSteady s.clock
  pub listener : IsSteady j.clock
  pub book : ByTheBook j.lengths
  pub near : ClocksAreNear s j
  pub edges : HaveEdges s.bits
  pub listens : Listens s j seen found

module _ (s : Sender) (j : Listener) (seen : ℕ → Seen) (found : ℕ) (is : Given s j seen found) where
  abbrev l : Lengths
  l = j.lengths

  abbrev A : ℕ
  A = bit_parts s j

  abbrev q : ℕ
  q = quantum_parts s j

  abbrev T : ℕ
  T = tick_parts s j

  are_long : AreLong A q T (bit_quanta l) (sample_at l) l.ps2 l.sjw
  are_long =
      let b = is.book.lengths in
      let a1 = b.prop_low in
      let a2 = b.sjw_ps1 in
      let few : j.clock.den * s.clock.den ≤ j.clock.num * s.clock.den = mul-le-mul_right s.clock.den is.listener.not_fast in
      let slow = is.near.slow in
      let fast = is.near.fast in
      let sample = is.near.sample in
      record {
        bit = refl;
        sample = omega arith;
        early = b.ps2_low;
        tick = omega arith;
        slow = omega arith;
        fast = omega arith;
        before = omega arith;
      }

  -- the clock before quantum k, and its way
  abbrev clock : ℕ → Running
  clock k = clock_after l (seen_before seen k)

  abbrev way : ℕ → ℕ
  way k = sample_way l (seen_before seen k)

  abbrev NearAt : (m c sample : ℕ) → Type 0
  NearAt m c sample = IsNear A q T (bit_quanta l) (sample_at l) m (bit_instant s j c) (quantum_instant s j sample)

  abbrev valid : (k : ℕ) → IsValid (clock k)
  valid = runs.valid_at is.goes l is.book seen

  abbrev leaves_at : (k : ℕ) → Leaves (clock k) (seen k) (way_after l (way k) (sync_of l (seen_before seen k) (seen k))) (clock (suc k))
  leaves_at = runs.leaves_at is.goes l is.book seen

  abbrev passes_at : (k : ℕ) → running_sync (clock k) (seen k) ≡ false → Passes (clock k) (seen k) (clock (suc k))
  passes_at = runs.passes_at is.goes l is.book seen

  abbrev none_at : (k : ℕ) → running_sync (clock k) (seen k) ≡ false → sync_of l (seen_before seen k) (seen k) ≡ None
  none_at = runs.none_at is.goes l is.book seen

  abbrev way_down : (k : ℕ) → running_sync (clock k) (seen k) ≡ false → 0 < way k → way (suc k) ≡ way k - 1
  way_down = runs.way_down is.goes l is.book seen

  way_new : (k : ℕ) → running_sync (clock k) (seen k) ≡ false → way k ≡ 0 → way (suc k) ≡ bit_quanta l - 1
  way_new k e z =
      (leaves_at k).way ∙ ap (way_after l (way k)) (none_at k e)
      ∙ ap (λ b. cond b (bit_quanta l - 1) (way k - 1)) (eq-eqb (way k) 0 z)

  -- what the list of samples is
  pub record Sampled (b k : ℕ) : Type 0 where
    pub quanta : ℕ
    pub place : found + quanta ≡ k
    pub before : samples_from l seen found quanta ≡ take b s.bits

  -- so long as a bit is still to be sampled
  listening : (b k : ℕ) → b < length s.bits → Sampled b k → IsListening s j seen found k b
  listening b k less g =
      let e : k - found ≡ g.quanta = (let p = g.place in omega arith) in
      record { more = less; samples = ap (λ n. samples_from l seen found n) e ∙ g.before }

  sampled_on : (b k : ℕ) → Sampled b k → ((level : Level) → beat_of l (seen_before seen k) (seen k) ≡ Sample level → ⊥) → Sampled b (suc k)
  sampled_on b k g h = record {
    quanta = suc g.quanta;
    place = (let e = g.place in omega arith);
    before =
        ap (λ n. samples_from l seen found g.quanta ++ sampled_by (beat_of l (seen_before seen n) (seen n))) g.place
        ∙ ap (λ v. samples_from l seen found g.quanta ++ v) (unsampled_by (beat_of l (seen_before seen k) (seen k)) h)
        ∙ append-nil (samples_from l seen found g.quanta) ∙ g.before;
  }

  sampled_more : (b k : ℕ) → b < length s.bits → Sampled b k → beat_of l (seen_before seen k) (seen k) ≡ Sample (at s.bits b) → Sampled (suc b) (suc k)
  sampled_more b k less g h = record {
    quanta = suc g.quanta;
    place = (let e = g.place in omega arith);
    before =
        ap (λ n. samples_from l seen found g.quanta ++ sampled_by (beat_of l (seen_before seen n) (seen n))) g.place
        ∙ ap (λ v. samples_from l seen found g.quanta ++ sampled_by v) h
        ∙ ap (λ v. v ++ at s.bits b ∷ []) g.before
        ∙ sym (take_more s.bits b Recessive less)
        ∙ ap (λ n. take n s.bits) (add-one b);
  }

  -- a quantum that is no sample
  unsampled_at : (k : ℕ) → 0 < way k → (level : Level) → beat_of l (seen_before seen k) (seen k) ≡ Sample level → ⊥
  unsampled_at k h level e = let o = (is.ways.only l (seen_before seen k) (seen k) level is.book e).1 in omega arith

  counted_at : (k : ℕ) (error : Sync) → sync_of l (seen_before seen k) (seen k) ≡ Some error → (level : Level) → beat_of l (seen_before seen k) (seen k) ≡ Sample level → ⊥
  counted_at k error f level e = let o = (is.ways.only l (seen_before seen k) (seen k) level is.book e).0 in cc

  sample_at_quantum : (k : ℕ) → running_sync (clock k) (seen k) ≡ false → way k ≡ 0 → beat_of l (seen_before seen k) (seen k) ≡ Sample (seen k).level
  sample_at_quantum k e z = is.ways.sample l (seen_before seen k) (seen k) is.book (none_at k e) z

  -- Waiting for bit b + 1, where bit b was sampled last: m bits after the last edge, up to it.
  pub record Waits (b k : ℕ) : Type 0 where
    pub since : ℕ
    pub some : since ≤ suc b
    pub clear : (i : ℕ) → suc b < i + since → i < suc b → IsEdge s.bits i → ⊥
    pub edge : IsEdge s.bits (suc b - since)
    pub near : NearAt since (suc b) (k + way k)
    pub sample : (clock k).sample ≡ at s.bits b
    pub unseen : IsEdge s.bits (suc b) → (0 < k) × (steady_tick j.clock (k - 1) < arrival s j (suc b)) × ((clock k).level ≡ Recessive)
    pub fresh : (clock k).synced ≡ true → (moved_place (clock k) < (clock k).quanta) × ((clock k).sample ≡ Dominant)
    pub arrived : arrival s j b ≤ steady_tick j.clock k
    pub later : found + sample_at l ≤ k
    pub sampled : Sampled (suc b) k

  -- the edge of bit b was found, or its start of frame, and the bit isn't sampled yet
  pub record Holds (b k : ℕ) : Type 0 where
    pub near : NearAt 0 b (k + way k)
    pub level : (clock k).level ≡ Dominant
    pub bit : at s.bits b ≡ Dominant
    pub edge : IsEdge s.bits b
    pub arrived : arrival s j b ≤ steady_tick j.clock k
    pub after : found < k
    pub later : found + sample_at l ≤ suc (k + way k)
    pub sampled : Sampled b k

  -- a bit is sampled, and the next one waited for
  pub record Done (b k : ℕ) : Type 0 where
    pub samples : SamplesBit s j seen found b k
    pub waits : Waits b (suc k)

  den_s : 0 < s.clock.den
  den_s = is.sender.divides

  den_j : 0 < j.clock.den
  den_j = is.listener.divides

  -- when a bit's sample comes in time
  begun_at : (m c k : ℕ) → m ≤ 10 → NearAt m c k → arrival s j c ≤ steady_tick j.clock k
  begun_at m c k h n = arrived_from s j den_s den_j c k (begun_then are_long m (bit_instant s j c) (quantum_instant s j k) h n)

  lasts_at : (m c k : ℕ) → m ≤ 9 → NearAt m c k → steady_tick j.clock k < arrival s j (suc c)
  lasts_at m c k h n =
      let e = bit_next s j den_s den_j c in
      let later = next_later are_long m (bit_instant s j c) (quantum_instant s j k) h n in
      unarrived_from s j den_s den_j (suc c) k (let g : quantum_instant s j k + T ≤ bit_instant s j (suc c) = omega arith in g)

  -- a quantum no later than another
  tick_up : (k n : ℕ) → k ≤ n → steady_tick j.clock k ≤ steady_tick j.clock n
  tick_up k n h =
      let e : k + (n - k) ≡ n = omega arith in
      subst (λ i. steady_tick j.clock k ≤ steady_tick j.clock i) e (tick_later j.clock k (n - k) den_j)

  -- the sample's quantum, of bit c that lies within it
  done_at : (c m k : ℕ) → c < length s.bits → m ≤ 9 → m ≤ c → ((i : ℕ) → c < i + m → i < c → IsEdge s.bits i → ⊥) → (IsEdge s.bits c → m ≡ 0)
      → IsEdge s.bits (c - m) → NearAt m c k → running_sync (clock k) (seen k) ≡ false → way k ≡ 0 → found < k → found + sample_at l ≤ suc k
      → ((clock k).synced ≡ true → (at s.bits c ≡ Dominant)) → Sampled c k → Done c k
  done_at c m k less few some clear edge last_edge n e z after later fresh g =
      let begun = begun_at m c k (omega arith) n in
      let lasts = lasts_at m c k few n in
      let level = is.listens.level k c c (listening c k less g) less begun lasts in
      let beat : beat_of l (seen_before seen k) (seen k) ≡ Sample (at s.bits c) = sample_at_quantum k e z ∙ ap Sample level in
      let p = passes_at k e in
      let new = way_new k e z in
      let up = near_next are_long m (bit_instant s j c) (quantum_instant s j k) n in
      let long = is.book.lengths.low in
      record {
        samples = record {
          after = after;
          level = beat;
          quanta = g.quanta;
          place = g.place;
          before = g.before;
          begun = begun;
          lasts = lasts;
          since = m;
          few = few;
          early = n.early;
          late = n.late;
          ahead = n.ahead;
          behind = n.behind;
          some = some;
          edge = last_edge;
          clear = λ i above below is_edge. at_or_below i (omega arith) (omega arith) is_edge;
          unsynced = λ none. false_from_ne_true (clock (suc k)).synced (λ f. (let was = (p.sampled z).2 in let dominant = fresh (sym was ∙ f) in cc));
        };
        waits = record {
          since = suc m;
          some = omega arith;
          clear = λ i above below is_edge. at_or_below i above below is_edge;
          edge = (let e : c - m ≡ suc c - suc m = omega arith in subst (IsEdge s.bits) e last_edge);
          near = (let more = quantum_more s j den_s den_j k (bit_quanta l) in
              let place : suc k + way (suc k) ≡ k + bit_quanta l = omega arith in
              subst (λ t. IsNear A q T (bit_quanta l) (sample_at l) (suc m) (bit_instant s j (suc c)) t) (sym (ap (quantum_instant s j) place ∙ more))
              (subst (λ a. IsNear A q T (bit_quanta l) (sample_at l) (suc m) a (quantum_instant s j k + bit_quanta l * q)) (sym (bit_next s j den_s den_j c)) up));
          sample = (p.sampled z).0 ∙ level;
          unseen = λ is_edge. (omega arith, lasts_before is_edge lasts, (leaves_at k).level ∙ level ∙ is_edge.was);
          fresh = λ f. (let was = (p.sampled z).2 in ((p.sampled z).1, (p.sampled z).0 ∙ level ∙ fresh (sym was ∙ f)));
          arrived = (let up = tick_up k (suc k) (omega arith) in omega arith);
          later = later;
          sampled = sampled_more c k less g beat;
        };
      }
    where
      at_or_below : (i : ℕ) → suc c < i + suc m → i < suc c → IsEdge s.bits i → ⊥
      at_or_below i above below is_edge = elim (cases_eq i c) [
        | inl same ↦ (let none = edge (subst (IsEdge s.bits) same is_edge) in omega arith)
        | inr other ↦ clear i (omega arith) (omega arith) is_edge
      ]

      lasts_before : IsEdge s.bits (suc c) → steady_tick j.clock k < arrival s j (suc c) → steady_tick j.clock (suc k - 1) < arrival s j (suc c)
      lasts_before is_edge h = let e : suc k - 1 ≡ k = omega arith in subst (λ i. steady_tick j.clock i < arrival s j (suc c)) (sym e) h

  -- from the edge of a bit to its sample
  hold : (n : ℕ) (b k : ℕ) → b < length s.bits → way k ≡ n → Holds b k → (i : ℕ) × Done b i
  hold zero b k less e h =
      let place : k + way k ≡ k = omega arith in
      let near : NearAt 0 b k = subst (NearAt 0 b) place h.near in
      let none = before_dominant (clock k) (seen k) h.level in
      (k, done_at b 0 k less (omega arith) (omega arith) (λ i above below is_edge. omega arith) (λ is_edge. refl) (let f : b ≡ b - 0 = omega arith in subst (IsEdge s.bits) f h.edge) near none e h.after (let w = h.later in omega arith) (λ f. h.bit) h.sampled)
  hold (suc n) b k less e h =
      let none = before_dominant (clock k) (seen k) h.level in
      let down = way_down k none (omega arith) in
      let place : k + way k ≡ suc k + way (suc k) = omega arith in
      let lasts = lasts_at 0 b (k + way k) (omega arith) h.near in
      let here = tick_up k (k + way k) (omega arith) in
      let level = is.listens.level k b b (listening b k less h.sampled) less h.arrived (let g : steady_tick j.clock k < arrival s j (suc b) = omega arith in g) in
      let up = tick_up k (suc k) (omega arith) in
      let old = h.arrived in
      let was = h.later in
      hold n b (suc k) less (omega arith) (record {
        near = subst (NearAt 0 b) place h.near;
        level = (leaves_at k).level ∙ level ∙ h.bit;
        bit = h.bit;
        edge = h.edge;
        arrived = omega arith;
        after = (let a = h.after in omega arith);
        later = omega arith;
        sampled = sampled_on b k h.sampled (unsampled_at k (omega arith));
      })

  -- how many bits after the last edge a bit may be
  few_since : (b k : ℕ) → suc b < length s.bits → (w : Waits b k) → (w.since ≤ 9) ⊎ ((w.since ≡ 10) × IsEdge s.bits (suc b))
  few_since b k less w = elim (cases_lt w.since 10) [
    | inl few ↦ inl (omega arith)
    | inr many ↦ (let some = w.some in
        let e = is.edges (suc b - w.since + 1) (omega arith) in
        let top = from_ten e.0 e.1 e.2 e.3 many in
        inr top)
  ]
    where
      from_ten : (i : ℕ) → suc b - w.since + 1 ≤ i → i < suc b - w.since + 1 + 10 → IsEdge s.bits i → 10 ≤ w.since → (w.since ≡ 10) × IsEdge s.bits (suc b)
      from_ten i low high is_edge many = elim (cases_lt i (suc b)) [
        | inl below ↦ absurd (w.clear i (let some = w.some in omega arith) below is_edge)
        | inr above ↦ (let some = w.some in let e : i ≡ suc b = omega arith in (omega arith, subst (IsEdge s.bits) e is_edge))
      ]

  -- the instants of two quanta
  instant_up : (k n : ℕ) → k ≤ n → quantum_instant s j n ≡ quantum_instant s j k + (n - k) * q
  instant_up k n h =
      let e : k + (n - k) ≡ n = omega arith in
      sym (ap (quantum_instant s j) e) ∙ quantum_more s j den_s den_j k (n - k)

  -- An edge that quantum k finds, and not the one before it: the instant of k is within a quantum after the bit's, but for a tick.
  edge_below : (c k : ℕ) → 0 < k → steady_tick j.clock (k - 1) < arrival s j c → quantum_instant s j k < bit_instant s j c + q
  edge_below c k h f =
      let low = unarrived_low s j den_s den_j c (k - 1) f in
      let up = instant_up (k - 1) k (omega arith) in
      let one : (k - (k - 1)) * q ≡ q = (let e : k - (k - 1) ≡ 1 = omega arith in ap (λ n. n * q) e ∙ (let g : 1 * q ≡ q = omega arith in g)) in
      omega arith

  edge_above : (c k : ℕ) → arrival s j c ≤ steady_tick j.clock k → bit_instant s j c < quantum_instant s j k + T
  edge_above c k f = arrived_high s j den_s den_j c k f

  -- the bit lasts beyond that quantum
  edge_lasts : (c k : ℕ) → quantum_instant s j k < bit_instant s j c + q → steady_tick j.clock k < arrival s j (suc c)
  edge_lasts c k h =
      let e = bit_next s j den_s den_j c in
      let later = next_after are_long (bit_instant s j c) (quantum_instant s j k) h in
      unarrived_from s j den_s den_j (suc c) k (let g : quantum_instant s j k + T ≤ bit_instant s j (suc c) = omega arith in g)

  -- the sample that puts the edge into SYNC_SEG
  near_at : (c k sample : ℕ) → quantum_instant s j k < bit_instant s j c + q → bit_instant s j c < quantum_instant s j k + T → sample + 1 ≡ k + sample_at l → NearAt 0 c sample
  near_at c k sample below above e =
      let one = quantum_more s j den_s den_j sample 1 in
      let all = quantum_more s j den_s den_j k (sample_at l) in
      let same : quantum_instant s j (sample + 1) ≡ quantum_instant s j (k + sample_at l) = ap (quantum_instant s j) e in
      let place : quantum_instant s j k + sample_at l * q - q ≡ quantum_instant s j sample = omega arith in
      subst (IsNear A q T (bit_quanta l) (sample_at l) 0 (bit_instant s j c)) place (near_edge are_long (bit_instant s j c) (quantum_instant s j k) below above)

  -- the sample that moves later by the jump width, and the one that moves earlier
  late_at : (m c k sample : ℕ) → m ≤ 10 → quantum_instant s j k < bit_instant s j c + q → NearAt m c sample → sample + l.sjw + 2 ≤ k + sample_at l → NearAt 0 c (sample + l.sjw)
  late_at m c k sample few below n far =
      let all = quantum_more s j den_s den_j k (sample_at l) in
      let jump = quantum_more s j den_s den_j sample l.sjw in
      let up = instant_up (sample + l.sjw) (k + sample_at l) (omega arith) in
      let two : 2 * q ≤ (k + sample_at l - (sample + l.sjw)) * q = mul-le-mul_right q (let g : 2 ≤ k + sample_at l - (sample + l.sjw) = omega arith in g) in
      let less : quantum_instant s j sample + l.sjw * q < bit_instant s j c + sample_at l * q = omega arith in
      subst (IsNear A q T (bit_quanta l) (sample_at l) 0 (bit_instant s j c)) (sym jump)
      (near_late are_long m (bit_instant s j c) (quantum_instant s j sample) few n less)

  early_at : (m c k sample new : ℕ) → m ≤ 10 → bit_instant s j c < quantum_instant s j k + T → NearAt m c sample → new + l.sjw ≡ sample → k + sample_at l ≤ new → NearAt 0 c new
  early_at m c k sample new few above n e far =
      let all = quantum_more s j den_s den_j k (sample_at l) in
      let jump = quantum_more s j den_s den_j new l.sjw in
      let up = instant_up (k + sample_at l) new far in
      let same : quantum_instant s j (new + l.sjw) ≡ quantum_instant s j sample = ap (quantum_instant s j) e in
      near_early are_long m (bit_instant s j c) (quantum_instant s j sample) (quantum_instant s j new) few n (omega arith) (omega arith)

  -- wherever the edge of bit c is found
  moved_at : (m c k n : ℕ) → m ≤ 10 → quantum_instant s j k < bit_instant s j c + q → bit_instant s j c < quantum_instant s j k + T → NearAt m c (k + n)
      → NearAt 0 c (suc k + (moved_to (sample_at l - 1) l.sjw n - 1))
  moved_at m c k n few below above near =
      let b = is.book.lengths in
      let a1 = b.prop_low in
      let a2 = b.ps1_low in
      let a3 = b.sjw_low in
      elim (cases_lt (n + l.sjw) (sample_at l - 1)) [
        | inl late ↦ (let place : k + n + l.sjw ≡ suc k + (moved_to (sample_at l - 1) l.sjw n - 1) = omega arith in
            subst (NearAt 0 c) place (late_at m c k (k + n) few below near (omega arith)))
        | inr not_late ↦ elim (cases_lt (sample_at l - 1 + l.sjw) n) [
          | inl early ↦ early_at m c k (k + n) (suc k + (moved_to (sample_at l - 1) l.sjw n - 1)) few above near (omega arith) (omega arith)
          | inr not_early ↦ near_at c k (suc k + (moved_to (sample_at l - 1) l.sjw n - 1)) below above (omega arith)
        ]
      ]

  -- quantum k finds the edge of the bit that is waited for
  find : (b k : ℕ) → suc b < length s.bits → (w : Waits b k) → IsEdge s.bits (suc b) → arrival s j (suc b) ≤ steady_tick j.clock k → Holds (suc b) (suc k)
  find b k less w is_edge here =
      let unseen = w.unseen is_edge in
      let below = edge_below (suc b) k unseen.0 unseen.1 in
      let above = edge_above (suc b) k here in
      let lasts = edge_lasts (suc b) k below in
      let on = listening (suc b) k less w.sampled in
      let level : (seen k).level ≡ Dominant = is.listens.level k (suc b) (suc b) on less here lasts ∙ is_edge.is in
      let sample : (clock k).sample ≡ Recessive = w.sample ∙ is_edge.was in
      let fresh : (clock k).synced ≡ false = false_from_ne_true (clock k).synced (λ e. (let f = (w.fresh e).1 in cc)) in
      let driving = is.listens.driving k (suc b) on (omega arith) in
      let awaits = is.listens.awaits k (suc b) on (omega arith) in
      let counts : running_sync (clock k) (seen k) ≡ true = counts_then (clock k) (seen k) is.book.book (valid k).begun level driving unseen.2 sample fresh in
      let error : sync_of l (seen_before seen k) (seen k) ≡ Some (Error (phase_error l (clock k).quanta)) =
      sync_is is.goes l is.book (seen_before seen k) (seen k) ∙ answer_soft (clock k) (seen k) (valid k) counts (soft_from l.sync (seen k) is.book.book awaits) in
      let way_is : way (suc k) ≡ moved_to (sample_at l - 1) l.sjw (way k) - 1 = (leaves_at k).way ∙ ap (way_after l (way k)) error in
      let few : w.since ≤ 10 = few_at (few_since b k less w) in
      let later = w.later in
      let up = tick_up k (suc k) (omega arith) in
      record {
        near = subst (λ n. NearAt 0 (suc b) (suc k + n)) (sym way_is) (moved_at w.since (suc b) k (way k) few below above w.near);
        level = (leaves_at k).level ∙ level;
        bit = is_edge.is;
        edge = is_edge;
        arrived = omega arith;
        after = omega arith;
        later = omega arith;
        sampled = sampled_on (suc b) k w.sampled (counted_at k (Error (phase_error l (clock k).quanta)) error);
      }
    where
      few_at : (w.since ≤ 9) ⊎ ((w.since ≡ 10) × IsEdge s.bits (suc b)) → w.since ≤ 10
      few_at (inl few) = omega arith
      few_at (inr top) = let e = top.0 in omega arith

  -- a quantum that finds no edge which counts and samples nothing
  stay : (b k : ℕ) → Waits b k → running_sync (clock k) (seen k) ≡ false → 0 < way k
      → (IsEdge s.bits (suc b) → (steady_tick j.clock k < arrival s j (suc b)) × ((seen k).level ≡ Recessive)) → Waits b (suc k)
  stay b k w none some unseen =
      let p = passes_at k none in
      let down = way_down k none some in
      let place : k + way k ≡ suc k + way (suc k) = omega arith in
      let up = tick_up k (suc k) (omega arith) in
      let old = w.arrived in
      let later = w.later in
      let back : suc k - 1 ≡ k = omega arith in
      record {
        since = w.since;
        some = w.some;
        clear = w.clear;
        edge = w.edge;
        near = subst (NearAt w.since (suc b)) place w.near;
        sample = p.unsampled some ∙ w.sample;
        unseen = λ is_edge. (let u = unseen is_edge in (omega arith, subst (λ i. steady_tick j.clock i < arrival s j (suc b)) (sym back) u.0, (leaves_at k).level ∙ u.1));
        fresh = λ f. (let o = p.once f in let g = w.fresh o.0 in (o.1 g.0, p.unsampled some ∙ g.1));
        arrived = omega arith;
        later = omega arith;
        sampled = sampled_on (suc b) k w.sampled (unsampled_at k some);
      }

  -- what quantum k finds while bit b + 1 is waited for: no edge is to come, it hasn't come yet, or it is here
  pub record Quiet (b k : ℕ) : Type 0 where
    pub none : running_sync (clock k) (seen k) ≡ false
    pub never : IsEdge s.bits (suc b) → ⊥

  pub record Silent (b k : ℕ) : Type 0 where
    pub none : running_sync (clock k) (seen k) ≡ false
    pub before : steady_tick j.clock k < arrival s j (suc b)
    pub level : (seen k).level ≡ Recessive

  pub record Here (b k : ℕ) : Type 0 where
    pub edge : IsEdge s.bits (suc b)
    pub here : arrival s j (suc b) ≤ steady_tick j.clock k

  -- two recessive bits
  both_recessive : (b k : ℕ) → suc b < length s.bits → (w : Waits b k) → at s.bits b ≡ Recessive → at s.bits (suc b) ≡ Recessive → w.since ≤ 9 → (seen k).level ≡ Recessive
  both_recessive b k less w was now few = elim (cases_lt (steady_tick j.clock k) (arrival s j (suc b))) [
    | inl before ↦ is.listens.level k b (suc b) (listening (suc b) k less w.sampled) (omega arith) w.arrived before ∙ was
    | inr here ↦ (let lasts = lasts_at w.since (suc b) (k + way k) few w.near in
        let up = tick_up k (k + way k) (omega arith) in
        is.listens.level k (suc b) (suc b) (listening (suc b) k less w.sampled) less here (let g : steady_tick j.clock k < arrival s j (suc (suc b)) = omega arith in g) ∙ now)
  ]

  few_from : (b k : ℕ) → (w : Waits b k) → ((w.since ≤ 9) ⊎ ((w.since ≡ 10) × IsEdge s.bits (suc b))) → (IsEdge s.bits (suc b) → ⊥) → w.since ≤ 9
  few_from b k w (inl few) never = few
  few_from b k w (inr top) never = absurd (never top.1)

  look : (b k : ℕ) → suc b < length s.bits → Waits b k → Quiet b k ⊎ (Silent b k ⊎ Here b k)
  look b k less w = elim (cases_level (at s.bits b)) [
    | inl dominant ↦ inl (record { none = sample_dominant (clock k) (seen k) (w.sample ∙ dominant); never = λ e. (let f = e.was in cc) })
    | inr recessive ↦ elim (cases_level (at s.bits (suc b))) [
      | inl edge ↦ elim (cases_lt (steady_tick j.clock k) (arrival s j (suc b))) [
        | inl before ↦ (let level = is.listens.level k b (suc b) (listening (suc b) k less w.sampled) (omega arith) w.arrived before ∙ recessive in
            inr (inl (record { none = now_recessive (clock k) (seen k) level; before = before; level = level })))
        | inr here ↦ inr (inr (record { edge = record { was = recessive; is = edge }; here = here }))
      ]
      | inr none ↦ (let never : IsEdge s.bits (suc b) → ⊥ = λ e. (let f = e.is in cc) in
          let level = both_recessive b k less w recessive none (few_from b k w (few_since b k less w) never) in
          inl (record { none = now_recessive (clock k) (seen k) level; never = never }))
    ]
  ]

  -- the sample of a bit that no edge begins
  quiet_done : (b k : ℕ) → suc b < length s.bits → (w : Waits b k) → way k ≡ 0 → Quiet b k → Done (suc b) k
  quiet_done b k less w z quiet =
      let place : k + way k ≡ k = omega arith in
      let near : NearAt w.since (suc b) k = subst (NearAt w.since (suc b)) place w.near in
      let few = few_from b k w (few_since b k less w) quiet.never in
      let later = w.later in
      done_at (suc b) w.since k less few w.some w.clear (λ e. absurd (quiet.never e)) w.edge near quiet.none z (omega arith) (omega arith)
      (λ f. (let g = (w.fresh f).0 in let h = zero_is (clock k) (valid k) z in absurd (omega arith))) w.sampled

  -- from one sample to the next
  wait : (n b k : ℕ) → suc b < length s.bits → way k ≡ n → Waits b k → (i : ℕ) × Done (suc b) i
  wait zero b k less e w = elim (look b k less w) [
    | inl quiet ↦ (k, quiet_done b k less w e quiet)
    | inr found_one ↦ elim found_one [
      | inl silent ↦ (let place : k + way k ≡ k = omega arith in
          let near : NearAt w.since (suc b) k = subst (NearAt w.since (suc b)) place w.near in
          let begun = begun_at w.since (suc b) k (ten_at b k w (few_since b k less w)) near in
          let before = silent.before in
          absurd (omega arith))
      | inr here ↦ hold (way (suc k)) (suc b) (suc k) less refl (find b k less w here.edge here.here)
    ]
  ]
    where
      ten_at : (b k : ℕ) → (w : Waits b k) → ((w.since ≤ 9) ⊎ ((w.since ≡ 10) × IsEdge s.bits (suc b))) → w.since ≤ 10
      ten_at b k w (inl few) = omega arith
      ten_at b k w (inr top) = let e = top.0 in omega arith
  wait (suc n) b k less e w = elim (look b k less w) [
    | inl quiet ↦
        (let down = way_down k quiet.none (omega arith) in
        wait n b (suc k) less (omega arith) (stay b k w quiet.none (omega arith) (λ edge. absurd (quiet.never edge))))
    | inr found_one ↦ elim found_one [
      | inl silent ↦
          (let down = way_down k silent.none (omega arith) in
          wait n b (suc k) less (omega arith) (stay b k w silent.none (omega arith) (λ edge. (silent.before, silent.level))))
      | inr here ↦ hold (way (suc k)) (suc b) (suc k) less refl (find b k less w here.edge here.here)
    ]
  ]

  -- the edge of the start of frame
  hard_counts : running_sync (clock found) (seen found) ≡ true
  hard_counts = true_from_ne_false (running_sync (clock found) (seen found)) (λ e. (let f = none_at found e in let g = is.listens.hard in cc))

  hard_level : (seen found).level ≡ Dominant
  hard_level = dominant_from (seen found).level (and_parts _ _ (and_parts _ _ (and_parts _ _ (and_parts _ _ (and_parts _ _ hard_counts).0).0).0).0).0

  start : 0 < length s.bits → Holds 0 (suc found)
  start less =
      let finds = is.listens.finds in
      let later = is.listens.later in
      let below = edge_below 0 found later (finds.unseen (found - 1) (omega arith)) in
      let above = edge_above 0 found finds.seen in
      let lasts = edge_lasts 0 found below in
      let none : Sampled 0 found = record { quanta = 0; place = omega arith; before = refl } in
      let level : (seen found).level ≡ at s.bits 0 = is.listens.level found 0 0 (listening 0 found less none) less finds.seen lasts in
      let way_is : way (suc found) ≡ sample_at l - 2 = (leaves_at found).way ∙ ap (way_after l (way found)) is.listens.hard in
      let b = is.book.lengths in
      let a1 = b.prop_low in
      let a2 = b.ps1_low in
      let up = tick_up found (suc found) (omega arith) in
      let here = finds.seen in
      record {
        near = near_at 0 found (suc found + way (suc found)) below above (omega arith);
        level = (leaves_at found).level ∙ hard_level;
        bit = sym level ∙ hard_level;
        edge = record { was = refl; is = sym level ∙ hard_level };
        arrived = omega arith;
        after = omega arith;
        later = omega arith;
        sampled = sampled_on 0 found none (counted_at found Hard is.listens.hard);
      }

  pub each_bit : (b : ℕ) → b < length s.bits → (k : ℕ) × Done b k
  each_bit zero less = hold (way (suc found)) 0 (suc found) less refl (start less)
  each_bit (suc b) less = let d = each_bit b (omega arith) in wait (way (suc d.0)) b (suc d.0) less refl d.1.waits
