-- Bits of recessive quanta on a free bus, in which no frame is ready: of all their quanta only the samples are kept.
use Rattle.std.proofs.Common.{◌≡◌, ◌∙◌, ℕ, zero, suc, ◌+◌, ◌-◌, ◌*◌, ◌<◌, ◌≤◌, inl, inr, List, [], ◌∷◌, ◌++◌, length, None, true, replicate, refl, sym, ap, subst, arith, append-nil, append_assoc, length-append}
use Rattle.std.proofs.lemmas.Bool.{cases_lt}
use Rattle.std.proofs.lemmas.List.{length-replicate}
use Rattle.wl_level.specs.declared.Level.{Level}
use Rattle.wl_level.specs.declared.Level.TheVariants.{Recessive}
use Rattle.wl_level.proofs.Callers.{snoc}
use Rattle.wl_sync.specs.declared.Beat.{Beat}
use Rattle.wl_sync.specs.declared.Seen.{Seen}
use Rattle.wl_sync.specs.Bits.{sync_of}
use Rattle.wl_sync.specs.Running.{clock_after}
use Rattle.wl_sync.specs.Skips.{IsRestingBit}
use Rattle.wl_machine.specs.Reached.{IsMachine}
use Rattle.wl_node.specs.declared.setup.NodeSetup.{NodeSetup}
use Rattle.wl_node.specs.declared.traffic.Traffic.{Traffic}
use Rattle.wl_node.specs.declared.progress.NodeProgress.{NodeProgress}
use Rattle.wl_node.specs.History.{History, staying_history, history_after, history_after_sample, ready_head, seen_next, unsent_of, sampled_next, by_beat, syncs_at}
use Rattle.wl_node.specs.Kept.{AreSyncs, IsProgress, FitsHistory}
use Rattle.wl_node.specs.IdleBits.{AlwaysRests, IsRest}
use Rattle.wl_node.specs.Runs.{samples_by, samples_from}
use Rattle.wl_node.proofs.Gone.{joined}
use Rattle.wl_node.specs.Unsent.{IsChosen, IsUnsent, left_in}
use Rattle.wl_node.proofs.Unsents.{no_head_of}
use Rattle.wl_node.proofs.Rested.{IsApart, apart, rests_apart}
use Rattle.wl_node.proofs.RunsOfSamples.{from_none, from_suc, length_from}
use Rattle.wl_node.proofs.Skipped.{seen_more, same_history, IsIdleFor, history_skipped}
use Rattle.wl_node.proofs.Turns.{history_next}

-- a node is where its history puts it, but for its samples and quanta
pub record IsBeside (setup : NodeSetup) (kept : NodeProgress) (h : History) : Type 0 where
  pub clock : kept.clock ≡ clock_after setup.segments h.seen
  pub drive : kept.drive ≡ h.drive
  pub syncs : AreSyncs kept.syncs h.syncs
  pub apart : IsApart setup kept.traffic h

pub beside : (setup : NodeSetup) (kept : NodeProgress) (h : History) → FitsHistory setup kept h → IsBeside setup kept h
beside setup kept h is = record { clock = is.clock; drive = is.drive; syncs = is.syncs; apart = apart setup kept.traffic h is.traffic }

-- where no frame is ready at the sample
pub rests_here : (setup : NodeSetup) (h : History) (kept : NodeProgress) (n : ℕ) → AlwaysRests kept n → IsBeside setup kept h
    → ready_head (left_in setup kept.traffic.unsent) (length h.seen + n - 1) ≡ None → IsRest setup kept h n
rests_here setup h kept n rests is none =
    let bit : IsRestingBit setup.segments h.seen (seen_next h Recessive) n = rests.bit setup.segments h.seen is.clock (seen_next h Recessive) refl in
    let unsent : left_in setup kept.traffic.unsent ≡ unsent_of setup h = is.apart.unsent.left in
    let last : length h.seen + n - 1 ≡ length h.seen + bit.last = (let b = bit.bit in omega arith) in
    record {
      free = rests.free h.inputs is.apart.machine;
      settled = sym is.drive ∙ rests.settled ∙ is.apart.pending;
      bit = bit;
      none = ap (λ u. ready_head u (length h.seen + bit.last)) (sym unsent) ∙ ap (ready_head (left_in setup kept.traffic.unsent)) (sym last) ∙ none;
      stays = rests.stays;
    }

-- one bit
module _ (setup : NodeSetup) (levels : List Level) (kept : NodeProgress) (n : ℕ) (is : IsBeside setup kept (staying_history setup levels)) (rest : IsRest setup kept (staying_history setup levels) n) where
  abbrev h : History
  h = staying_history setup levels

  abbrev x : Seen
  x = seen_next h Recessive

  abbrev last : ℕ
  last = rest.bit.last

  abbrev before : History
  before = seen_more h (replicate last x)

  idle : IsIdleFor setup h Recessive last
  idle = record {
    unmoved = λ m less. rest.bit.unmoved m (let b = rest.bit.bit in omega arith);
    unsampled = rest.bit.unsampled;
    starts = λ m less e. rest.settled;
  }

  seen_is : before.seen ++ x ∷ [] ≡ h.seen ++ replicate n x
  seen_is = sym (snoc h.seen x last) ∙ ap (λ k. h.seen ++ replicate k x) (sym rest.bit.bit)

  abbrev after : History
  after = record (history_after_sample setup before Recessive) { seen = h.seen ++ replicate n x; syncs = h.syncs }

  after_is : staying_history setup (levels ++ replicate n Recessive) ≡ after
  after_is =
      ap (λ k. staying_history setup (levels ++ replicate k Recessive)) rest.bit.bit
      ∙ ap (staying_history setup) (snoc levels Recessive last)
      ∙ history_next setup (levels ++ replicate last Recessive) Recessive
      ∙ ap (λ (g : History). history_after setup g Recessive) (history_skipped setup levels Recessive last last (omega arith) idle)
      ∙ ap (λ (b : Beat). record (by_beat setup before Recessive b) { seen = before.seen ++ x ∷ []; syncs = h.syncs ++ syncs_at (length before.seen) (sync_of setup.segments before.seen x) }) rest.bit.sampled
      ∙ same_history (history_after_sample setup before Recessive) seen_is
      (ap (λ s. h.syncs ++ syncs_at (length before.seen) s) (rest.bit.unmoved last (let b = rest.bit.bit in omega arith)) ∙ append-nil h.syncs)

  before_long : length before.seen ≡ length h.seen + last
  before_long = length-append h.seen (replicate last x) ∙ ap (λ k. length h.seen + k) (length-replicate last x)

  after_long : length (h.seen ++ replicate n x) ≡ length h.seen + n
  after_long = length-append h.seen (replicate n x) ∙ ap (λ k. length h.seen + k) (length-replicate n x)

  was : IsApart setup kept.traffic before
  was = record {
    machine = is.apart.machine;
    counters = is.apart.counters;
    pending = is.apart.pending;
    unsent = is.apart.unsent;
    errors = is.apart.errors;
    frames = is.apart.frames;
    sends = is.apart.sends;
  }

  now : IsApart setup kept.traffic (history_after_sample setup before Recessive)
  now =
      rests_apart setup before (no_head_of setup.order (unsent_of setup h) (length before.seen) (ap (ready_head (unsent_of setup h)) before_long ∙ rest.none)) rest.free kept.traffic was
      (rest.stays h.inputs (sampled_next setup before Recessive).mode is.apart.machine)

  bit_beside : IsBeside setup kept (staying_history setup (levels ++ replicate n Recessive))
  bit_beside = subst (IsBeside setup kept) (sym after_is) (record {
    clock = is.clock ∙ sym rest.bit.clock;
    drive = is.drive;
    syncs = is.syncs;
    apart = record {
      machine = now.machine;
      counters = now.counters;
      pending = now.pending;
      unsent = now.unsent;
      errors = now.errors;
      frames = now.frames;
      sends = now.sends;
    };
  })

  bit_long : length (staying_history setup (levels ++ replicate n Recessive)).seen ≡ length h.seen + n
  bit_long = ap (λ (k : History). length k.seen) after_is ∙ after_long

  bit_samples : (staying_history setup (levels ++ replicate n Recessive)).samples ≡ h.samples ++ (length h.seen + n - 1, Recessive) ∷ []
  bit_samples = ap (λ (k : History). k.samples) after_is
      ∙ ap (λ k. h.samples ++ (k, Recessive) ∷ []) (let b = rest.bit.bit in let l = before_long in let e : length before.seen ≡ length h.seen + n - 1 = omega arith in e)

  bit_drive : (m : ℕ) → m < suc n → (staying_history setup (levels ++ replicate m Recessive)).drive ≡ (staying_history setup levels).drive
  bit_drive m h = elim (cases_lt m n) [
    | inl less ↦ ap (λ (g : History). g.drive) (history_skipped setup levels Recessive last m (let b = rest.bit.bit in omega arith) idle)
    | inr more ↦ (let e : m ≡ n = omega arith in ap (λ k. (staying_history setup (levels ++ replicate k Recessive)).drive) e ∙ ap (λ (g : History). g.drive) after_is)
  ]

-- bit after bit, as long as no frame is ready
module _ (setup : NodeSetup) (kept : NodeProgress) (n : ℕ) (some : 0 < n) (rests : AlwaysRests kept n) (levels : List Level) (old : IsProgress setup kept levels) where
  abbrev at : ℕ → List Level
  at k = levels ++ replicate (k * n) Recessive

  abbrev NoneBefore : ℕ → Type 0
  NoneBefore k = (quantum : ℕ) → quantum < kept.quanta + k * n → ready_head (left_in setup kept.traffic.unsent) quantum ≡ None

  record AreRested (k : ℕ) : Type 0 where
    beside : IsBeside setup kept (staying_history setup (at k))
    long : length (staying_history setup (at k)).seen ≡ kept.quanta + k * n
    samples : (staying_history setup (at k)).samples ≡ (staying_history setup levels).samples ++ samples_from (kept.quanta + n - 1) n Recessive k

  first : at 0 ≡ levels
  first = (let e : 0 * n ≡ 0 = omega arith in ap (λ k. levels ++ replicate k Recessive) e ∙ append-nil levels)

  next : (k : ℕ) → at (suc k) ≡ at k ++ replicate n Recessive
  next k = (let e : suc k * n ≡ k * n + n = omega arith in ap (λ m. levels ++ replicate m Recessive) e ∙ sym (joined levels Recessive (k * n) n))

  here : (k : ℕ) → NoneBefore (suc k) → AreRested k → IsRest setup kept (staying_history setup (at k)) n
  here k none is = rests_here setup (staying_history setup (at k)) kept n rests is.beside (none (length (staying_history setup (at k)).seen + n - 1) (let l = is.long in omega arith))

  are_rested : (k : ℕ) → NoneBefore k → AreRested k
  are_rested zero none = record {
    beside = subst (λ ls. IsBeside setup kept (staying_history setup ls)) (sym first) (beside setup kept (staying_history setup levels) old.place);
    long = ap (λ ls. length (staying_history setup ls).seen) first ∙ sym old.place.quanta ∙ (let e : kept.quanta ≡ kept.quanta + 0 * n = omega arith in e);
    samples = ap (λ ls. (staying_history setup ls).samples) first
        ∙ sym (ap (λ xs. (staying_history setup levels).samples ++ xs) (from_none (kept.quanta + n - 1) n Recessive) ∙ append-nil (staying_history setup levels).samples);
  }
  are_rested (suc k) none =
      let is : AreRested k = are_rested k (λ quantum less. none quantum (omega arith)) in
      let rest : IsRest setup kept (staying_history setup (at k)) n = here k none is in
      let last : length (staying_history setup (at k)).seen + n - 1 ≡ kept.quanta + n - 1 + k * n = (let l = is.long in omega arith) in
      record {
        beside = subst (λ ls. IsBeside setup kept (staying_history setup ls)) (sym (next k)) (bit_beside setup (at k) kept n is.beside rest);
        long = ap (λ ls. length (staying_history setup ls).seen) (next k) ∙ bit_long setup (at k) kept n is.beside rest ∙ (let l = is.long in omega arith);
        samples = ap (λ ls. (staying_history setup ls).samples) (next k) ∙ bit_samples setup (at k) kept n is.beside rest
            ∙ (λ i. is.samples i ++ (last i, Recessive) ∷ [])
            ∙ append_assoc (staying_history setup levels).samples (samples_from (kept.quanta + n - 1) n Recessive k) ((kept.quanta + n - 1 + k * n, Recessive) ∷ [])
            ∙ ap (λ xs. (staying_history setup levels).samples ++ xs) (sym (from_suc (kept.quanta + n - 1) n Recessive k));
      }

  pub rested_drive : (k : ℕ) → NoneBefore k → (m : ℕ) → m ≤ k * n → (staying_history setup (levels ++ replicate m Recessive)).drive ≡ (staying_history setup levels).drive
  rested_drive zero none m few = (let e : m ≡ 0 * n = omega arith in ap (λ j. (staying_history setup (levels ++ replicate j Recessive)).drive) e ∙ ap (λ ls. (staying_history setup ls).drive) first)
  rested_drive (suc k) none m few = elim (cases_lt m (suc (k * n))) [
    | inl less ↦ rested_drive k (λ quantum l. none quantum (omega arith)) m (omega arith)
    | inr more ↦
        (let is : AreRested k = are_rested k (λ quantum l. none quantum (omega arith)) in
        let e : m ≡ k * n + (m - k * n) = omega arith in
        ap (λ j. (staying_history setup (levels ++ replicate j Recessive)).drive) e
        ∙ ap (λ ls. (staying_history setup ls).drive) (sym (joined levels Recessive (k * n) (m - k * n)))
        ∙ bit_drive setup (at k) kept n is.beside (here k none is) (m - k * n) (omega arith)
        ∙ rested_drive k (λ quantum l. none quantum (omega arith)) (k * n) (omega arith))
  ]

  module _ (k : ℕ) (none : NoneBefore k) (traffic : Traffic) (machine : traffic.machine ≡ kept.traffic.machine) (counters : traffic.counters ≡ kept.traffic.counters)
      (pending : traffic.pending ≡ kept.traffic.pending) (unsent : traffic.unsent ≡ kept.traffic.unsent) (errors : traffic.errors ≡ kept.traffic.errors) (frames : traffic.frames ≡ kept.traffic.frames)
      (keeps : traffic.samples.keeps ≡ kept.traffic.samples.keeps)
      (samples : kept.traffic.samples.keeps ≡ true → samples_by traffic.samples.runs.items ≡ samples_by kept.traffic.samples.runs.items ++ samples_from (kept.quanta + n - 1) n Recessive k)
      (count : traffic.samples.count ≡ kept.traffic.samples.count + k) where
    pub now_rested : IsProgress setup (record { clock = kept.clock; drive = kept.drive; quanta = kept.quanta + k * n; syncs = kept.syncs; traffic = traffic }) (at k)
    now_rested =
        let is : AreRested k = are_rested k none in
        let a : IsApart setup kept.traffic (staying_history setup (at k)) = is.beside.apart in
        record {
          counted = is.long ∙ ap (λ q. q + k * n) (old.place.quanta ∙ old.counted)
              ∙ sym (length-append levels (replicate (k * n) Recessive) ∙ ap (λ m. length levels + m) (length-replicate (k * n) Recessive));
          place = record {
            clock = is.beside.clock;
            drive = is.beside.drive;
            quanta = sym is.long;
            syncs = is.beside.syncs;
            same = old.place.same ∙ sym keeps;
            traffic = record {
              machine = subst (λ m. IsMachine m (staying_history setup (at k)).inputs) (sym machine) a.machine;
              counters = counters ∙ a.counters;
              pending = pending ∙ a.pending;
              unsent = subst (λ u. IsUnsent setup u (staying_history setup (at k)).frames) (sym unsent) a.unsent;
              errors = errors ∙ a.errors;
              samples = λ on.
                  (let kept_on = sym keeps ∙ on in
                  samples kept_on ∙ ap (λ xs. xs ++ samples_from (kept.quanta + n - 1) n Recessive k) (old.place.traffic.samples kept_on) ∙ sym is.samples);
              sampled = count ∙ ap (λ m. m + k) old.place.traffic.sampled
                  ∙ sym (ap length is.samples ∙ length-append (staying_history setup levels).samples (samples_from (kept.quanta + n - 1) n Recessive k)
                  ∙ ap (λ m. length (staying_history setup levels).samples + m) (length_from (kept.quanta + n - 1) n Recessive k));
              frames = ap (λ f. f.items) frames ∙ a.frames;
              sends = λ frame e. subst (λ u. IsChosen setup.order (unsent_of setup (staying_history setup (at k))) frame u.place) (sym unsent) (a.sends frame e);
            };
          };
        }
