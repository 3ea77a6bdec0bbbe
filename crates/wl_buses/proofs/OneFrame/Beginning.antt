-- Where a bit clock begins the bit that it samples next.
use Rattle.std.proofs.Common.{◌≡◌, ◌∙◌, ◌⊎◌, ap, sym, subst, inl, inr, refl, ℕ, zero, suc, ◌+◌, ◌-◌, ◌<◌, ◌≤◌, ◌&&◌, ◌||◌, max, Bool, true, false, cond, Some, None, Option, arith}
use Rattle.std.specs.Prelude.{ℤ, ◌==◌}
use Rattle.std.proofs.lemmas.Bool.{and_right, cases_Bool, cases_eq, cases_lt, eq-eqb, le-ltb, lt-leb, lt-ltb, ne_eqb}
use Rattle.wl_level.specs.declared.Level.{Level}
use Rattle.wl_segments.specs.declared.SyncRules.{SyncRules}
use Rattle.wl_segments.specs.declared.SyncRules.TheVariants.{After, Book}
use Rattle.wl_segments.specs.Lengths.{Lengths, bit_quanta, found_at, sample_at}
use Rattle.wl_sync.specs.declared.Sync.{Sync}
use Rattle.wl_sync.specs.declared.Sync.TheVariants.{Error, Hard}
use Rattle.wl_sync.specs.declared.Beat.{Beat}
use Rattle.wl_sync.specs.declared.Beat.TheVariants.{Plain, Sample, Start}
use Rattle.wl_sync.specs.declared.Seen.{Seen}
use Rattle.wl_sync.specs.Edges.{edge_restarts, is_hard_edge, phase_error}
use Rattle.wl_sync.specs.Bits.{beat_of, sync_of}
use Rattle.wl_sync.specs.Running.{Running, clock_after}
use Rattle.wl_sync.specs.Skips.{moved_place, quanta_before_sample}
use Rattle.wl_sync.specs.Steps.{beat_between, end_of, running_after, running_answer, running_first, running_moved, running_on, running_over, running_passed, running_placed, running_restart, running_sync, samples}
use Rattle.wl_phase.specs.Ways.{ByTheBook, WayLaws, moved_to}
use Rattle.wl_phase.specs.InStep.{SyncsHard, seen_before}
use Rattle.wl_phase.proofs.Callers.{Goes, IsValid, answer_not, beat_is, edge_is, late, late_is, late_over, moved_is, none_is, sync_is, zero_is, found_one, way_before, way_past, valid_at, going_soft, sync_fresh}
use Rattle.wl_buses.specs.OneFrame.Clocked.{BitStartLaws, NoneSyncs, SamplesBy, StartsOnce}
use Rattle.wl_buses.proofs.OneFrame.Clocked.{after_sample, hard_way, later, none_before, none_of, sample_there, unsampled_at, way, way_is, way_alone}

-- One quantum of a bit clock. After its sample a bit goes on, or the next one begins; before it none does but by an edge that restarts it.
over_true : (s : SyncRules) (r moved : Running) (level : Level) → running_over s r moved true level ≡ moved
over_true After r moved level = refl
over_true Book r moved level = refl

module _ (r : Running) (x : Seen) (h : IsValid r) where
  abbrev pub new : Running
  new = running_after r x

  abbrev pub beat : Beat
  beat = beat_between (running_restart r x) r new x.level

  abbrev pub IsPast : Running → Type 0
  IsPast q = moved_place q < q.quanta

  -- what one quantum leaves, after the sample
  pub record Goes' (q : Running) (b : Beat) : Type 0 where
    pub past : IsPast q
    pub plain : b ≡ Plain
    pub long : sample_at q.lengths ≤ quanta_before_sample q

  pub record Starts (q : Running) (b : Beat) : Type 0 where
    pub start : b ≡ Start
    pub short : quanta_before_sample q < sample_at q.lengths

  abbrev pub Either : Running → Beat → Type 0
  Either q b = Goes' q b ⊎ Starts q b

  first_starts : Starts (running_first r x.level) (beat_between false r (running_first r x.level) x.level)
  first_starts = record { start = refl; short = (let e = way_before (running_first r x.level) (omega arith) in omega arith) }

  on_goes : IsPast r → Goes' (running_on r x.level) (beat_between false r (running_on r x.level) x.level)
  on_goes past =
      let begun = h.begun in
      record {
        past = omega arith;
        plain = rw (ne_eqb (r.quanta + 1) 1 (λ f. omega arith), ne_eqb r.quanta (moved_place r) (λ f. omega arith)) refl;
        long = (let e = way_past (running_on r x.level) (omega arith) in omega arith);
      }

  unsynced_by : IsPast r → Either (cond (r.quanta == end_of r) (running_first r x.level) (running_on r x.level))
      (beat_between false r (cond (r.quanta == end_of r) (running_first r x.level) (running_on r x.level)) x.level)
  unsynced_by past = elim (cases_eq r.quanta (end_of r)) [
    | inl over ↦ rw (eq-eqb r.quanta (end_of r) over) (inr first_starts)
    | inr apart ↦ rw (ne_eqb r.quanta (end_of r) apart) (inl (on_goes past))
  ]

  -- an edge restarts the bit
  abbrev restarted : Running
  restarted = record { lengths = r.lengths; quanta = suc (found_at r.lengths); longer = 0; shorter = 0; synced = true; level = x.level; sample = r.sample }

  restart_after : running_restart r x ≡ true → new ≡ restarted
  restart_after e =
      ap (λ q. running_placed q x) (edge_is r x h.lengths.book) ∙ ap (λ b. running_passed r (running_sync r x) b x.level) e
      ∙ over_true r.lengths.sync r restarted x.level

  pub restart_starts : running_restart r x ≡ true → Starts new beat
  restart_starts e =
      let one = found_one r.lengths h.lengths in
      let a = h.lengths.lengths.prop_low in
      let b = h.lengths.lengths.ps1_low in
      subst (λ q. Starts q (beat_between (running_restart r x) r q x.level)) (sym (restart_after e))
      (subst (λ b. Starts restarted (beat_between b r restarted x.level)) (sym e) (record { start = refl; short = (let w = way_before restarted (omega arith) in omega arith) }))

  -- an edge comes early, and doesn't
  abbrev early : Running
  early = record { lengths = r.lengths; quanta = r.quanta + 1; longer = 0; shorter = r.lengths.sjw; synced = true; level = x.level; sample = r.sample }

  early_is : sample_at r.lengths < r.quanta → running_moved r true false x.level ≡ early
  early_is past =
      rw (lt-leb r.quanta (sample_at r.lengths) past, lt-ltb (sample_at r.lengths) r.quanta past, ne_eqb r.quanta (sample_at r.lengths + 0) (λ e. omega arith)) refl

  early_goes : sample_at r.lengths < r.quanta → Goes' early (beat_between false r early x.level)
  early_goes past =
      let begun = h.begun in
      record {
        past = omega arith;
        plain = rw (ne_eqb (r.quanta + 1) 1 (λ f. omega arith), ne_eqb r.quanta (sample_at r.lengths + 0) (λ f. omega arith)) refl;
        long = (let e = way_past early (omega arith) in omega arith);
      }

  early_by : sample_at r.lengths < r.quanta → Either (running_over Book r early false x.level) (beat_between false r (running_over Book r early false x.level) x.level)
  early_by past = elim (cases_eq r.quanta (end_of early)) [
    | inl over ↦ rw (eq-eqb r.quanta (end_of early) over) (inr first_starts)
    | inr apart ↦ rw (ne_eqb r.quanta (end_of early) apart) (inl (early_goes past))
  ]

  synced_by : IsPast r → running_sync r x ≡ true → running_restart r x ≡ false → Either new beat
  synced_by past f g =
      let fresh : r.synced ≡ false = sync_fresh r x f (going_soft r x f g) in
      let none = h.fresh_longer fresh in
      subst (λ q. Either q (beat_between (running_restart r x) r q x.level)) (sym (moved_is r x h.lengths.book f g))
      (subst (λ b. Either (running_over Book r (running_moved r true false x.level) false x.level) (beat_between b r (running_over Book r (running_moved r true false x.level) false x.level) x.level)) (sym g)
      (subst (λ q. Either (running_over Book r q false x.level) (beat_between false r (running_over Book r q false x.level) x.level)) (sym (early_is (omega arith))) (early_by (omega arith))))

  unsynced : IsPast r → running_sync r x ≡ false → Either new beat
  unsynced past f =
      subst (λ q. Either q (beat_between (running_restart r x) r q x.level)) (sym (none_is r x h.lengths.book f))
      (subst (λ b. Either (cond (r.quanta == end_of r) (running_first r x.level) (running_on r x.level))
      (beat_between (b && edge_restarts r.lengths x r.quanta) r (cond (r.quanta == end_of r) (running_first r x.level) (running_on r x.level)) x.level)) (sym f) (unsynced_by past))

  pub past_step : IsPast r → Either new beat
  past_step past = elim (cases_Bool (running_sync r x)) [
    | inl f ↦ elim (cases_Bool (running_restart r x)) [
      | inl g ↦ inr (restart_starts g)
      | inr g ↦ synced_by past f g
    ]
    | inr f ↦ unsynced past f
  ]

  -- before the sample
  pub not_past : quanta_before_sample r < sample_at r.lengths → r.quanta ≤ moved_place r
  not_past short = elim (cases_lt (moved_place r) r.quanta) [
    | inl past ↦ (let e = way_past r past in absurd (omega arith))
    | inr before ↦ before
  ]

  on_not : (on : Running) → (on.quanta ≡ r.quanta + 1) → (b : Beat) → beat_between false r on x.level ≡ Start → ⊥
  on_not on e b f = absurd (not_start (samples r on.longer) (sym (ap (λ c. cond c Start (cond (samples r on.longer) (Sample x.level) Plain)) (ne_eqb on.quanta 1 (let begun = h.begun in λ g. omega arith))) ∙ f))
    where
      not_start : (b : Bool) → cond b (Sample x.level) Plain ≡ Start → ⊥
      not_start true e = cc
      not_start false e = cc

  pub begun_step : r.quanta ≤ moved_place r → running_restart r x ≡ false → beat ≡ Start → ⊥
  begun_step before g start = elim (cases_Bool (running_sync r x)) [
    | inl f ↦
        (let fresh : r.synced ≡ false = sync_fresh r x f (going_soft r x f g) in
        let none = h.fresh_longer fresh in
        let small : r.quanta ≤ sample_at r.lengths = omega arith in
        let e : new ≡ late r x = moved_is r x h.lengths.book f g ∙ ap (λ q. running_over Book r q false x.level) (late_is r x h small) ∙ late_over r x h small in
        on_not (late r x) refl Start (ap (λ q. beat_between false r q x.level) (sym e) ∙ ap (λ b. beat_between b r new x.level) (sym g) ∙ start))
    | inr f ↦
        (let small = h.shorter in
        let low = h.lengths.lengths.ps2_low in
        let e : new ≡ running_on r x.level =
        none_is r x h.lengths.book f ∙ ap (λ b. cond b (running_first r x.level) (running_on r x.level)) (ne_eqb r.quanta (end_of r) (λ q. omega arith)) in
        on_not (running_on r x.level) refl Start (ap (λ q. beat_between false r q x.level) (sym e) ∙ ap (λ b. beat_between b r new x.level) (sym g) ∙ start))
  ]

-- an edge that is late by the book does not restart the bit
late_on : (r : Running) (x : Seen) → is_hard_edge r.lengths.sync x ≡ false → r.quanta ≤ sample_at r.lengths → edge_restarts r.lengths x r.quanta ≡ false
late_on r x e before = rw (e, le-ltb (sample_at r.lengths) r.quanta before) refl

soft_hard : (r : Running) (x : Seen) (error : ℤ) → running_answer r x ≡ Some (Error error) → is_hard_edge r.lengths.sync x ≡ false
soft_hard r x error e = elim (cases_Bool (running_sync r x)) [
  | inl f ↦ elim (cases_Bool (is_hard_edge r.lengths.sync x)) [
    | inl g ↦ absurd (apart error (sym (counted (running_sync r x) (is_hard_edge r.lengths.sync x) (phase_error r.lengths r.quanta) f g) ∙ e))
    | inr g ↦ g
  ]
  | inr f ↦ absurd (none_some error (sym (ap (λ b. cond b (Some (cond (is_hard_edge r.lengths.sync x) Hard (Error (phase_error r.lengths r.quanta)))) None) f) ∙ e))
]
  where
    counted : (a b : Bool) (p : ℤ) → a ≡ true → b ≡ true → cond a (Some (cond b Hard (Error p))) None ≡ Some Hard
    counted true true p e f = refl
    counted true false p e f = cc
    counted false b p e f = cc

    apart : (error : ℤ) → Some Hard ≡ Some (Error error) → ⊥
    apart error e = cc

    none_some : (error : ℤ) → None ≡ Some (Error error) → ⊥
    none_some error e = cc

hard_is : (r : Running) (x : Seen) → running_answer r x ≡ Some Hard → running_restart r x ≡ true
hard_is r x e = by (running_sync r x) (is_hard_edge r.lengths.sync x) (phase_error r.lengths r.quanta) _ e
  where
    by : (a b : Bool) (p : ℤ) (c : Bool) → cond a (Some (cond b Hard (Error p))) None ≡ Some Hard → (a && (b || c)) ≡ true
    by true true p c e = refl
    by true false p c e = cc
    by false b p c e = cc

module _ (goes : Goes) (ways : WayLaws) (l : Lengths) (book : ByTheBook l) (seen : ℕ → Seen) where
  abbrev clock : ℕ → Running
  clock i = clock_after l (seen_before seen i)

  abbrev pub beat_at : ℕ → Beat
  beat_at i = beat_of l (seen_before seen i) (seen i)

  abbrev sync_at : ℕ → Option Sync
  sync_at i = sync_of l (seen_before seen i) (seen i)

  abbrev way_at : ℕ → ℕ
  way_at i = way ways l book seen i

  abbrev valid : (i : ℕ) → IsValid (clock i)
  valid = valid_at goes l book seen

  next : (i : ℕ) → clock (suc i) ≡ running_after (clock i) (seen i)
  next i = goes.clock l (seen_before seen i) (seen i)

  beat_there : (i : ℕ) → beat_at i ≡ beat (clock i) (seen i) (valid i)
  beat_there i = goes.beat l (seen_before seen i) (seen i) ∙ beat_is (clock i) (seen i) (valid i)

  answer_there : (i : ℕ) → sync_at i ≡ running_answer (clock i) (seen i)
  answer_there i = sync_is goes l book (seen_before seen i) (seen i)

  abbrev pub Past : ℕ → Type 0
  Past i = moved_place (clock i) < (clock i).quanta

  -- right after a sample
  pub sampled_past : (k : ℕ) (level : Level) → SamplesBy l seen k level → Past (suc k)
  sampled_past k level e =
      let o = ways.only l (seen_before seen k) (seen k) level book e in
      let f = answer_not (clock k) (seen k) (valid k) (sym (answer_there k) ∙ o.0) in
      let place = zero_is (clock k) (valid k) o.1 in
      let small = (valid k).shorter in
      let low = (valid k).lengths.lengths.ps2_low in
      let n : clock (suc k) ≡ running_on (clock k) (seen k).level =
      next k ∙ none_is (clock k) (seen k) book.book f
      ∙ ap (λ b. cond b (running_first (clock k) (seen k).level) (running_on (clock k) (seen k).level)) (ne_eqb (clock k).quanta (end_of (clock k)) (λ q. omega arith)) in
      let there : moved_place (running_on (clock k) (seen k).level) < (running_on (clock k) (seen k).level).quanta = omega arith in
      subst (λ q. moved_place q < q.quanta) (sym n) there

  -- a quantum after it
  pub record On (i : ℕ) : Type 0 where
    pub past : Past (suc i)
    pub plain : beat_at i ≡ Plain

  pub on_or_start : (i : ℕ) → Past i → (On i × (sample_at l ≤ way_at (suc i))) ⊎ ((beat_at i ≡ Start) × (way_at (suc i) < sample_at l))
  on_or_start i past = by (past_step (clock i) (seen i) (valid i) past)
    where
      by : Either (clock i) (seen i) (valid i) (running_after (clock i) (seen i)) (beat (clock i) (seen i) (valid i))
          → (On i × (sample_at l ≤ way_at (suc i))) ⊎ ((beat_at i ≡ Start) × (way_at (suc i) < sample_at l))
      by (inl g) =
          inl (
            record { past = subst (λ q. moved_place q < q.quanta) (sym (next i)) g.past; plain = beat_there i ∙ g.plain },
            (let w = way_is ways l book seen (suc i) in let long = subst (λ q. sample_at q.lengths ≤ quanta_before_sample q) (sym (next i)) g.long in omega arith),
          )
      by (inr s) =
          inr (
            beat_there i ∙ s.start,
            (let w = way_is ways l book seen (suc i) in let short = subst (λ q. quanta_before_sample q < sample_at q.lengths) (sym (next i)) s.short in omega arith),
          )

  pub past_on : (k n : ℕ) → Past k → ((i : ℕ) → k < i → i ≤ k + n → sample_at l ≤ way_at i) → Past (k + n)
  past_on k zero past low = (let e : k ≡ k + 0 = omega arith in subst Past e past)
  past_on k (suc n) past low =
      (let before = past_on k n past (λ i a b. low i a (omega arith)) in
      let e : suc (k + n) ≡ k + suc n = omega arith in
      elim (on_or_start (k + n) before) [
        | inl on ↦ subst Past e on.0.past
        | inr start ↦ (let w = low (suc (k + n)) (omega arith) (omega arith) in let s = start.1 in absurd (omega arith))
      ])

  -- no quantum before the sample begins a bit, but by an edge that restarts it
  abbrev Soft : ℕ → Type 0
  Soft i = (sync_at i ≡ None) ⊎ ((error : ℤ) × (sync_at i ≡ Some (Error error)))

  soft_on : (i : ℕ) → (clock i).quanta ≤ moved_place (clock i) → Soft i → running_restart (clock i) (seen i) ≡ false
  soft_on i before (inl none) =
      ap (λ b. b && edge_restarts l (seen i) (clock i).quanta) (answer_not (clock i) (seen i) (valid i) (sym (answer_there i) ∙ none))
  soft_on i before (inr soft) = elim (cases_Bool (running_sync (clock i) (seen i))) [
    | inl f ↦
        (let soft_edge = soft_hard (clock i) (seen i) soft.0 (sym (answer_there i) ∙ soft.1) in
        let fresh : (clock i).synced ≡ false = sync_fresh (clock i) (seen i) f soft_edge in
        let none = (valid i).fresh_longer fresh in
        and_right (running_sync (clock i) (seen i)) (edge_restarts l (seen i) (clock i).quanta)
        (late_on (clock i) (seen i) (soft_hard (clock i) (seen i) soft.0 (sym (answer_there i) ∙ soft.1)) (omega arith)))
    | inr f ↦ ap (λ b. b && edge_restarts l (seen i) (clock i).quanta) f
  ]

  plain_by : (b : Beat) → (b ≡ Start → ⊥) → ((level : Level) → b ≡ Sample level → ⊥) → b ≡ Plain
  plain_by Plain s m = refl
  plain_by Start s m = absurd (s refl)
  plain_by (Sample level) s m = absurd (m level refl)

  plain_there : (i : ℕ) → way_at i < sample_at l → Soft i → ((level : Level) → SamplesBy l seen i level → ⊥) → beat_at i ≡ Plain
  plain_there i short soft unsampled =
      (let w = way_is ways l book seen i in
      let before = not_past (clock i) (seen i) (valid i) (omega arith) in
      plain_by (beat_at i) (λ e. begun_step (clock i) (seen i) (valid i) before (soft_on i before soft) (sym (beat_there i) ∙ e)) unsampled)

  -- between two samples
  once : (k m from : ℕ) (level : Level) → SamplesBy l seen k level → k < from → from < m → ((i : ℕ) → k < i → i ≤ from → sample_at l ≤ way_at i)
      → ((i : ℕ) → from < i → i ≤ m → way_at i < sample_at l) → ((i : ℕ) → from < i → i < m → Soft i) → ((i : ℕ) → k < i → i < m → (level : Level) → SamplesBy l seen i level → ⊥)
      → StartsOnce l seen k m from
  once k m from level sampled after inside low high soft unsampled = record {
    after = after;
    inside = inside;
    starts = starts;
    others = λ i from_k to_m other. elim (cases_lt i from) [
      | inl before ↦ earlier i from_k before
      | inr later ↦ (let above : from < i = omega (arith, other) in plain_there i (high i above (omega arith)) (soft i above to_m) (unsampled i from_k to_m))
    ];
  }
    where
      past_at : (i : ℕ) → k < i → i ≤ from → Past i
      past_at i a b =
          (let e : suc k + (i - suc k) ≡ i = omega arith in
          subst Past e (past_on (suc k) (i - suc k) (sampled_past k level sampled) (λ j c d. low j (omega arith) (omega arith))))

      starts : beat_at from ≡ Start
      starts = elim (on_or_start from (past_at from after (omega arith))) [
        | inl on ↦ (let long = on.1 in let short = high (suc from) (omega arith) (omega arith) in absurd (omega arith))
        | inr start ↦ start.0
      ]

      earlier : (i : ℕ) → k < i → i < from → beat_at i ≡ Plain
      earlier i a b = elim (on_or_start i (past_at i a (omega arith))) [
        | inl on ↦ on.0.plain
        | inr start ↦ (let long = low (suc i) (omega arith) (omega arith) in let short = start.1 in absurd (omega arith))
      ]

  -- no edge moves it
  alone : (place : ℕ) (level : Level) → SamplesBy l seen (place + sample_at l) level → NoneSyncs l seen (place + sample_at l) (place + bit_quanta l + sample_at l)
      → StartsOnce l seen (place + sample_at l) (place + bit_quanta l + sample_at l) (place + bit_quanta l)
  alone place level sampled none =
      let way_then = λ (i : ℕ) (a : place + sample_at l < i) (b : i ≤ place + bit_quanta l + sample_at l).
      way_alone ways l book seen place level sampled i a b (λ j c d. none j c (omega arith)) in
      once (place + sample_at l) (place + bit_quanta l + sample_at l) (place + bit_quanta l) level sampled (let low = book.lengths.ps2_low in omega arith) (omega arith)
      (λ i a b. (let w = way_then i a (omega arith) in omega arith))
      (λ i a b. (let w = way_then i (omega arith) b in omega arith))
      (λ i a b. inl (none i (omega arith) (omega arith)))
      (λ i a b. unsampled_at ways l book seen i (let w = way_then i a (omega arith) in omega arith))

  -- the edge of a hard synchronisation
  hard : (place : ℕ) → SyncsHard l seen (suc place) → NoneSyncs l seen (suc place) (place + sample_at l) → StartsOnce l seen place (place + sample_at l) (suc place)
  hard place sync none = record {
    after = omega arith;
    inside = (let a = book.lengths.prop_low in let b = book.lengths.ps1_low in omega arith);
    starts = beat_there (suc place) ∙ (restart_starts (clock (suc place)) (seen (suc place)) (valid (suc place)) (hard_is (clock (suc place)) (seen (suc place)) (sym (answer_there (suc place)) ∙ sync))).start;
    others = λ i a b other. later_one i (omega (arith, other)) b;
  }
    where
      e : suc (suc place) + way_at (suc (suc place)) ≡ place + sample_at l
      e = let a = book.lengths.prop_low in let b = book.lengths.ps1_low in let w = hard_way ways l book seen place sync in omega arith

      syncs : (i : ℕ) → suc (suc place) ≤ i → i ≤ place + sample_at l → sync_at i ≡ None
      syncs i a b = none i (omega arith) b

      later_one : (i : ℕ) → suc place < i → i < place + sample_at l → beat_at i ≡ Plain
      later_one i a b =
          (let there = later ways l book seen (suc (suc place)) (i - suc (suc place)) (λ j c d. none j (omega arith) (omega arith)) (let w = e in omega arith) in
          let f : suc (suc place) + (i - suc (suc place)) ≡ i = omega arith in
          let same : way_at i ≡ way_at (suc (suc place) + (i - suc (suc place))) = ap way_at (sym f) in
          let w = e in
          plain_there i (omega arith) (inl (none i a (omega arith))) (none_before ways l book seen (suc (suc place)) (place + sample_at l) e syncs i a b))

  -- an edge that moves the sample
  module _ (place found new : ℕ) (level : Level) (error : ℤ) (sampled : SamplesBy l seen (place + sample_at l) level)
      (after : place + sample_at l < found) (inside : found ≤ place + bit_quanta l + sample_at l) (none : NoneSyncs l seen (place + sample_at l) (found - 1))
      (soft : sync_at found ≡ Some (Error error)) (moved : new ≡ moved_to (found - 1) l.sjw (place + bit_quanta l))
      (calm : NoneSyncs l seen found (new + sample_at l)) where
    way_first : (i : ℕ) → place + sample_at l < i → i ≤ found → way_at i + i ≡ place + bit_quanta l + sample_at l
    way_first i a b =
        let begin = after_sample ways l book seen (place + sample_at l) level sampled in
        let long = book.lengths.low in
        let e : suc (place + sample_at l) + (i - suc (place + sample_at l)) ≡ i = omega arith in
        let there = later ways l book seen (suc (place + sample_at l)) (i - suc (place + sample_at l)) (λ j c d. none j (omega arith) (omega arith)) (omega arith) in
        let same : way_at i ≡ way_at (suc (place + sample_at l) + (i - suc (place + sample_at l))) = ap way_at (sym e) in
        omega arith

    way_next : (i : ℕ) → found < i → i ≤ new + sample_at l → way_at i + i ≡ new + sample_at l
    way_next i a b =
        let begin = sample_there ways l book seen place found new level error sampled after inside none soft moved calm in
        let e : suc found + (i - suc found) ≡ i = omega arith in
        let there = later ways l book seen (suc found) (i - suc found) (λ j c d. calm j (omega arith) (omega arith)) (omega arith) in
        let same : way_at i ≡ way_at (suc found + (i - suc found)) = ap way_at (sym e) in
        omega arith

    unsampled : (i : ℕ) → place + sample_at l < i → i < new + sample_at l → (level : Level) → SamplesBy l seen i level → ⊥
    unsampled i a b = none_of ways l book seen place found new level error sampled after inside none soft moved calm i a b

    early_start : found ≤ place + bit_quanta l → StartsOnce l seen (place + sample_at l) (new + sample_at l) (max found new)
    early_start by_due =
        let jump = book.lengths.sjw_low in
        let a = book.lengths.prop_low in
        let b = book.lengths.ps1_low in
        once (place + sample_at l) (new + sample_at l) (max found new) level sampled (omega arith) (omega arith) (λ i c d. long i c d) (λ i c d. (let w = way_next i (omega arith) d in omega arith))
        (λ i c d. inl (calm i (omega arith) (omega arith))) unsampled
      where
        long : (i : ℕ) → place + sample_at l < i → i ≤ max found new → sample_at l ≤ way_at i
        long i c d = elim (cases_lt found i) [
          | inl above ↦ (let jump = book.lengths.sjw_low in let w = way_next i above (omega arith) in omega arith)
          | inr below ↦ (let w = way_first i c below in omega arith)
        ]

    late_start : place + bit_quanta l < found → StartsOnce l seen (place + sample_at l) (new + sample_at l) (place + bit_quanta l)
    late_start by_due =
        let jump = book.lengths.sjw_low in
        let a = book.lengths.prop_low in
        let b = book.lengths.ps1_low in
        let low = book.lengths.ps2_low in
        once (place + sample_at l) (new + sample_at l) (place + bit_quanta l) level sampled (omega arith) (omega arith) (λ i c d. (let w = way_first i c (omega arith) in omega arith)) (λ i c d. short i c d)
        (λ i c d. soft_there i c d) unsampled
      where
        short : (i : ℕ) → place + bit_quanta l < i → i ≤ new + sample_at l → way_at i < sample_at l
        short i c d = elim (cases_lt found i) [
          | inl above ↦ (let w = way_next i above d in omega arith)
          | inr below ↦ (let w = way_first i (omega arith) below in omega arith)
        ]

        soft_there : (i : ℕ) → place + bit_quanta l < i → i < new + sample_at l → Soft i
        soft_there i c d = elim (cases_lt i found) [
          | inl before ↦ inl (none i (omega arith) (omega arith))
          | inr from ↦ elim (cases_lt found i) [
            | inl above ↦ inl (calm i above (omega arith))
            | inr here ↦ (let same : found ≡ i = omega arith in inr (error, subst (λ k. sync_at k ≡ Some (Error error)) same soft))
          ]
        ]

pub bit_start_laws : Goes → WayLaws → BitStartLaws
bit_start_laws goes ways = record {
  alone = λ l seen place level book sampled none. alone goes ways l book seen place level sampled none;
  hard = λ l seen place book sync none. hard goes ways l book seen place sync none;
  early = λ l seen place found new level error book sampled after inside none soft moved calm.
      early_start goes ways l book seen place found new level error sampled after (omega arith) none soft moved calm inside;
  late = λ l seen place found new level error book sampled after inside none soft moved calm.
      late_start goes ways l book seen place found new level error sampled (omega arith) inside none soft moved calm after;
}
