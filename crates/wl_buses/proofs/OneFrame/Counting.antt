-- When an edge counts at a station, and what bit it makes.
use Rattle.std.proofs.Common.{◌≡◌, ◌∙◌, ap, sym, subst, inl, inr, refl, ℕ, zero, suc, ◌+◌, ◌-◌, ◌<◌, ◌≤◌, max, Bool, true, false, cond, Some, None, Option, arith}
use Rattle.std.specs.Prelude.{ℤ, ◌==◌}
use Rattle.std.proofs.lemmas.Bool.{cases_eq, cases_lt, eq-eqb, ne_eqb}
use Rattle.wl_level.specs.declared.Level.{Level}
use Rattle.wl_level.specs.declared.Level.TheVariants.{Dominant, Recessive}
use Rattle.wl_segments.specs.Lengths.{Lengths, bit_quanta, sample_at}
use Rattle.wl_sync.specs.declared.Sync.{Sync}
use Rattle.wl_sync.specs.declared.Sync.TheVariants.{Error, Hard}
use Rattle.wl_sync.specs.declared.Beat.TheVariants.{Plain}
use Rattle.wl_sync.specs.declared.Seen.{Seen}
use Rattle.wl_sync.specs.Edges.{is_hard_edge, phase_error}
use Rattle.wl_sync.specs.Bits.{beat_of, sync_of}
use Rattle.wl_sync.specs.Running.{Running, clock_after}
use Rattle.wl_sync.specs.Skips.{moved_place, quanta_before_sample, steady_clock}
use Rattle.wl_sync.specs.Steps.{end_of, is_sampled, running_answer, running_first, running_on, running_sync}
use Rattle.wl_phase.specs.Ways.{ByTheBook, WayLaws, moved_to}
use Rattle.wl_phase.specs.Answer.{SamplesNext}
use Rattle.wl_phase.specs.InStep.{SyncsHard, seen_before}
use Rattle.wl_phase.proofs.Callers.{Goes, answer_not, none_is, soft_driving, sync_is, valid_after, counts_then, soft_from, way_past, hard_from, IsQuiet}
use Rattle.wl_buses.specs.OneFrame.Clocked.{BitIs, BitPlaceLaws, BitStartLaws, EdgeLaws, FindsEdge, NoEdgeLaws, NoneSyncs, SamplesBy, StartsOnce}
use Rattle.wl_buses.proofs.OneFrame.Beginning.{on_or_start, past_on, sampled_past}
use Rattle.wl_buses.proofs.OneFrame.Calm.{LevelGoes, SampleGoes, keeps}
use Rattle.wl_buses.proofs.OneFrame.Clocked as clocked
use Rattle.wl_buses.proofs.OneFrame.Clocked.{down, unsampled_at, error_way, way, way_is}

-- An edge counts if the last sample and the level before were recessive, the bit hasn't synchronised yet, and the node drives recessive.
answer_soft : (r : Running) (x : Seen) → running_sync r x ≡ true → is_hard_edge r.lengths.sync x ≡ false → running_answer r x ≡ Some (Error (phase_error r.lengths r.quanta))
answer_soft r x e g = rw (e, g) refl

hard_not : (r : Running) (x : Seen) → is_hard_edge r.lengths.sync x ≡ false → running_answer r x ≡ Some Hard → ⊥
hard_not r x g e = by (running_sync r x) (is_hard_edge r.lengths.sync x) (phase_error r.lengths r.quanta) g e
  where
    by : (a b : Bool) (p : ℤ) → b ≡ false → cond a (Some (cond b Hard (Error p))) None ≡ Some Hard → ⊥
    by true true p g e = cc
    by true false p g e = cc
    by false b p g e = cc

unsynced_on : (r : Running) (level : Level) (b : Bool) → r.synced ≡ false → (cond b (running_first r level) (running_on r level)).synced ≡ false
unsynced_on r level true e = refl
unsynced_on r level false e = e

-- a clock in a bit that nothing has moved, after so many quanta of it
record InBit (r : Running) (n : ℕ) : Type 0 where
  quanta : r.quanta ≡ suc n
  longer : r.longer ≡ 0
  shorter : r.shorter ≡ 0
  synced : r.synced ≡ false

on_in : (r : Running) (level : Level) (n : ℕ) → InBit r n → InBit (running_on r level) (suc n)
on_in r level n b = record { quanta = (let q = b.quanta in omega arith); longer = b.longer; shorter = b.shorter; synced = b.synced }

on_steady : (r : Running) (level : Level) → r.quanta ≡ sample_at r.lengths → r.longer ≡ 0 → r.shorter ≡ 0 → r.synced ≡ false → level ≡ Recessive → running_on r level ≡ steady_clock r.lengths
on_steady r level q longer shorter synced quiet =
    let more : r.quanta + 1 ≡ suc (sample_at r.lengths) = omega arith in
    let sampled : cond (is_sampled r) level r.sample ≡ Recessive =
    ap (λ b. cond b level r.sample) (eq-eqb r.quanta (sample_at r.lengths + r.longer) (omega arith)) ∙ quiet in
    λ i. record { lengths = r.lengths; quanta = more i; longer = longer i; shorter = shorter i; synced = synced i; level = quiet i; sample = sampled i }

module _ (goes : Goes) (level_goes : LevelGoes) (sample_goes : SampleGoes) (ways : WayLaws) (places : BitPlaceLaws) (starts : BitStartLaws) (calm : NoEdgeLaws)
    (l : Lengths) (book : ByTheBook l) (seen : ℕ → Seen) where
  abbrev clock : ℕ → Running
  clock i = clock_after l (seen_before seen i)

  abbrev sync_at : ℕ → Option Sync
  sync_at i = sync_of l (seen_before seen i) (seen i)

  abbrev way_at : ℕ → ℕ
  way_at i = way ways l book seen i

  next_none : (i : ℕ) → sync_at i ≡ None → clock (suc i) ≡ cond ((clock i).quanta == end_of (clock i)) (running_first (clock i) (seen i).level) (running_on (clock i) (seen i).level)
  next_none i none =
      goes.clock l (seen_before seen i) (seen i) ∙ none_is (clock i) (seen i) book.book (answer_not (clock i) (seen i) (valid_after goes l book (seen_before seen i)) (sym (sync_is goes l book (seen_before seen i) (seen i)) ∙ none))

  on_there : (i n : ℕ) → n < sample_at l → InBit (clock i) n → sync_at i ≡ None → clock (suc i) ≡ running_on (clock i) (seen i).level
  on_there i n few b none =
      let q = b.quanta in
      let longer = b.longer in
      let shorter = b.shorter in
      let low = book.lengths.ps2_low in
      next_none i none
      ∙ ap (λ x. cond x (running_first (clock i) (seen i).level) (running_on (clock i) (seen i).level)) (ne_eqb (clock i).quanta (end_of (clock i)) (λ e. omega arith))

  recessive_none : (i : ℕ) → (seen i).level ≡ Recessive → sync_at i ≡ None
  recessive_none i e = calm.recessive l (seen_before seen i) (seen i) book e

  held_none : (i : ℕ) → (seen i).level ≡ Dominant → sync_at (suc i) ≡ None
  held_none i e = calm.held l (seen_before seen i) (seen i) (seen (suc i)) book e

  -- a bit that is sampled next, from its place and where it begins
  module _ (place : ℕ) (level : Level) (sampled : SamplesBy l seen (place + sample_at l) level) where
    abbrev S : ℕ
    S = place + sample_at l

    abbrev due : ℕ
    due = place + bit_quanta l

    alone : NoneSyncs l seen S (due + sample_at l) → BitIs l seen S due due (seen (due + sample_at l)).level
    alone none = record { samples = places.alone l seen place level book sampled none; starts = starts.alone l seen place level book sampled none }

    silent_bit : ((i : ℕ) → S < i → i ≤ due + sample_at l → (seen i).level ≡ Recessive) → BitIs l seen S due due Recessive
    silent_bit silent =
        subst (BitIs l seen S due due) (silent (due + sample_at l) (let low = book.lengths.low in omega arith) (omega arith)) (alone (λ i a b. recessive_none i (silent i a b)))

    abbrev way_then : (i : ℕ) → S < i → i ≤ due + sample_at l → ((j : ℕ) → S < j → j < i → sync_at j ≡ None) → way_at i + i ≡ due + sample_at l
    way_then = clocked.way_alone ways l book seen place level sampled

    -- the edge counts
    fresh_on : (i : ℕ) → sync_at i ≡ None → (seen i).level ≡ Recessive → 0 < way_at i → IsQuiet (clock i) → IsQuiet (clock (suc i))
    fresh_on i none quiet some f = record {
      level = level_goes l (seen_before seen i) (seen i) ∙ quiet;
      sample = sample_goes l (seen_before seen i) (seen i) ∙ keeps (beat_of l (seen_before seen i) (seen i)) (clock i).sample (unsampled_at ways l book seen i some) ∙ f.sample;
      synced = ap (λ r. r.synced) (next_none i none) ∙ unsynced_on (clock i) (seen i).level ((clock i).quanta == end_of (clock i)) f.synced;
    }

    fresh_then : clock (suc S) ≡ steady_clock l → (n : ℕ) → suc S + n ≤ due + sample_at l → ((i : ℕ) → S < i → i < suc S + n → (seen i).level ≡ Recessive) → IsQuiet (clock (suc S + n))
    fresh_then steady zero few silent =
        subst (λ i. IsQuiet (clock i)) (let e : suc S ≡ suc S + 0 = omega arith in e) (record { level = ap (λ r. r.level) steady; sample = ap (λ r. r.sample) steady; synced = ap (λ r. r.synced) steady })
    fresh_then steady (suc n) few silent =
        (let before = fresh_then steady n (omega arith) (λ i a b. silent i a (omega arith)) in
        let quiet = silent (suc S + n) (omega arith) (omega arith) in
        let w = way_then (suc S + n) (omega arith) (omega arith) (λ j a b. recessive_none j (silent j a (omega arith))) in
        let e : suc (suc S + n) ≡ suc S + suc n = omega arith in
        subst (λ i. IsQuiet (clock i)) e (fresh_on (suc S + n) (recessive_none (suc S + n) quiet) quiet (omega arith) before))

  module _ (place found new : ℕ) (moved : new ≡ moved_to (found - 1) l.sjw (place + bit_quanta l)) (f : FindsEdge l seen place found (new + sample_at l)) (inside : found ≤ place + bit_quanta l + sample_at l) where
    error_there : (error : ℤ) × (sync_at found ≡ Some (Error error))
    error_there =
        let after = f.after in
        let e : suc (place + sample_at l) + (found - suc (place + sample_at l)) ≡ found = omega arith in
        let fresh = subst (λ i. IsQuiet (clock i)) e
        (fresh_then place Recessive f.sampled f.clock (found - suc (place + sample_at l)) (omega arith) (λ i a b. f.silent i a (omega arith))) in
        let sync = counts_then (clock found) (seen found) book.book (valid_after goes l book (seen_before seen found)).begun (f.there found (omega arith) in_time) f.driving fresh.level fresh.sample fresh.synced in
        (phase_error l (clock found).quanta, sync_is goes l book (seen_before seen found) (seen found) ∙ answer_soft (clock found) (seen found) sync (soft_from l.sync (seen found) book.book f.awaits))
      where
        in_time : found ≤ new + sample_at l
        in_time = let a = book.lengths.prop_low in let b = book.lengths.ps1_low in let c = book.lengths.sjw_low in let d = moved in let g = f.after in omega arith

    none_before : NoneSyncs l seen (place + sample_at l) (found - 1)
    none_before i a b = recessive_none i (f.silent i a (let g = f.after in omega arith))

    none_after : NoneSyncs l seen found (new + sample_at l)
    none_after zero a b = absurd (omega arith)
    none_after (suc i) a b = held_none i (f.there i (omega arith) (omega arith))

    last_dominant : (seen (new + sample_at l)).level ≡ Dominant
    last_dominant =
        f.there (new + sample_at l) (let a = book.lengths.prop_low in let b = book.lengths.ps1_low in let c = book.lengths.sjw_low in let d = moved in let g = f.after in omega arith) (omega arith)

    samples_there : SamplesNext l seen (place + sample_at l) (new + sample_at l) Dominant
    samples_there =
        subst (SamplesNext l seen (place + sample_at l) (new + sample_at l)) last_dominant
        (places.soft l seen place found new Recessive error_there.0 book f.sampled f.after inside none_before error_there.1 moved none_after)

    early_bit : found ≤ place + bit_quanta l → BitIs l seen (place + sample_at l) new (max found new) Dominant
    early_bit by_due = record {
      samples = samples_there;
      starts = starts.early l seen place found new Recessive error_there.0 book f.sampled f.after by_due none_before error_there.1 moved none_after;
    }

    late_bit : place + bit_quanta l < found → BitIs l seen (place + sample_at l) new (place + bit_quanta l) Dominant
    late_bit by_due = record {
      samples = samples_there;
      starts = starts.late l seen place found new Recessive error_there.0 book f.sampled by_due inside none_before error_there.1 moved none_after;
    }

  -- it drives dominant before an edge comes: none moves its bit
  module _ (place : ℕ) (level : Level) (sampled : SamplesBy l seen (place + sample_at l) level)
      (silent : (i : ℕ) → place + sample_at l < i → i ≤ place + bit_quanta l → (seen i).level ≡ Recessive)
      (driving : (i : ℕ) → place + bit_quanta l < i → i ≤ place + bit_quanta l + sample_at l → (seen i).driving ≡ true) where
    abbrev first : ℕ
    first = suc (place + bit_quanta l)

    abbrev last : ℕ
    last = place + bit_quanta l + sample_at l

    soft_there : (i : ℕ) → place + bit_quanta l < i → i ≤ last → is_hard_edge l.sync (seen i) ≡ false
    soft_there i a b = soft_driving l.sync (seen i) book.book (driving i a b)

    none_first : NoneSyncs l seen (place + sample_at l) (place + bit_quanta l)
    none_first i a b = recessive_none i (silent i a b)

    way_due : way_at first + first ≡ last
    way_due =
        let low = book.lengths.ps2_low in
        let a = book.lengths.prop_low in
        way_then place level sampled first (omega arith) (omega arith) (λ j c d. none_first j c (omega arith))

    -- a late edge doesn't count
    late_at : (i : ℕ) → first < i → i ≤ last → way_at i + i ≡ last → sync_at i ≡ None
    late_at i a b w =
        let v = way_is ways l book seen i in
        ways.driving l (seen_before seen i) (seen i) book (driving i (omega arith) b) (omega arith)

    -- from the quantum after that on
    none_later : way_at (suc first) + suc first ≡ last → (n : ℕ) → suc first + n ≤ last → (way_at (suc first + n) + (suc first + n) ≡ last) × (sync_at (suc first + n) ≡ None)
    none_later start zero few =
        (let e : suc first ≡ suc first + 0 = omega arith in
        let w = ap way_at e in
        let way_is_there : way_at (suc first + 0) + (suc first + 0) ≡ last = omega arith in
        (way_is_there, late_at (suc first + 0) (omega arith) few way_is_there))
    none_later start (suc n) few =
        (let before = none_later start n (omega arith) in
        let w = before.0 in
        let one = down ways l book seen (suc first + n) before.1 (omega arith) in
        let e : suc (suc first + n) ≡ suc first + suc n = omega arith in
        let v = ap way_at e in
        let way_is_there : way_at (suc first + suc n) + (suc first + suc n) ≡ last = omega arith in
        (way_is_there, late_at (suc first + suc n) (omega arith) few way_is_there))

    none_from : way_at (suc first) + suc first ≡ last → NoneSyncs l seen first last
    none_from start i a b =
        let e : suc first + (i - suc first) ≡ i = omega arith in
        subst (λ j. sync_at j ≡ None) e (none_later start (i - suc first) (omega arith)).1

    moved_none : place + bit_quanta l ≡ moved_to (first - 1) l.sjw (place + bit_quanta l)
    moved_none = omega arith

    none_case : sync_at first ≡ None → BitIs l seen (place + sample_at l) (place + bit_quanta l) (place + bit_quanta l) (seen last).level
    none_case none =
        let w = way_due in
        let a = book.lengths.prop_low in
        let one = down ways l book seen first none (omega arith) in
        let later_none = none_from (omega arith) in
        alone place level sampled (λ i low high. elim (cases_lt i first) [
          | inl before ↦ none_first i low (omega arith)
          | inr from ↦ elim (cases_lt first i) [
            | inl above ↦ later_none i above high
            | inr here ↦ (let same : first ≡ i = omega arith in subst (λ j. sync_at j ≡ None) same none)
          ]
        ])

    error_case : (error : ℤ) → sync_at first ≡ Some (Error error) → BitIs l seen (place + sample_at l) (place + bit_quanta l) (place + bit_quanta l) (seen last).level
    error_case error e =
        let w = way_due in
        let a = book.lengths.prop_low in
        let b = book.lengths.ps1_low in
        let low = book.lengths.ps2_low in
        let turn = error_way ways l book seen first error e in
        let later_none = none_from (omega arith) in
        record {
          samples = places.soft l seen place first (place + bit_quanta l) level error book sampled (omega arith) (omega arith) (λ i c d. none_first i c (omega arith)) e moved_none later_none;
          starts = starts.late l seen place first (place + bit_quanta l) level error book sampled (omega arith) (omega arith) (λ i c d. none_first i c (omega arith)) e moved_none later_none;
        }

    own_bit : BitIs l seen (place + sample_at l) (place + bit_quanta l) (place + bit_quanta l) (seen last).level
    own_bit = by (sync_at first) refl
      where
        by : (o : Option Sync) → sync_at first ≡ o → BitIs l seen (place + sample_at l) (place + bit_quanta l) (place + bit_quanta l) (seen last).level
        by None e = none_case e
        by (Some (Error error)) e = error_case error e
        by (Some Hard) e = absurd (hard_not (clock first) (seen first) (soft_there first (omega arith) (let a = book.lengths.prop_low in omega arith)) (sym (sync_is goes l book (seen_before seen first) (seen first)) ∙ e))

  -- a recessive bit that no edge moves
  module _ (place : ℕ) (level : Level) (sampled : SamplesBy l seen (place + sample_at l) level) (none : NoneSyncs l seen (place + sample_at l) (place + bit_quanta l + sample_at l)) where
    abbrev begin : ℕ
    begin = suc (place + bit_quanta l)

    none_to : (i : ℕ) → place + sample_at l < i → i ≤ place + bit_quanta l + sample_at l → sync_at i ≡ None
    none_to i a b = none i a b

    way_to : (i : ℕ) → place + sample_at l < i → i ≤ place + bit_quanta l + sample_at l → way_at i + i ≡ place + bit_quanta l + sample_at l
    way_to i a b = way_then place level sampled i a b (λ j c d. none_to j c (omega arith))

    past_due : moved_place (clock (place + bit_quanta l)) < (clock (place + bit_quanta l)).quanta
    past_due =
        let low = book.lengths.ps2_low in
        let e : suc (place + sample_at l) + (l.ps2 - 1) ≡ place + bit_quanta l = omega arith in
        subst (λ i. moved_place (clock i) < (clock i).quanta) e
        (past_on goes ways l book seen (suc (place + sample_at l)) (l.ps2 - 1) (sampled_past goes ways l book seen (place + sample_at l) level sampled)
        (λ i a b. (let w = way_to i (omega arith) (omega arith) in omega arith)))

    first_there : clock begin ≡ running_first (clock (place + bit_quanta l)) (seen (place + bit_quanta l)).level
    first_there =
        let low = book.lengths.ps2_low in
        let a = book.lengths.prop_low in
        let n = next_none (place + bit_quanta l) (none_to (place + bit_quanta l) (omega arith) (omega arith)) in
        elim (cases_eq (clock (place + bit_quanta l)).quanta (end_of (clock (place + bit_quanta l)))) [
          | inl over ↦ n ∙ ap (λ b. cond b (running_first (clock (place + bit_quanta l)) (seen (place + bit_quanta l)).level) (running_on (clock (place + bit_quanta l)) (seen (place + bit_quanta l)).level))
              (eq-eqb (clock (place + bit_quanta l)).quanta (end_of (clock (place + bit_quanta l))) over)
          | inr apart ↦
              (let on = n ∙ ap (λ b. cond b (running_first (clock (place + bit_quanta l)) (seen (place + bit_quanta l)).level) (running_on (clock (place + bit_quanta l)) (seen (place + bit_quanta l)).level))
              (ne_eqb (clock (place + bit_quanta l)).quanta (end_of (clock (place + bit_quanta l))) apart) in
              let w = way_is ways l book seen begin ∙ ap quanta_before_sample on in
              let p = past_due in
              let v = way_past (running_on (clock (place + bit_quanta l)) (seen (place + bit_quanta l)).level) (omega arith) in
              let u = way_to begin (omega arith) (omega arith) in
              absurd (omega arith))
        ]

    in_bit : (n : ℕ) → n < sample_at l → InBit (clock (begin + n)) n
    in_bit zero few =
        subst (λ r. InBit r 0) (sym first_there ∙ ap clock (let e : begin ≡ begin + 0 = omega arith in e)) (record { quanta = refl; longer = refl; shorter = refl; synced = refl })
    in_bit (suc n) few =
        (let b = in_bit n (omega arith) in
        let e : suc (begin + n) ≡ begin + suc n = omega arith in
        subst (λ r. InBit r (suc n)) (sym (on_there (begin + n) n (omega arith) b (none_to (begin + n) (omega arith) (omega arith))) ∙ ap clock e) (on_in (clock (begin + n)) (seen (begin + n)).level n b))

    steady_there : (seen (place + bit_quanta l + sample_at l)).level ≡ Recessive → clock (suc (place + bit_quanta l + sample_at l)) ≡ steady_clock l
    steady_there quiet =
        let a = book.lengths.prop_low in
        let e : begin + (sample_at l - 1) ≡ place + bit_quanta l + sample_at l = omega arith in
        let b = subst (λ i. InBit (clock i) (sample_at l - 1)) e (in_bit (sample_at l - 1) (omega arith)) in
        on_there (place + bit_quanta l + sample_at l) (sample_at l - 1) (omega arith) b (none_to (place + bit_quanta l + sample_at l) (omega arith) (omega arith))
        ∙ on_steady (clock (place + bit_quanta l + sample_at l)) (seen (place + bit_quanta l + sample_at l)).level (omega (arith, b.quanta)) b.longer b.shorter b.synced quiet

answer_hard : (r : Running) (x : Seen) → running_sync r x ≡ true → is_hard_edge r.lengths.sync x ≡ true → running_answer r x ≡ Some Hard
answer_hard r x e g = rw (e, g) refl

-- The start of frame of a station that follows another one's, from its last sample before it.
module _ (goes : Goes) (level_goes : LevelGoes) (sample_goes : SampleGoes) (ways : WayLaws) (places : BitPlaceLaws) (starts : BitStartLaws) (calm : NoEdgeLaws)
    (l : Lengths) (book : ByTheBook l) (seen : ℕ → Seen) (rest found : ℕ) (sampled : SamplesBy l seen (rest + sample_at l) Recessive)
    (steady : clock_after l (seen_before seen (suc (rest + sample_at l))) ≡ steady_clock l) (after : rest + sample_at l < found) (inside : found ≤ rest + sample_at l + bit_quanta l)
    (silent : (i : ℕ) → rest + sample_at l < i → i < found → (seen i).level ≡ Recessive) (there : (i : ℕ) → found ≤ i → i ≤ found - 1 + sample_at l → (seen i).level ≡ Dominant)
    (awaits : (seen found).awaits ≡ true) (driving : (seen found).driving ≡ false) where
  found_is : suc (found - 1) ≡ found
  found_is = omega arith

  hard_there : SyncsHard l seen (suc (found - 1))
  hard_there =
      let e : suc (rest + sample_at l) + (found - suc (rest + sample_at l)) ≡ found = omega arith in
      let order : rest + sample_at l + bit_quanta l ≡ rest + bit_quanta l + sample_at l = omega arith in
      let fresh = subst (λ i. IsQuiet (clock_after l (seen_before seen i))) e
      (fresh_then goes level_goes sample_goes ways places starts calm l book seen rest Recessive sampled steady (found - suc (rest + sample_at l)) (omega arith) (λ i a b. silent i a (omega arith))) in
      let dominant = there found (omega arith) (let a = book.lengths.prop_low in omega arith) in
      let sync = counts_then (clock_after l (seen_before seen found)) (seen found) book.book (valid_after goes l book (seen_before seen found)).begun dominant driving fresh.level fresh.sample fresh.synced in
      subst (SyncsHard l seen) (sym found_is)
      (sync_is goes l book (seen_before seen found) (seen found) ∙ answer_hard (clock_after l (seen_before seen found)) (seen found) sync (hard_from l.sync (seen found) book.book awaits driving))

  none_held : NoneSyncs l seen (suc (found - 1)) (found - 1 + sample_at l)
  none_held zero a b = absurd (omega arith)
  none_held (suc i) a b = calm.held l (seen_before seen i) (seen i) (seen (suc i)) book (there i (omega arith) (omega arith))

  none_silent : (i : ℕ) → rest + sample_at l < i → i < found → sync_of l (seen_before seen i) (seen i) ≡ None
  none_silent i a b = calm.recessive l (seen_before seen i) (seen i) book (silent i a b)

  pub samples_start : SamplesBy l seen (found - 1 + sample_at l) Dominant
  samples_start =
      subst (SamplesBy l seen (found - 1 + sample_at l)) (there (found - 1 + sample_at l) (let a = book.lengths.prop_low in omega arith) (omega arith))
      (places.hard l seen (found - 1) book hard_there none_held).beat

  pub starts_there : StartsOnce l seen (found - 1) (found - 1 + sample_at l) (suc (found - 1))
  starts_there = starts.hard l seen (found - 1) book hard_there none_held

  way_silent : (i : ℕ) → rest + sample_at l < i → i ≤ found → way ways l book seen i + i ≡ rest + bit_quanta l + sample_at l
  way_silent i a b =
      way_then goes level_goes sample_goes ways places starts calm l book seen rest Recessive sampled i a (omega arith) (λ j c d. none_silent j c (omega arith))

  -- before it no quantum is a sample, and none begins a bit but from when one is due
  pub unsampled_before : (i : ℕ) → rest + sample_at l < i → i < found → (level : Level) → SamplesBy l seen i level → ⊥
  unsampled_before i a b = unsampled_at ways l book seen i (let w = way_silent i a (omega arith) in omega arith)

  pub plain_before : (i : ℕ) → rest + sample_at l < i → i < found → i < rest + bit_quanta l → beat_of l (seen_before seen i) (seen i) ≡ Plain
  plain_before i a b c =
      let e : suc (rest + sample_at l) + (i - suc (rest + sample_at l)) ≡ i = omega arith in
      let past = subst (λ j. moved_place (clock_after l (seen_before seen j)) < (clock_after l (seen_before seen j)).quanta) e
      (past_on goes ways l book seen (suc (rest + sample_at l)) (i - suc (rest + sample_at l)) (sampled_past goes ways l book seen (rest + sample_at l) Recessive sampled)
      (λ j x y. (let w = way_silent j (omega arith) (omega arith) in omega arith))) in
      elim (on_or_start goes ways l book seen i past) [
        | inl on ↦ on.0.plain
        | inr start ↦ (let w = way_silent (suc i) (omega arith) b in let s = start.1 in absurd (omega arith))
      ]

pub edge_laws : Goes → LevelGoes → SampleGoes → WayLaws → BitPlaceLaws → BitStartLaws → NoEdgeLaws → EdgeLaws
edge_laws goes level_goes sample_goes ways places starts calm = record {
  silent = λ l seen place level book sampled quiet. silent_bit goes level_goes sample_goes ways places starts calm l book seen place level sampled quiet;
  dominant = λ l seen place book sampled.
      alone goes level_goes sample_goes ways places starts calm l book seen place Dominant sampled
      (λ i a b. calm.sampled l seen (place + sample_at l) book sampled i a (omega arith));
  own = λ l seen place level book sampled quiet driving. own_bit goes level_goes sample_goes ways places starts calm l book seen place level sampled quiet driving;
  early = λ l seen place found new book by_due moved f. early_bit goes level_goes sample_goes ways places starts calm l book seen place found new moved f (omega arith) by_due;
  late = λ l seen place found new book by_due inside moved f. late_bit goes level_goes sample_goes ways places starts calm l book seen place found new moved f inside by_due;
  steady = λ l seen place level book sampled none quiet. steady_there goes level_goes sample_goes ways places starts calm l book seen place level sampled none quiet;
}
