-- How far apart two samples of a bit clock are at least, and that none comes before a start of frame is sampled.
use Rattle.std.proofs.Common.{◌≡◌, ◌∙◌, inl, inr, ap, ℕ, zero, suc, ◌+◌, ◌-◌, ◌<◌, ◌≤◌, cond, Option, Some, None, arith}
use Rattle.std.proofs.lemmas.Bool.{cases_eq, cases_lt, eq-eqb, ne_eqb}
use Rattle.wl_level.specs.declared.Level.{Level}
use Rattle.wl_level.specs.declared.Level.TheVariants.{Recessive}
use Rattle.wl_segments.specs.Lengths.{Lengths, bit_quanta, sample_at}
use Rattle.wl_sync.specs.declared.Sync.{Sync}
use Rattle.wl_sync.specs.declared.Sync.TheVariants.{Error, Hard}
use Rattle.wl_sync.specs.declared.Seen.{Seen}
use Rattle.wl_sync.specs.Bits.{sync_of}
use Rattle.wl_phase.specs.Ways.{ByTheBook, WayLaws, sample_way, way_after}
use Rattle.wl_phase.specs.InStep.{seen_before}
use Rattle.wl_buses.specs.OneFrame.Clocked.{NoEdgeLaws, SamplesBy}
use Rattle.wl_buses.proofs.PassedFrames.Samples.{NoneSamples}

module _ (ways : WayLaws) (calm : NoEdgeLaws) (l : Lengths) (book : ByTheBook l) (seen : ℕ → Seen) where
  abbrev S : ℕ
  S = sample_at l

  abbrev B : ℕ
  B = bit_quanta l

  abbrev way : ℕ → ℕ
  way q = sample_way l (seen_before seen q)

  abbrev sync : ℕ → Option Sync
  sync q = sync_of l (seen_before seen q) (seen q)

  way_next : (q : ℕ) → way (suc q) ≡ way_after l (way q) (sync q)
  way_next q = ways.way l (seen_before seen q) (seen q) book

  way_zero : (q : ℕ) (v : Level) → SamplesBy l seen q v → way q ≡ 0
  way_zero q v e = (ways.only l (seen_before seen q) (seen q) v book e).1

  sync_none : (q : ℕ) (v : Level) → SamplesBy l seen q v → sync q ≡ None
  sync_none q v e = (ways.only l (seen_before seen q) (seen q) v book e).0

  -- one quantum without an edge
  passed : (w : ℕ) → 0 < w → suc (way_after l w None) ≡ w
  passed w some = (let e : way_after l w None ≡ w - 1 = ap (λ b. cond b (B - 1) (w - 1)) (ne_eqb w 0 (λ f. omega arith)) in omega arith)

  over : (w : ℕ) → w ≡ 0 → suc (way_after l w None) ≡ B
  over w none = (let low = book.lengths.low in let e : way_after l w None ≡ B - 1 = ap (λ b. cond b (B - 1) (w - 1)) (eq-eqb w 0 none) in omega arith)

  after_sample : (k : ℕ) (v : Level) → SamplesBy l seen k v → suc (way (suc k)) ≡ B
  after_sample k v e = ap suc (way_next k ∙ ap (way_after l (way k)) (sync_none k v e)) ∙ over (way k) (way_zero k v e)

  -- whatever edges come, the next sample is not before so many quanta
  far_by : (k q w : ℕ) (o : Option Sync) → k < q → k + S ≤ q + w → k + S ≤ suc q + way_after l w o
  far_by k q w None later far = elim (cases_eq w 0) [
    | inl none ↦ (let e = over w none in omega arith)
    | inr some ↦ (let e = passed w (omega (arith, some)) in omega arith)
  ]
  far_by k q w (Some Hard) later far = (let a = book.lengths.prop_low in let b = book.lengths.ps1_low in omega arith)
  far_by k q w (Some (Error error)) later far = (let a = book.lengths.prop_low in let b = book.lengths.ps1_low in let c = book.lengths.sjw_low in omega arith)

  far_up : (k : ℕ) (v : Level) → SamplesBy l seen k v → (d : ℕ) → k + S ≤ suc k + d + way (suc k + d)
  far_up k v e zero =
      (let a = after_sample k v e in
      let f : way (suc k + 0) ≡ way (suc k) = ap way (let g : suc k + 0 ≡ suc k = omega arith in g) in
      omega arith)
  far_up k v e (suc d) =
      (let a = far_by k (suc k + d) (way (suc k + d)) (sync (suc k + d)) (omega arith) (far_up k v e d) in
      let f : way (suc k + suc d) ≡ way_after l (way (suc k + d)) (sync (suc k + d)) = ap way (let g : suc k + suc d ≡ suc (suc k + d) = omega arith in g) ∙ way_next (suc k + d) in
      omega arith)

  pub samples_apart : (k m : ℕ) (v w : Level) → SamplesBy l seen k v → SamplesBy l seen m w → k < m → k + S ≤ m
  samples_apart k m v w first next less =
      let e : suc k + (m - suc k) ≡ m = omega arith in
      let a = far_up k v first (m - suc k) in
      let f : way (suc k + (m - suc k)) ≡ 0 = ap way e ∙ way_zero m w next in
      omega arith

  -- on a silent line the next sample is a bit later
  silent_up : (k : ℕ) (v : Level) → SamplesBy l seen k v → (to : ℕ) → to ≤ k + B → ((q : ℕ) → k < q → q < to → (seen q).level ≡ Recessive) → (d : ℕ) → suc k + d ≤ to
      → suc k + d + way (suc k + d) ≡ k + B
  silent_up k v e to near silent zero less =
      (let a = after_sample k v e in
      let f : way (suc k + 0) ≡ way (suc k) = ap way (let g : suc k + 0 ≡ suc k = omega arith in g) in
      omega arith)
  silent_up k v e to near silent (suc d) less =
      (let before = silent_up k v e to near silent d (omega arith) in
      let none : sync (suc k + d) ≡ None = calm.recessive l (seen_before seen (suc k + d)) (seen (suc k + d)) book (silent (suc k + d) (omega arith) (omega arith)) in
      let one = passed (way (suc k + d)) (omega arith) in
      let f : way (suc k + suc d) ≡ way_after l (way (suc k + d)) None =
      ap way (let g : suc k + suc d ≡ suc (suc k + d) = omega arith in g) ∙ way_next (suc k + d) ∙ ap (way_after l (way (suc k + d))) none in
      omega arith)

  -- so a sample is the next one after a silent time if it comes soon after that
  pub none_before : (k found m : ℕ) (v w : Level) → SamplesBy l seen k v → SamplesBy l seen m w → found ≤ k + B → ((q : ℕ) → k < q → q < found → (seen q).level ≡ Recessive) → m < found + S
      → NoneSamples l seen k m
  none_before k found m v w first next near silent soon q more less u e = elim (cases_lt q found) [
    | inl before ↦
        (let a = silent_up k v first found near silent (q - suc k) (omega arith) in
        let f : suc k + (q - suc k) ≡ q = omega arith in
        let g : way (suc k + (q - suc k)) ≡ 0 = ap way f ∙ way_zero q u e in
        omega arith)
    | inr from ↦ (let a = samples_apart q m u w e next less in omega arith)
  ]
