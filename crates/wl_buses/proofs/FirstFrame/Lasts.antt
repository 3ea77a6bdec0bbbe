-- After which of its bits a station on a silent line begins a frame: after that with which it decides, or the last one whose sample comes before the edge.
use Rattle.std.proofs.Common.{◌≡◌, ◌∙◌, inl, inr, refl, ap, ℕ, suc, ◌+◌, ◌-◌, ◌*◌, ◌/◌, ◌<◌, ◌≤◌, Bool, true, false, Option, Some, None, arith}
use Rattle.std.proofs.lemmas.Bool.{cases_Bool}
use Rattle.std.proofs.Math.Nat.{div-mul-le_self, lt-div-mul-add}
use Rattle.wl_segments.specs.Lengths.{bit_quanta, sample_at}
use Rattle.wl_buses.specs.OneFrame.Stations.{AreOnALine, Stations}
use Rattle.wl_buses.specs.FirstFrame.FirstStarts.{hard_from}
use Rattle.wl_buses.proofs.FirstFrame.Reaching as reaching
use Rattle.wl_buses.proofs.FirstFrame.Reaching.{IsSilence, Silence}

module _ (w : Silence) (line : AreOnALine w.stations) (are : IsSilence w) where
  abbrev s : Stations
  s = w.stations

  abbrev S : ℕ → ℕ
  S i = sample_at (s.lengths i)

  abbrev B : ℕ → ℕ
  B i = bit_quanta (s.lengths i)

  abbrev begins : ℕ → Bool
  begins = reaching.begins w line are

  abbrev edge : ℕ → Option ℕ
  edge = reaching.edge w line are

  abbrev from : ℕ → ℕ
  from i = hard_from (w.due i) (edge i)

  -- how each station counts its bits: place 0 of the first of them, the bit with which it decides, the last one before it begins, and place 0 of that
  pub record Bits : Type 0 where
    pub place : ℕ → ℕ
    pub decides : ℕ → ℕ
    pub last : ℕ → ℕ
    pub rest : ℕ → ℕ
    pub due : (i : ℕ) → w.due i ≡ place i + suc (decides i) * B i
    pub decision : (i : ℕ) → w.decision i ≡ place i + decides i * B i + S i
    pub rested : (i : ℕ) → place i + S i ≤ w.rested i
    pub last_own : (i : ℕ) → begins i ≡ true → last i ≡ decides i
    pub last_other : (i : ℕ) → begins i ≡ false → last i ≡ (from i - suc (place i + S i)) / B i
    pub rest_is : (i : ℕ) → rest i ≡ place i + last i * B i

  module _ (x : Bits) where
    pub record IsLast (i : ℕ) : Type 0 where
      pub before : x.rest i + S i < from i
      pub next : from i ≤ x.rest i + S i + B i
      pub own : begins i ≡ true → from i ≤ x.rest i + B i

    pub rest_begins : (i : ℕ) → begins i ≡ true → (x.rest i + S i ≡ w.decision i) × (x.rest i + B i ≡ w.due i)
    rest_begins i e =
        let f : x.rest i ≡ x.place i + x.decides i * B i = x.rest_is i ∙ ap (λ n. x.place i + n * B i) (x.last_own i e) in
        let more : suc (x.decides i) * B i ≡ x.decides i * B i + B i = omega arith in
        let due = x.due i in
        let decision = x.decision i in
        (omega arith, omega arith)

    at_own : (i : ℕ) → i < s.count → begins i ≡ true → (op : Option ℕ) → edge i ≡ op → IsLast i
    at_own i inside e None none =
        (let rest = rest_begins i e in
        let y = rest.1 in
        let low = (line.book i inside).lengths.ps2_low in
        let from_due : from i ≡ w.due i = ap (hard_from (w.due i)) none in
        record { before = omega arith; next = omega arith; own = λ h. omega arith })
    at_own i inside e (Some q) found =
        (let has = reaching.begins_has w line are i e in
        let rest = rest_begins i e in
        let y = rest.0 in
        let z = rest.1 in
        let f = reaching.found_is w line are i q found in
        let after = reaching.after_decision w line are i q inside e f in
        let by = reaching.by_due w line are i q has f in
        let from_edge : from i ≡ q = ap (hard_from (w.due i)) found in
        record { before = omega arith; next = omega arith; own = λ h. omega arith })

    at_other : (i : ℕ) → i < s.count → begins i ≡ false → (op : Option ℕ) → edge i ≡ op → IsLast i × (w.rested i < from i)
    at_other i inside e None none = (let yes = reaching.alone_begins w line are i inside none in cc)
    at_other i inside e (Some q) found =
        (let f = reaching.found_is w line are i q found in
        let from_edge : from i ≡ q = ap (hard_from (w.due i)) found in
        let after = reaching.after_rested w line are i q inside f in
        let rested = x.rested i in
        let long : 0 < B i = (let l = (line.book i inside).lengths.low in omega arith) in
        let rest : x.rest i ≡ x.place i + (q - suc (x.place i + S i)) / B i * B i =
        x.rest_is i ∙ ap (λ n. x.place i + n * B i) (x.last_other i e ∙ ap (λ n. (n - suc (x.place i + S i)) / B i) from_edge) in
        let low = div-mul-le_self (q - suc (x.place i + S i)) (B i) in
        let high = lt-div-mul-add {a = q - suc (x.place i + S i)} {b = B i} long in
        (record { before = omega arith; next = omega arith; own = λ h. cc }, omega arith))

    pub last_at : (i : ℕ) → i < s.count → IsLast i
    last_at i inside = elim (cases_Bool (begins i)) [
      | inl own ↦ at_own i inside own (edge i) refl
      | inr other ↦ (at_other i inside other (edge i) refl).0
    ]

    -- one that begins none by itself rests before the edge
    pub rested_before : (i : ℕ) → i < s.count → begins i ≡ false → w.rested i < from i
    rested_before i inside other = (at_other i inside other (edge i) refl).1
