-- The way to the next sample on a recessive line, where no quantum finds an edge.
use Rattle.std.proofs.Common.{◌≡◌, ℕ, suc, ◌+◌, ◌-◌, ◌<◌, ◌≤◌, ◌⊎◌, inl, inr, ◌∙◌, List, [], ◌∷◌, ◌++◌, length, Bool, true, false, cond, Option, Some, None, refl, sym, ap, subst, arith}
use Rattle.std.specs.Prelude.{◌==◌, nat_lt, nat_le}
use Rattle.std.proofs.lemmas.Bool.{ltb-true, leb-true, leb-false, lt-leb, ne_eqb, eqb-true, eqb-false, or_parts}
use Rattle.wl_level.specs.declared.Level.{Level}
use Rattle.wl_level.specs.declared.Level.TheVariants.{Recessive}
use Rattle.wl_level.specs.Places.{PlaceLaws, first_place}
use Rattle.wl_segments.specs.declared.SyncRules.{SyncRules}
use Rattle.wl_segments.specs.declared.SyncRules.TheVariants.{After, Book}
use Rattle.wl_segments.specs.Lengths.{Lengths, sample_at, bit_quanta}
use Rattle.wl_sync.specs.declared.Beat.TheVariants.{Plain, Sample}
use Rattle.wl_sync.specs.Edges.{Seen, seen_as, longer_by, shorter_by}
use Rattle.wl_sync.specs.Bits.{Bit, beat_of, bit_of, is_edge, sync_place}
use Rattle.wl_sync.specs.Running.{Running, clock_after}
use Rattle.wl_sync.specs.Steps.{end_of, running_edge, running_edge_by, running_moved, running_on, running_over, running_placed, running_restart, running_after}
use Rattle.wl_sync.specs.SampleLaws.{RecessiveLaws, recessive_rest, recessive_way, rest_of_bit}
use Rattle.wl_sync.specs.Skips.{moved_place, quanta_before_sample}
use Rattle.wl_sync.proofs.Cuts.{beat_next, clock_next}
use Rattle.wl_sync.proofs.Skips.{GoesOn, edge_lengths, goes_after, goes_beat}
use Rattle.wl_sync.proofs.Ways.{on_due, sampled_now}

-- before its sample and after it
ways : (r : Running)
    → ((r.quanta ≤ moved_place r) × ((quanta_before_sample r ≡ moved_place r - r.quanta) × (rest_of_bit r ≡ 0)))
    ⊎ ((moved_place r < r.quanta) × ((quanta_before_sample r ≡ end_of r - r.quanta + sample_at r.lengths) × (rest_of_bit r ≡ end_of r - r.quanta)))
ways r = by (nat_le r.quanta (moved_place r)) refl
  where
    by : (b : Bool) → nat_le r.quanta (moved_place r) ≡ b
        → ((r.quanta ≤ moved_place r)
        × ((cond b (moved_place r - r.quanta) (end_of r - r.quanta + sample_at r.lengths) ≡ moved_place r - r.quanta) × (cond b 0 (end_of r - r.quanta) ≡ 0)))
        ⊎ ((moved_place r < r.quanta)
        × ((cond b (moved_place r - r.quanta) (end_of r - r.quanta + sample_at r.lengths) ≡ end_of r - r.quanta + sample_at r.lengths)
        × (cond b 0 (end_of r - r.quanta) ≡ end_of r - r.quanta)))
    by true e = inl (leb-true r.quanta (moved_place r) e, (refl, refl))
    by false e = inr (leb-false r.quanta (moved_place r) e, (refl, refl))

-- where some of the bit is left its sample is past
rest_some : (r : Running) → 0 < rest_of_bit r → (moved_place r < r.quanta) × (r.quanta < end_of r)
rest_some r some = elim (ways r) [
  | inl on ↦ (let z = on.1.1 in absurd (omega arith))
  | inr past ↦ (let a = past.0 in let z = past.1.1 in (a, omega arith))
]

-- a bit is shorter only behind its sample
abbrev IsWhole : Running → Type 0
IsWhole r = r.quanta ≤ moved_place r → r.shorter ≡ 0

module _ (places : PlaceLaws) where
  -- a bit synchronises at its start, or at one of its quanta
  synced_inside : (l : Lengths) (bit : Bit) (k : ℕ) → sync_place l bit ≡ Some k → (k ≡ 0) ⊎ (k < length bit.seen)
  synced_inside l bit k = by bit.opening.synced
    where
      by : (b : Bool) → cond b (Some 0) (first_place (is_edge l bit) (length bit.seen)) ≡ Some k → (k ≡ 0) ⊎ (k < length bit.seen)
      by true e = inl cc
      by false e = inr ((places.found (is_edge l bit) (length bit.seen) k).0 e).inside

  behind_it : (l : Lengths) (n k : ℕ) → (k ≡ 0) ⊎ (k < n) → n ≤ sample_at l + longer_by l (Some k) → (b : Bool) → nat_lt (sample_at l) k ≡ b → cond b l.sjw 0 ≡ 0
  behind_it l n k at less false f = refl
  behind_it l n k at less true f =
      let behind = ltb-true (sample_at l) k f in
      let none : longer_by l (Some k) ≡ 0 = rw (lt-leb k (sample_at l) behind) refl in
      elim at [
        | inl first ↦ absurd (omega arith)
        | inr inside ↦ absurd (omega arith)
      ]

  whole_bit : (l : Lengths) (bit : Bit) → length bit.seen ≤ sample_at l + longer_by l (sync_place l bit) → shorter_by l (sync_place l bit) ≡ 0
  whole_bit l bit = by (sync_place l bit) refl
    where
      by : (o : Option ℕ) → sync_place l bit ≡ o → length bit.seen ≤ sample_at l + longer_by l o → shorter_by l o ≡ 0
      by None e less = refl
      by (Some k) e less = behind_it l (length bit.seen) k (synced_inside l bit k e) less (nat_lt (sample_at l) k) refl

  whole : (l : Lengths) (past : List Seen) → IsWhole (clock_after l past)
  whole l past = whole_bit l (bit_of l past)

-- the first quantum of a bit that no edge begins
record IsFirst (r s : Running) : Type 0 where
  lengths : s.lengths ≡ r.lengths
  quanta : s.quanta ≡ 1
  longer : s.longer ≡ 0

-- the next one of a bit that no edge moves
record IsNext (r s : Running) : Type 0 where
  lengths : s.lengths ≡ r.lengths
  quanta : s.quanta ≡ r.quanta + 1
  longer : s.longer ≡ r.longer
  shorter : s.shorter ≡ r.shorter

-- a recessive quantum, by the rules
abbrev passed : SyncRules → Running → Running
passed s r = running_over s (running_edge_by s r) (running_moved (running_edge_by s r) false false Recessive) false Recessive

first : (s : SyncRules) (r : Running) → (r.quanta == end_of r) ≡ true → IsFirst r (passed s r)
first After r e = record { lengths = rw e refl; quanta = rw e refl; longer = rw e refl }
first Book r e = record { lengths = rw e refl; quanta = rw e refl; longer = rw e refl }

next : (s : SyncRules) (r : Running) → (r.quanta == end_of r) ≡ false → IsNext r (passed s r)
next After r e = record { lengths = rw e refl; quanta = rw e refl; longer = rw e refl; shorter = rw e refl }
next Book r e = record { lengths = rw e refl; quanta = rw e refl; longer = rw e refl; shorter = rw e refl }

module _ (r : Running) (idle awaits integrates driving : Bool) where
  abbrev after : Running
  after = running_after r (seen_as Recessive idle awaits integrates driving)

  after_is : after ≡ passed r.lengths.sync r
  after_is =
      ap (λ (l : Lengths). running_over l.sync (running_edge r) (running_moved (running_edge r) false false Recessive) false Recessive) (edge_lengths r.lengths.sync r)

  -- it begins a bit, or goes on
  either : ((r.quanta ≡ end_of r) × IsFirst r after) ⊎ IsNext r after
  either = by (r.quanta == end_of r) refl
    where
      by : (b : Bool) → (r.quanta == end_of r) ≡ b → ((r.quanta ≡ end_of r) × IsFirst r after) ⊎ IsNext r after
      by true e = inl (eqb-true r.quanta (end_of r) e, subst (IsFirst r) (sym after_is) (first r.lengths.sync r e))
      by false e = inr (subst (IsNext r) (sym after_is) (next r.lengths.sync r e))

near_first : (r s : Running) → IsWhole r → r.quanta ≡ end_of r → IsFirst r s → quanta_before_sample r ≤ suc (quanta_before_sample s)
near_first r s whole over is =
    let lengths : sample_at s.lengths ≡ sample_at r.lengths = ap sample_at is.lengths in
    let q = is.quanta in
    let j = is.longer in
    elim (ways s) [
      | inr past ↦ (let a = past.0 in absurd (omega arith))
      | inl new ↦ (let n = new.1.0 in elim (ways r) [
        | inr past ↦ (let e = past.1.0 in omega arith)
        | inl on ↦ (let e = on.1.0 in let w = whole on.0 in omega arith)
      ])
    ]

near_next : (r s : Running) → IsNext r s → quanta_before_sample r ≤ suc (quanta_before_sample s)
near_next r s is =
    let lengths : sample_at s.lengths ≡ sample_at r.lengths = ap sample_at is.lengths in
    let ends : s.lengths.ps2 ≡ r.lengths.ps2 = ap (λ l. l.ps2) is.lengths in
    let q = is.quanta in
    let j = is.longer in
    let k = is.shorter in
    elim (ways r) [
      | inr past ↦ (let a = past.0 in let e = past.1.0 in elim (ways s) [
        | inr still ↦ (let f = still.1.0 in omega arith)
        | inl on ↦ (let b = on.0 in absurd (omega arith))
      ])
      | inl on ↦ (let a = on.0 in let e = on.1.0 in elim (ways s) [
        | inr past ↦ (let b = past.0 in omega arith)
        | inl still ↦ (let f = still.1.0 in omega arith)
      ])
    ]

module _ (places : PlaceLaws) (l : Lengths) (past : List Seen) (idle awaits integrates driving : Bool) where
  abbrev x : Seen
  x = seen_as Recessive idle awaits integrates driving

  abbrev clock : Running
  clock = clock_after l past

  next_clock : clock_after l (past ++ x ∷ []) ≡ running_after clock x
  next_clock = clock_next l past x

  near : recessive_way l past ≤ suc (recessive_way l (past ++ x ∷ []))
  near =
      subst (λ s. suc (quanta_before_sample clock) ≤ suc (suc (quanta_before_sample s))) (sym next_clock)
      (elim (either clock idle awaits integrates driving) [
        | inl over ↦ (let e = near_first clock (running_after clock x) (whole places l past) over.0 over.1 in omega arith)
        | inr on ↦ (let e = near_next clock (running_after clock x) on in omega arith)
      ])

  module _ (level : Level) (is : beat_of l past x ≡ Sample level) where
    -- the sample begins no bit
    goes : IsNext clock (running_after clock x)
    goes = elim (either clock idle awaits integrates driving) [
      | inl over ↦
          (let none = (sampled_now l past x level is).0 in
          absurd (eqb-false (running_after clock x).quanta 1 (or_parts (running_restart (running_edge clock) x) _ none).1 over.1.quanta))
      | inr on ↦ on
    ]

    at_place : clock.quanta ≡ moved_place clock
    at_place =
        let now = sampled_now l past x level is in
        let e = now.1 in
        let f : (running_after clock x).longer ≡ (running_placed clock x).longer =
        ap (λ q. (running_placed q x).longer) (on_due l past x now.0) in
        let j = goes.longer in
        omega arith

    last : recessive_way l past ≡ 1
    last = (let e = at_place in elim (ways clock) [
      | inl on ↦ (let f = on.1.0 in omega arith)
      | inr past ↦ (let a = past.0 in absurd (omega arith))
    ])

    -- what is left of the bit behind it, and of the way to the next one
    left : (l.ps2 ≤ suc (rest_of_bit (running_after clock x))) × (bit_quanta l ≤ suc (quanta_before_sample (running_after clock x)))
    left =
        let on = goes in
        let lengths : sample_at (running_after clock x).lengths ≡ sample_at clock.lengths = ap sample_at on.lengths in
        let ends : (running_after clock x).lengths.ps2 ≡ clock.lengths.ps2 = ap (λ l. l.ps2) on.lengths in
        let q = on.quanta in
        let j = on.longer in
        let k = on.shorter in
        let e = at_place in
        let w = whole places l past (omega arith) in
        elim (ways (running_after clock x)) [
          | inl still ↦ (let a = still.0 in absurd (omega arith))
          | inr behind ↦ (let f = behind.1.0 in let g = behind.1.1 in (omega arith, omega arith))
        ]

    later : bit_quanta l ≤ recessive_way l (past ++ x ∷ [])
    later = subst (λ s. bit_quanta l ≤ suc (quanta_before_sample s)) (sym next_clock) left.1

    behind : l.ps2 ≤ suc (recessive_rest l (past ++ x ∷ []))
    behind = subst (λ s. l.ps2 ≤ suc (rest_of_bit s)) (sym next_clock) left.0

  module _ (some : 0 < recessive_rest l past) where
    inside : GoesOn clock x
    inside =
        let past_it = rest_some clock some in
        let later = past_it.0 in
        record { no_edge = refl; begun = omega arith; inside = past_it.1 }

    plain : beat_of l past x ≡ Plain
    plain =
        beat_next l past x ∙ goes_beat clock x inside
        ∙ ap (λ b. cond b (Sample Recessive) Plain) (let later = (rest_some clock some).0 in ne_eqb clock.quanta (moved_place clock) (λ e. omega arith))

    rest : recessive_rest l past ≤ suc (recessive_rest l (past ++ x ∷ []))
    rest =
        subst (λ s. rest_of_bit clock ≤ suc (rest_of_bit s)) (sym (next_clock ∙ goes_after clock x inside))
        (let later = (rest_some clock some).0 in
        elim (ways clock) [
          | inl on ↦ (let a = on.0 in absurd (omega arith))
          | inr past ↦ (let e = past.1.1 in elim (ways (running_on clock Recessive)) [
            | inl on ↦ (let a = on.0 in absurd (omega arith))
            | inr still ↦ (let f = still.1.1 in omega arith)
          ])
        ])

pub recessive_laws : PlaceLaws → RecessiveLaws
recessive_laws places = record {
  near = near places;
  last = last places;
  next = later places;
  behind = behind places;
  plain = plain places;
  rest = rest places;
}
