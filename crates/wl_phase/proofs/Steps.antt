-- One quantum of a bit clock by the rules of the book, and what it does to the way to the next sample.
use Rattle.std.proofs.Common.{◌≡◌, ◌≢◌, ℕ, suc, ◌+◌, ◌-◌, ◌<◌, ◌≤◌, ◌∙◌, inl, inr, Bool, true, false, cond, not, ◌&&◌, ◌||◌, refl, sym, ap, subst, arith, min}
use Rattle.std.specs.Prelude.{◌==◌, nat_lt, nat_le}
use Rattle.std.proofs.lemmas.Bool.{eqb-true, eqb-false, eq-eqb, ne_eqb, le-leb, lt-leb, and_left, and_parts, and_right, or_parts, cond_both, cases_lt, cases_eq}
use Rattle.wl_segments.specs.declared.SyncRules.{SyncRules}
use Rattle.wl_segments.specs.declared.SyncRules.TheVariants.{After, Book}
use Rattle.wl_segments.specs.Lengths.{Lengths, sample_at, bit_quanta, found_by, found_at}
use Rattle.wl_sync.specs.declared.Seen.{Seen}
use Rattle.wl_sync.specs.Edges.{again_by, is_hard_edge, edge_restarts}
use Rattle.wl_sync.specs.Running.{Running}
use Rattle.wl_sync.specs.Steps.{end_of, running_edge, running_edge_by, running_sync, running_restart, running_moved, running_over, running_first, running_on, running_placed, running_after}
use Rattle.wl_sync.specs.Skips.{moved_place, quanta_before_sample}
use Rattle.wl_phase.specs.Ways.{ByTheBook, moved_to}

-- what holds of every bit clock by the book
pub record IsValid (r : Running) : Type 0 where
  pub lengths : ByTheBook r.lengths
  pub begun : 0 < r.quanta
  pub inside : r.quanta ≤ end_of r
  pub fresh_longer : r.synced ≡ false → r.longer ≡ 0
  pub fresh_shorter : r.synced ≡ false → r.shorter ≡ 0
  pub unshortened : r.quanta ≤ moved_place r → r.shorter ≡ 0
  pub shorter : r.shorter < r.lengths.ps2

pub found_one : (l : Lengths) → ByTheBook l → found_at l ≡ 1
found_one l h =
    let g = h.lengths.prop_low in
    let e : min 1 (l.prop + l.ps1) ≡ 1 = omega arith in
    ap (λ s. min (found_by s) (l.prop + l.ps1)) h.book ∙ e

-- the way, before the sample and after it
pub way_before : (r : Running) → r.quanta ≤ moved_place r → quanta_before_sample r ≡ moved_place r - r.quanta
way_before r h = rw (le-leb r.quanta (moved_place r) h) refl

pub way_past : (r : Running) → moved_place r < r.quanta → quanta_before_sample r ≡ end_of r - r.quanta + sample_at r.lengths
way_past r h = rw (lt-leb r.quanta (moved_place r) h) refl

module _ (r : Running) (x : Seen) where
  after_is : r.lengths.sync ≡ Book
      → running_after r x ≡ running_over Book r (running_moved r (running_sync r x) (running_restart r x) x.level) (running_restart r x) x.level
  after_is e =
      ap (λ s. running_placed (running_edge_by s r) x) e
      ∙ ap (λ s. running_over s r (running_moved r (running_sync r x) (running_restart r x) x.level) (running_restart r x) x.level) e

  pub edge_is : r.lengths.sync ≡ Book → running_edge r ≡ r
  edge_is e = ap (λ s. running_edge_by s r) e

  -- no edge counts
  pub none_is : r.lengths.sync ≡ Book → running_sync r x ≡ false
      → running_after r x ≡ cond (r.quanta == end_of r) (running_first r x.level) (running_on r x.level)
  none_is e f =
      after_is e
      ∙ ap (λ c. running_over Book r (running_moved r c (c && edge_restarts r.lengths x r.quanta) x.level) (c && edge_restarts r.lengths x r.quanta) x.level) f

  -- an edge begins a bit anew
  abbrev pub restarted : Running
  restarted = record { lengths = r.lengths; quanta = suc (found_at r.lengths); longer = 0; shorter = 0; synced = true; level = x.level; sample = r.sample }

  pub restart_is : r.lengths.sync ≡ Book → running_restart r x ≡ true → running_after r x ≡ restarted
  restart_is e f = after_is e ∙ ap (λ b. running_over Book r (running_moved r (running_sync r x) b x.level) b x.level) f

  -- an edge moves the sample or the end
  pub moved_is : r.lengths.sync ≡ Book → running_sync r x ≡ true → running_restart r x ≡ false
      → running_after r x ≡ running_over Book r (running_moved r true false x.level) false x.level
  moved_is e f g =
      after_is e ∙ ap (λ c. running_over Book r (running_moved r c (running_restart r x) x.level) (running_restart r x) x.level) f
      ∙ ap (λ b. running_over Book r (running_moved r true b x.level) b x.level) g

  abbrev pub late : Running
  late = record { lengths = r.lengths; quanta = r.quanta + 1; longer = min (r.quanta - 1) r.lengths.sjw; shorter = 0; synced = true; level = x.level; sample = r.sample }

  abbrev pub early : Running
  early = record { lengths = r.lengths; quanta = r.quanta + 1; longer = 0; shorter = r.lengths.sjw; synced = true; level = x.level; sample = r.sample }

-- what every step leaves, where the way is n after it
pub record Leaves (r : Running) (x : Seen) (n : ℕ) (s : Running) : Type 0 where
  pub valid : IsValid s
  pub lengths : s.lengths ≡ r.lengths
  pub level : s.level ≡ x.level
  pub way : quanta_before_sample s ≡ n

-- and where no edge counts
pub record Passes (r : Running) (x : Seen) (s : Running) : Type 0 where
  pub sampled : quanta_before_sample r ≡ 0 → (s.sample ≡ x.level) × (moved_place s < s.quanta) × (s.synced ≡ r.synced)
  pub unsampled : 0 < quanta_before_sample r → s.sample ≡ r.sample
  pub once : s.synced ≡ true → (r.synced ≡ true) × (moved_place r < r.quanta → moved_place s < s.quanta)

abbrev pub way_none : Running → ℕ
way_none r = cond (quanta_before_sample r == 0) (bit_quanta r.lengths - 1) (quanta_before_sample r - 1)

way_none_zero : (r : Running) → quanta_before_sample r ≡ 0 → way_none r ≡ bit_quanta r.lengths - 1
way_none_zero r e = rw (eq-eqb (quanta_before_sample r) 0 e) refl

way_none_more : (r : Running) → 0 < quanta_before_sample r → way_none r ≡ quanta_before_sample r - 1
way_none_more r h = rw (ne_eqb (quanta_before_sample r) 0 (λ e. omega arith)) refl

-- from a sample's quantum, and from any other
pub zero_is : (r : Running) → IsValid r → quanta_before_sample r ≡ 0 → r.quanta ≡ moved_place r
zero_is r h e = elim (cases_lt (moved_place r) r.quanta) [
  | inl past ↦ (let f = way_past r past in absurd (omega arith))
  | inr before ↦ (let f = way_before r before in omega arith)
]

pub more_is : (r : Running) → 0 < quanta_before_sample r → r.quanta ≢ moved_place r
more_is r h e = (let f = way_before r (let g : r.quanta ≤ moved_place r = omega arith in g) in omega arith)

first_leaves : (r : Running) (x : Seen) → IsValid r → r.quanta ≡ end_of r → Leaves r x (way_none r) (running_first r x.level)
first_leaves r x h e =
    let low = h.lengths.lengths.ps2_low in
    let small = h.shorter in
    let past : moved_place r < r.quanta = omega arith in
    let way = way_past r past in
    let more = way_none_more r (omega arith) in
    let new = way_before (running_first r x.level) (omega arith) in
    record {
      valid = record {
        lengths = h.lengths;
        begun = omega arith;
        inside = omega arith;
        fresh_longer = λ f. refl;
        fresh_shorter = λ f. refl;
        unshortened = λ f. refl;
        shorter = omega arith;
      };
      lengths = refl;
      level = refl;
      way = omega arith;
    }

first_passes : (r : Running) (x : Seen) → IsValid r → r.quanta ≡ end_of r → Passes r x (running_first r x.level)
first_passes r x h e = record {
  sampled = λ f. (let low = h.lengths.lengths.ps2_low in let small = h.shorter in let g = zero_is r h f in absurd (omega arith));
  unsampled = λ f. refl;
  once = λ f. cc;
}

on_valid : (r : Running) (x : Seen) → IsValid r → r.quanta ≢ end_of r → IsValid (running_on r x.level)
on_valid r x h e =
    let inside = h.inside in
    record {
      lengths = h.lengths;
      begun = omega arith;
      inside = omega arith;
      fresh_longer = h.fresh_longer;
      fresh_shorter = h.fresh_shorter;
      unshortened = λ f. h.unshortened (omega arith);
      shorter = h.shorter;
    }

on_way : (r : Running) (x : Seen) → IsValid r → r.quanta ≢ end_of r → quanta_before_sample (running_on r x.level) ≡ way_none r
on_way r x h e = elim (cases_eq r.quanta (moved_place r)) [
  | inl at ↦ (let way = way_before r (omega arith) in
      let zero = way_none_zero r (omega arith) in
      let none = h.unshortened (omega arith) in
      let low = h.lengths.lengths.ps2_low in
      let new = way_past (running_on r x.level) (omega arith) in
      omega arith)
  | inr apart ↦ elim (cases_lt (moved_place r) r.quanta) [
    | inl past ↦ (let way = way_past r past in
        let inside = h.inside in
        let more = way_none_more r (omega arith) in
        let new = way_past (running_on r x.level) (omega arith) in
        omega arith)
    | inr before ↦ (let way = way_before r before in
        let more = way_none_more r (omega arith) in
        let new = way_before (running_on r x.level) (omega arith) in
        omega arith)
  ]
]

on_leaves : (r : Running) (x : Seen) → IsValid r → r.quanta ≢ end_of r → Leaves r x (way_none r) (running_on r x.level)
on_leaves r x h e = record { valid = on_valid r x h e; lengths = refl; level = refl; way = on_way r x h e }

on_passes : (r : Running) (x : Seen) → IsValid r → Passes r x (running_on r x.level)
on_passes r x h = record {
  sampled = λ f. (let g = zero_is r h f in (rw (eq-eqb r.quanta (moved_place r) g) refl, omega arith, refl));
  unsampled = λ f. rw (ne_eqb r.quanta (moved_place r) (more_is r f)) refl;
  once = λ f. (f, λ g. omega arith);
}

-- no edge counts
pub none_leaves : (r : Running) (x : Seen) → IsValid r → running_sync r x ≡ false → Leaves r x (way_none r) (running_after r x)
none_leaves r x h f =
    subst (Leaves r x (way_none r)) (sym (none_is r x h.lengths.book f))
    (cond_both (r.quanta == end_of r) _ _ (Leaves r x (way_none r)) (λ e. first_leaves r x h (eqb-true r.quanta (end_of r) e))
    (λ e. on_leaves r x h (eqb-false r.quanta (end_of r) e)))

pub none_passes : (r : Running) (x : Seen) → IsValid r → running_sync r x ≡ false → Passes r x (running_after r x)
none_passes r x h f =
    subst (Passes r x) (sym (none_is r x h.lengths.book f))
    (cond_both (r.quanta == end_of r) _ _ (Passes r x) (λ e. first_passes r x h (eqb-true r.quanta (end_of r) e)) (λ e. on_passes r x h))

-- a node that doesn't synchronise hard synchronises a bit once
soft_once : (s : SyncRules) (hard integrates : Bool) → hard ≡ false → again_by s hard integrates ≡ false
soft_once After hard integrates e = refl
soft_once Book hard integrates e = and_left _ _ e

fresh_by : (synced again : Bool) → (not synced || again) ≡ true → again ≡ false → synced ≡ false
fresh_by true again e f = cc
fresh_by false again e f = refl

-- so its edge counts in a bit that has not synchronised, and that nothing moved
pub sync_fresh : (r : Running) (x : Seen) → running_sync r x ≡ true → is_hard_edge r.lengths.sync x ≡ false → r.synced ≡ false
sync_fresh r x e f =
    fresh_by r.synced (again_by r.lengths.sync (is_hard_edge r.lengths.sync x) x.integrates) (and_parts _ _ e).1
    (soft_once r.lengths.sync (is_hard_edge r.lengths.sync x) x.integrates f)

-- nor does one whose edge begins no bit again
going_by : (counts hard near : Bool) → counts ≡ true → (counts && (hard || near)) ≡ false → hard ≡ false
going_by true hard near e f = (or_parts hard near f).0
going_by false hard near e f = cc

pub going_soft : (r : Running) (x : Seen) → running_sync r x ≡ true → running_restart r x ≡ false → is_hard_edge r.lengths.sync x ≡ false
going_soft r x e f =
    going_by (running_sync r x) (is_hard_edge r.lengths.sync x)
    (nat_lt (sample_at r.lengths) r.quanta && nat_le (found_at r.lengths + bit_quanta r.lengths - r.quanta) r.lengths.sjw) e f

pub synced_not : (r : Running) (x : Seen) → r.synced ≡ true → is_hard_edge r.lengths.sync x ≡ false → running_sync r x ≡ false
synced_not r x e f =
    and_right _ _
    (ap (λ b. not b || again_by r.lengths.sync (is_hard_edge r.lengths.sync x) x.integrates) e
    ∙ soft_once r.lengths.sync (is_hard_edge r.lengths.sync x) x.integrates f)

-- a bit begins anew
pub restart_leaves : (r : Running) (x : Seen) → IsValid r → Leaves r x (sample_at r.lengths - 2) (restarted r x)
restart_leaves r x h =
    let one = found_one r.lengths h.lengths in
    let low = h.lengths.lengths.ps2_low in
    let a = h.lengths.lengths.prop_low in
    let b = h.lengths.lengths.ps1_low in
    let new = way_before (restarted r x) (omega arith) in
    record {
      valid = record {
        lengths = h.lengths;
        begun = omega arith;
        inside = omega arith;
        fresh_longer = λ f. refl;
        fresh_shorter = λ f. refl;
        unshortened = λ f. refl;
        shorter = omega arith;
      };
      lengths = refl;
      level = refl;
      way = omega arith;
    }

pub hard_leaves : (r : Running) (x : Seen) → IsValid r → running_sync r x ≡ true → is_hard_edge r.lengths.sync x ≡ true
    → Leaves r x (sample_at r.lengths - 2) (running_after r x)
hard_leaves r x h f g = subst (Leaves r x (sample_at r.lengths - 2)) (sym (restart_is r x h.lengths.book (rw (f, g) refl))) (restart_leaves r x h)

-- the way that an edge leaves
abbrev pub way_moved : Running → ℕ
way_moved r = moved_to (sample_at r.lengths - 1) r.lengths.sjw (quanta_before_sample r) - 1

-- the edge is late: it is found before the sample or by its quantum
pub late_leaves : (r : Running) (x : Seen) → IsValid r → r.synced ≡ false → r.quanta ≤ sample_at r.lengths → Leaves r x (way_moved r) (late r x)
late_leaves r x h f before =
    let none = h.fresh_longer f in
    let begun = h.begun in
    let a = h.lengths.lengths.prop_low in
    let b = h.lengths.lengths.ps1_low in
    let c = h.lengths.lengths.sjw_low in
    let low = h.lengths.lengths.ps2_low in
    let way = way_before r (omega arith) in
    let new = way_before (late r x) (omega arith) in
    record {
      valid = record {
        lengths = h.lengths;
        begun = omega arith;
        inside = omega arith;
        fresh_longer = λ e. cc;
        fresh_shorter = λ e. refl;
        unshortened = λ e. refl;
        shorter = omega arith;
      };
      lengths = refl;
      level = refl;
      way = omega arith;
    }

-- it is early by more than the jump width
pub early_leaves : (r : Running) (x : Seen) → IsValid r → r.synced ≡ false → sample_at r.lengths < r.quanta
    → r.lengths.sjw < 1 + bit_quanta r.lengths - r.quanta → r.quanta ≢ end_of (early r x) → Leaves r x (way_moved r) (early r x)
early_leaves r x h f past far apart =
    let none = h.fresh_longer f in
    let also = h.fresh_shorter f in
    let way = way_past r (omega arith) in
    let new = way_past (early r x) (omega arith) in
    record {
      valid = record {
        lengths = h.lengths;
        begun = omega arith;
        inside = omega arith;
        fresh_longer = λ e. refl;
        fresh_shorter = λ e. cc;
        unshortened = λ e. absurd (omega arith);
        shorter = omega arith;
      };
      lengths = refl;
      level = refl;
      way = omega arith;
    }

-- and the bit is over then
pub over_leaves : (r : Running) (x : Seen) → IsValid r → r.synced ≡ false → sample_at r.lengths < r.quanta
    → r.lengths.sjw < 1 + bit_quanta r.lengths - r.quanta → r.quanta ≡ end_of (early r x) → Leaves r x (way_moved r) (running_first r x.level)
over_leaves r x h f past far e =
    let none = h.fresh_longer f in
    let also = h.fresh_shorter f in
    let low = h.lengths.lengths.ps2_low in
    let way = way_past r (omega arith) in
    let new = way_before (running_first r x.level) (omega arith) in
    record {
      valid = record {
        lengths = h.lengths;
        begun = omega arith;
        inside = omega arith;
        fresh_longer = λ g. refl;
        fresh_shorter = λ g. refl;
        unshortened = λ g. refl;
        shorter = omega arith;
      };
      lengths = refl;
      level = refl;
      way = omega arith;
    }

-- it is early by no more
pub near_leaves : (r : Running) (x : Seen) → IsValid r → r.synced ≡ false → sample_at r.lengths < r.quanta
    → 1 + bit_quanta r.lengths - r.quanta ≤ r.lengths.sjw → Leaves r x (way_moved r) (restarted r x)
near_leaves r x h f past near =
    let none = h.fresh_longer f in
    let also = h.fresh_shorter f in
    let inside = h.inside in
    let a = h.lengths.lengths.prop_low in
    let b = h.lengths.lengths.ps1_low in
    let way = way_past r (omega arith) in
    let same : sample_at r.lengths - 2 ≡ way_moved r = omega arith in
    subst (λ n. Leaves r x n (restarted r x)) same (restart_leaves r x h)
