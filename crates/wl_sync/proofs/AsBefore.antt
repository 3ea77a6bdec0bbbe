-- Where SYNC_SEG comes after an edge, each rule is what it is without the choice.
use Rattle.std.proofs.Common.{◌≡◌, ◌≢◌, ℕ, suc, ◌+◌, ◌-◌, ◌∙◌, Bool, true, false, cond, ◌&&◌, ◌||◌, not, Some, refl, sym, ap, arith, min}
use Rattle.std.specs.Prelude.{pos, ◌-ℤ◌, ◌==◌, nat_lt, nat_le}
use Rattle.std.proofs.lemmas.Bool.{and_right, eqb-false, le-leb, lt-leb, ltb-false, ltb-true}
use Rattle.wl_level.specs.declared.Level.{Level}
use Rattle.wl_level.specs.Levels.{is_dominant}
use Rattle.wl_segments.specs.declared.SyncRules.TheVariants.{After}
use Rattle.wl_segments.specs.Lengths.{Lengths, sample_at, bit_quanta, found_by, found_at}
use Rattle.wl_sync.specs.Edges.{Seen, is_hard_edge, looks, restarts_at, edge_counts, edge_restarts, phase_error, longer_by}
use Rattle.wl_sync.specs.Bits.{Bit, due_bit, edge_bit, edge_bit_by, going_on}
use Rattle.wl_sync.specs.Running.{Running}
use Rattle.wl_sync.specs.Steps.{running_due, running_edge, running_edge_by, running_sync, running_restart, running_moved, running_over, running_placed}

-- before a place, or at it, is before it where it isn't that
le_apart : (k s : ℕ) → (k == s) ≡ false → nat_le k s ≡ nat_lt k s
le_apart k s e = by (nat_lt k s) refl
  where
    differs : k ≢ s
    differs = eqb-false k s e

    by : (b : Bool) → nat_lt k s ≡ b → nat_le k s ≡ nat_lt k s
    by true f = le-leb k s (let g = ltb-true k s f in omega arith) ∙ sym f
    by false f = lt-leb k s (let g = ltb-false k s f in let d = differs in omega arith) ∙ sym f

late_apart : (p a d n : Bool) (k s : ℕ)
    → ((p && not (k == s)) && not (((a && nat_le k s) && d) && n)) ≡ ((p && not (k == s)) && not (((a && nat_lt k s) && d) && n))
late_apart p a d n k s = by (k == s) refl
  where
    by : (b : Bool) → (k == s) ≡ b
        → ((p && not (k == s)) && not (((a && nat_le k s) && d) && n)) ≡ ((p && not (k == s)) && not (((a && nat_lt k s) && d) && n))
    by true e = rw (e, and_right p false refl) refl
    by false e = ap (λ c. (p && not (k == s)) && not (((a && c) && d) && n)) (le_apart k s e)

module _ (l : Lengths) (h : l.sync ≡ After) where
  found_none : found_at l ≡ 0
  found_none = (let e : found_by l.sync ≡ 0 = ap found_by h in omega arith)

  place_same : (k : ℕ) → k - found_at l ≡ k
  place_same k = (let e = found_none in omega arith)

  quanta_same : found_at l + bit_quanta l ≡ bit_quanta l
  quanta_same = (let e = found_none in omega arith)

  counts_as_before : (x : Seen) (before sample : Level) (k : ℕ) → edge_counts l x before sample k
      ≡ (is_dominant x.level && not (is_dominant before) && not (is_dominant sample) && not (k == sample_at l)
      && not (nat_lt 0 k && nat_lt k (sample_at l) && x.driving && not x.idle))
  counts_as_before x before sample k =
      ap (λ s. is_dominant x.level && not (is_dominant before) && not (is_dominant sample) && looks s (sample_at l) k
      && not (nat_lt (found_at l) k && nat_le k (sample_at l) && x.driving && not (is_hard_edge s x))) h
      ∙ ap (λ n. is_dominant x.level && not (is_dominant before) && not (is_dominant sample) && not (k == sample_at l)
      && not (nat_lt n k && nat_le k (sample_at l) && x.driving && not x.idle)) found_none
      ∙ late_apart (is_dominant x.level && not (is_dominant before) && not (is_dominant sample)) (nat_lt 0 k) x.driving (not x.idle) k (sample_at l)

  error_as_before : (k : ℕ) → phase_error l k ≡ cond (nat_lt (sample_at l) k) (pos k -ℤ pos (bit_quanta l)) (pos k)
  error_as_before k =
      ap (λ n. cond (nat_lt (sample_at l) k) (pos k -ℤ pos n) (pos (k - found_at l))) quanta_same
      ∙ ap (λ n. cond (nat_lt (sample_at l) k) (pos k -ℤ pos (bit_quanta l)) (pos n)) (place_same k)

  restarts_as_before : (x : Seen) (k : ℕ) → edge_restarts l x k ≡ (x.idle || (nat_lt (sample_at l) k && nat_le (bit_quanta l - k) l.sjw))
  restarts_as_before x k = ap (λ s. restarts_at l (is_hard_edge s x) k) h ∙ ap (λ n. x.idle || (nat_lt (sample_at l) k && nat_le (n - k) l.sjw)) quanta_same

  longer_as_before : (k : ℕ) → (k == sample_at l) ≡ false → longer_by l (Some k) ≡ cond (nat_lt k (sample_at l)) (min k l.sjw) 0
  longer_as_before k e =
      ap (λ n. cond (nat_le k (sample_at l)) (min n l.sjw) 0) (place_same k) ∙ ap (λ b. cond b (min k l.sjw) 0) (le_apart k (sample_at l) e)

  bit_as_before : (bit : Bit) → edge_bit l bit ≡ due_bit l bit
  bit_as_before bit = ap (λ s. edge_bit_by s l bit) h

  goes_as_before : (bit : Bit) (x : Seen) → going_on l.sync l bit x ≡ bit
  goes_as_before bit x = ap (λ s. going_on s l bit x) h

module _ (r : Running) (x : Seen) (h : r.lengths.sync ≡ After) where
  edge_as_before : running_edge r ≡ running_due r
  edge_as_before = ap (λ s. running_edge_by s r) h

  placed_as_before : running_placed r x ≡ running_moved r (running_sync r x) (running_restart r x) x.level
  placed_as_before = ap (λ s. running_over s r (running_moved r (running_sync r x) (running_restart r x) x.level) (running_restart r x) x.level) h

  -- a quantum that begins a bit anew is its first
  start_as_before : (running_restart r x || (running_placed r x).quanta == 1) ≡ ((running_placed r x).quanta == 1)
  start_as_before = by_restart (running_restart r x) refl
    where
      first : (b : Bool) → running_restart r x ≡ b → b ≡ true → (running_placed r x).quanta ≡ 1
      first b e t =
          ap (λ n. n.quanta) placed_as_before
          ∙ ap (λ c. (running_moved r (running_sync r x) c x.level).quanta) (e ∙ t)
          ∙ ap suc (found_none r.lengths h)

      by_restart : (b : Bool) → running_restart r x ≡ b → (b || (running_placed r x).quanta == 1) ≡ ((running_placed r x).quanta == 1)
      by_restart true e = sym (ap (λ n. n == 1) (first true e refl))
      by_restart false e = refl
