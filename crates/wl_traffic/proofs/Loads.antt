-- The load of a bus that is busy, or isn't, at several ticks in a row.
use Rattle.std.proofs.Common.{◌≡◌, ◌∙◌, ap, ap₂, sym, subst, arith, add-one, ℕ, zero, suc, ◌+◌, ◌<◌, ◌≤◌, max, Bool, true, false}
use Rattle.wl_traffic.specs.declared.load.Load.{Load}
use Rattle.wl_traffic.specs.Bus.{load_after, load_below}

-- no time is longer than n ticks
pub record AreBelow (l : Load) (n : ℕ) : Type 0 where
  pub busy : l.busy ≤ n
  pub pause : l.pause ≤ n
  pub full : l.full ≤ n

below_after : (l : Load) (n : ℕ) (b : Bool) → AreBelow l n → AreBelow (load_after l b) (suc n)
below_after l n true h = record { busy = omega (arith, h.busy); pause = omega arith; full = omega (arith, h.full) }
below_after l n false h = record { busy = omega (arith, h.busy); pause = omega (arith, h.pause); full = omega arith }

below : (busy : ℕ → Bool) (n : ℕ) → AreBelow (load_below busy n) n
below busy zero = record { busy = omega arith; pause = omega arith; full = omega arith }
below busy (suc n) = below_after (load_below busy n) n (busy n) (below busy n)

pub in_bounds : (l : Load) (busy : ℕ → Bool) (n : ℕ) → l ≡ load_below busy n → AreBelow l n
in_bounds l busy n e = subst (λ (x : Load). AreBelow x n) (sym e) (below busy n)

abbrev pub with_busy : Load → ℕ → Load
with_busy l m = record { busy = l.busy + m; pause = 0; gap = l.gap; full = l.full + m }

abbrev pub with_pause : Load → ℕ → Load
with_pause l m = record { busy = l.busy; pause = l.pause + m; gap = max l.gap (l.pause + m); full = 0 }

more_busy : (busy : ℕ → Bool) (n k : ℕ) → ((t : ℕ) → n ≤ t → t < n + suc k → busy t ≡ true) → load_below busy (n + suc k) ≡ with_busy (load_below busy n) (suc k)
more_busy busy n zero h = ap (load_below busy) (add-one n) ∙ ap (load_after (load_below busy n)) (h n (omega arith) (omega arith))
more_busy busy n (suc k) h =
    ap (load_below busy) (let e : n + suc (suc k) ≡ suc (n + suc k) = omega arith in e)
    ∙ ap₂ load_after (more_busy busy n k (λ t low high. h t low (omega arith))) (h (n + suc k) (omega arith) (omega arith))
    ∙ (λ i. record { busy = one_more (load_below busy n).busy i; pause = 0; gap = (load_below busy n).gap; full = one_more (load_below busy n).full i })
  where
    one_more : (m : ℕ) → m + suc k + 1 ≡ m + suc (suc k)
    one_more m = omega arith

more_pause : (busy : ℕ → Bool) (n k : ℕ) → ((t : ℕ) → n ≤ t → t < n + suc k → busy t ≡ false)
    → load_below busy (n + suc k) ≡ with_pause (load_below busy n) (suc k)
more_pause busy n zero h = ap (load_below busy) (add-one n) ∙ ap (load_after (load_below busy n)) (h n (omega arith) (omega arith))
more_pause busy n (suc k) h =
    ap (load_below busy) (let e : n + suc (suc k) ≡ suc (n + suc k) = omega arith in e)
    ∙ ap₂ load_after (more_pause busy n k (λ t low high. h t low (omega arith))) (h (n + suc k) (omega arith) (omega arith))
    ∙ (λ i. record {
      busy = (load_below busy n).busy;
      pause = one_more (load_below busy n).pause i;
      gap = longest (load_below busy n).gap (load_below busy n).pause i;
      full = 0;
    })
  where
    one_more : (m : ℕ) → m + suc k + 1 ≡ m + suc (suc k)
    one_more m = omega arith

    longest : (g p : ℕ) → max (max g (p + suc k)) (p + suc k + 1) ≡ max g (p + suc (suc k))
    longest g p = omega arith

-- m ticks at which it is busy, or isn't
pub busy_for : (busy : ℕ → Bool) (n m : ℕ) → 0 < m → ((t : ℕ) → n ≤ t → t < n + m → busy t ≡ true) → load_below busy (n + m) ≡ with_busy (load_below busy n) m
busy_for busy n zero some h = absurd (omega arith)
busy_for busy n (suc k) some h = more_busy busy n k h

pub pause_for : (busy : ℕ → Bool) (n m : ℕ) → 0 < m → ((t : ℕ) → n ≤ t → t < n + m → busy t ≡ false) → load_below busy (n + m) ≡ with_pause (load_below busy n) m
pause_for busy n zero some h = absurd (omega arith)
pause_for busy n (suc k) some h = more_pause busy n k h
