-- The sender finds the acknowledgement, and samples it.
use Rattle.std.proofs.Common.{◌≡◌, inl, inr, sym, ap, subst, ℕ, zero, suc, ◌+◌, ◌-◌, ◌<◌, ◌≤◌, arith}
use Rattle.std.proofs.lemmas.Bool.{cases_lt}
use Rattle.wl_level.specs.declared.Level.TheVariants.{Dominant, Recessive}
use Rattle.wl_segments.specs.Lengths.{Lengths, sample_at, bit_quanta}
use Rattle.wl_sync.specs.declared.Seen.{Seen}
use Rattle.wl_phase.specs.Clocks.{Steady, Finds, steady_tick}
use Rattle.wl_phase.specs.Ways.{ByTheBook, moved_to}
use Rattle.wl_phase.specs.InStep.{Sender, Listener}
use Rattle.wl_phase.specs.Answer.{IsAnswered, HearsAnswer, FindsDominant, FindsItsEnd, answer_begin, answer_end, moved_sample, own_sample}
use Rattle.wl_phase.proofs.Instants.{tick_later}

module _ (c : Steady) (d : 0 < c.den) where
  pub tick_up : (k n : ℕ) → k ≤ n → steady_tick c k ≤ steady_tick c n
  tick_up k n h =
      let e : k + (n - k) ≡ n = omega arith in
      subst (λ i. steady_tick c k ≤ steady_tick c i) e (tick_later c k (n - k) d)

  -- the quantum that finds an edge which comes after one quantum, and by another
  pub finder : (m k edge : ℕ) → steady_tick c k < edge → edge ≤ steady_tick c (k + m) → (n : ℕ) × (k < n) × (n ≤ k + m) × Finds c n edge
  finder zero k edge before after = absurd (let e : k + 0 ≡ k = omega arith in let f : steady_tick c (k + 0) ≡ steady_tick c k = ap (steady_tick c) e in omega arith)
  finder (suc m) k edge before after = elim (cases_lt (steady_tick c (suc k)) edge) [
    | inl less ↦ (let e : k + suc m ≡ suc k + m = omega arith in
        let r = finder m (suc k) edge less (subst (λ i. edge ≤ steady_tick c i) e after) in
        (r.0, (let a = r.1 in omega arith), (let b = r.2 in omega arith), r.3))
    | inr more ↦ (suc k, omega arith, omega arith, record { unseen = λ i below. (let up = tick_up i k (omega arith) in omega arith); seen = more })
  ]

-- where an edge moves the sample to, at the latest
moved_high : (l : Lengths) (w i n : ℕ) → ByTheBook l → i ≤ n + moved_to (sample_at l - 1) l.sjw w → n + (sample_at l - 1 + l.sjw) < n + w → i + l.sjw ≤ n + w
moved_high l w i n h below far = omega arith

pub moved_most : (l : Lengths) (w n : ℕ) → n ≤ w → n + moved_to (sample_at l - 1) l.sjw (w - n) ≤ w + l.sjw
moved_most l w n h = omega arith

moved_low : (l : Lengths) (w i n : ℕ) → ByTheBook l → i ≤ n + moved_to (sample_at l - 1) l.sjw w → w ≤ sample_at l - 1 + l.sjw → i < n + sample_at l
moved_low l w i n h below near = let a = h.lengths.prop_low in omega arith

module _ (s : Sender) (own : Lengths) (j : Listener) (back d k : ℕ) (seen : ℕ → Seen) (ds : 0 < s.clock.den) (book : ByTheBook own)
    (same : s.bit_quanta ≡ bit_quanta own) (is : IsAnswered s own j back d k) (hears : HearsAnswer s own j back d k seen) where
  next_is : own_sample s own d + bit_quanta own ≡ own_sample s own (suc d)
  next_is = omega arith

  lasts_at : (n i : ℕ) → Finds s.clock n (answer_begin j back k) → n ≤ own_sample s own d + bit_quanta own
      → i ≤ n + moved_to (sample_at own - 1) own.sjw (own_sample s own d + bit_quanta own - n) → steady_tick s.clock i < answer_end j back k
  lasts_at n i finds inside up_to = lasts (own_sample s own d + bit_quanta own - n) (omega arith) up_to
    where
      lasts : (w : ℕ) → n + w ≡ own_sample s own d + bit_quanta own → i ≤ n + moved_to (sample_at own - 1) own.sjw w → steady_tick s.clock i < answer_end j back k
      lasts w e below = elim (cases_lt (sample_at own - 1 + own.sjw) w) [
        | inl far ↦ is.lasts_early i (let m = moved_high own w i n book below (omega arith) in let f = next_is in omega arith)
        | inr near ↦ is.lasts n i finds (moved_low own w i n book below near)
      ]

  begun_at : (n i : ℕ) → Finds s.clock n (answer_begin j back k) → n ≤ i → answer_begin j back k ≤ steady_tick s.clock i
  begun_at n i finds from = let up = tick_up s.clock ds n i from in let f = finds.seen in omega arith

  there_at : (n i : ℕ) → Finds s.clock n (answer_begin j back k) → n ≤ own_sample s own d + bit_quanta own → n ≤ i
      → i ≤ n + moved_to (sample_at own - 1) own.sjw (own_sample s own d + bit_quanta own - n) → (seen i).level ≡ Dominant
  there_at n i finds inside from up_to = hears.there i (begun_at n i finds from) (lasts_at n i finds inside up_to)

  pub heard : (n : ℕ) × Finds s.clock n (answer_begin j back k) × FindsDominant own seen (own_sample s own d) n
  heard =
      let by : answer_begin j back k ≤ steady_tick s.clock (own_sample s own d + bit_quanta own) =
      subst (λ i. answer_begin j back k ≤ steady_tick s.clock i) (sym next_is) is.before in
      let r = finder s.clock ds (bit_quanta own) (own_sample s own d) (answer_begin j back k) is.after by in (
        r.0,
        r.3,
        record {
          clock = hears.clock;
          later = r.1;
          inside = r.2;
          silent = λ i above below. hears.silent i above (r.3.unseen i below);
          there = λ i from up_to. there_at r.0 i r.3 r.2 from up_to;
          awaits = hears.awaits r.0 r.3;
          driving = hears.driving r.0 r.3;
        },
      )

  -- and its end within a bit after the sample
  pub heard_end : (n : ℕ) → Finds s.clock n (answer_begin j back k) → n ≤ own_sample s own d + bit_quanta own
      → answer_end j back k ≤ steady_tick s.clock (moved_sample own (own_sample s own d) n + bit_quanta own)
      → ((i : ℕ) → answer_end j back k ≤ steady_tick s.clock i → (seen i).level ≡ Recessive) → FindsItsEnd own seen (moved_sample own (own_sample s own d) n)
  heard_end n finds inside over silent =
      let r = finder s.clock ds (bit_quanta own) (moved_sample own (own_sample s own d) n) (answer_end j back k)
      (lasts_at n (moved_sample own (own_sample s own d) n) finds inside (omega arith)) over in
      record {
        end = r.0;
        by_sample = r.2;
        before = λ i above below. hears.there i (begun_at n i finds (omega arith)) (r.3.unseen i below);
        after = λ i from up_to. silent i (let up = tick_up s.clock ds r.0 i from in let here = r.3.seen in omega arith);
      }
