-- A bit of recessive quanta behind a recessive sample leaves the clock as it is.
use Rattle.std.proofs.Common.{◌≡◌, ℕ, suc, ◌+◌, ◌-◌, ◌∙◌, inl, inr, List, ◌++◌, true, false, cond, None, refl, sym, ap, subst, arith, replicate}
use Rattle.std.proofs.lemmas.Bool.{cases_lt, eq-eqb}
use Rattle.wl_level.specs.declared.Level.TheVariants.{Recessive}
use Rattle.wl_level.proofs.Callers.{snoc}
use Rattle.wl_segments.specs.Lengths.{Lengths, AreLengths, sample_at}
use Rattle.wl_sync.specs.declared.Beat.TheVariants.{Plain, Sample}
use Rattle.wl_sync.specs.Edges.{Seen}
use Rattle.wl_sync.specs.Bits.{beat_of, sync_of}
use Rattle.wl_sync.specs.Running.{Running, clock_after}
use Rattle.wl_sync.specs.Steps.{end_of, is_sampled, running_after, running_answer, running_beat, running_edge, running_on}
use Rattle.wl_sync.specs.Skips.{steady_clock, IsRestingBit, IsUnmoved}
use Rattle.wl_sync.proofs.Cuts.{clock_next, beat_next, sync_next}
use Rattle.wl_sync.proofs.Skips.{running_new, running_skipped, skipped_new, skipped, unmoved, not_sampled, AreFree, GoesOn, goes_after, goes_answer, goes_beat}

module _ (l : Lengths) (are : AreLengths l) (past : List Seen) (x : Seen) (level : x.level ≡ Recessive) (steady : clock_after l past ≡ steady_clock l) (last : ℕ) (bit : suc last ≡ sample_at l + l.ps2) where
  free : AreFree (clock_after l past) x.level last
  free = subst (λ (r : Running). AreFree r x.level last) (sym steady) (subst (λ v. AreFree (steady_clock l) v last) (sym level) (record {
    lengths = are;
    shorter = omega arith;
    inside = (let low = are.ps2_low in omega arith);
    no_edge = refl;
    apart = inr (omega arith, omega arith);
  }))

  -- before the sample
  abbrev before : Running
  before = running_new (steady_clock l) Recessive (sample_at l)

  before_is : clock_after l (past ++ replicate last x) ≡ before
  before_is =
      skipped l past x last (let low = are.ps2_low in omega arith) free
      ∙ ap (λ r. running_skipped r x.level last) steady
      ∙ ap (λ v. running_skipped (steady_clock l) v last) level
      ∙ skipped_new (steady_clock l) Recessive last (omega arith)
      ∙ ap (running_new (steady_clock l) Recessive) (let e : suc (sample_at l) + last - end_of (steady_clock l) ≡ sample_at l = omega arith in e)

  goes : GoesOn before x
  goes = subst (λ (y : Seen). GoesOn before y) (let e : ◌≡◌ {A = Seen} (record x { level = Recessive }) x = (λ i. record x { level = sym level i }) in e) (record {
    no_edge = refl;
    begun = omega arith;
    inside = (let low = are.ps2_low in omega arith);
  })

  here : is_sampled before ≡ true
  here = eq-eqb (sample_at l) (sample_at l + 0) (omega arith)

  clock_is : clock_after l (past ++ replicate (suc last) x) ≡ clock_after l past
  clock_is =
      ap (clock_after l) (snoc past x last)
      ∙ clock_next l (past ++ replicate last x) x
      ∙ ap (λ r. running_after r x) before_is
      ∙ goes_after before x goes
      ∙ ap (running_on before) level
      ∙ (λ i. record { lengths = l; quanta = (let e : sample_at l + 1 ≡ suc (sample_at l) = omega arith in e) i; longer = 0; shorter = 0; synced = false; level = Recessive; sample = cond (here i) Recessive Recessive })
      ∙ sym steady

  sampled_is : beat_of l (past ++ replicate last x) x ≡ Sample Recessive
  sampled_is =
      beat_next l (past ++ replicate last x) x
      ∙ ap (λ r. running_beat (running_edge r) x) before_is
      ∙ goes_beat before x goes
      ∙ ap (λ b. cond b (Sample x.level) Plain) here
      ∙ ap Sample level

  unmoved_is : IsUnmoved l past x (suc last)
  unmoved_is m h = elim (cases_lt m last) [
    | inl less ↦ unmoved l past x last free m less
    | inr more ↦ (let e : last ≡ m = omega arith in subst (λ k. sync_of l (past ++ replicate k x) x ≡ None) e
        (sync_next l (past ++ replicate last x) x ∙ ap (λ r. running_answer (running_edge r) x) before_is ∙ goes_answer before x goes))
  ]

  pub rests : IsRestingBit l past x (suc last)
  rests = record { last = last; bit = refl; clock = clock_is; unmoved = unmoved_is; unsampled = not_sampled l past x last free; sampled = sampled_is }
