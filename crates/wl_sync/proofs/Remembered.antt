-- A bit clock keeps the last level of the line and the last sample, across the borders of bits.
use Rattle.std.proofs.Common.{◌≡◌, ℕ, ◌+◌, ◌∙◌, List, [], ◌∷◌, ◌++◌, Bool, true, false, cond, refl, sym, ap, arith, ◌||◌}
use Rattle.std.specs.Prelude.{◌==◌}
use Rattle.std.proofs.lemmas.Bool.{eqb-true, ne_eqb}
use Rattle.wl_segments.specs.declared.SyncRules.{SyncRules}
use Rattle.wl_segments.specs.declared.SyncRules.TheVariants.{After, Book}
use Rattle.wl_level.specs.declared.Level.{Level}
use Rattle.wl_segments.specs.Lengths.{Lengths, sample_at}
use Rattle.wl_sync.specs.declared.Beat.TheVariants.{Plain, Sample, Start}
use Rattle.wl_sync.specs.Edges.{Seen}
use Rattle.wl_sync.specs.Bits.{beat_of}
use Rattle.wl_sync.specs.Running.{Running, clock_after, sample_after}
use Rattle.wl_sync.specs.Steps.{running_edge, running_edge_by, running_sync, running_restart, running_moved, running_first, running_over, running_placed, running_beat, samples, end_of}
use Rattle.wl_sync.proofs.Cuts.{clock_next, beat_next}

-- a bit begins with the last sample of the one before
due_sample : (r : Running) (b : Bool)
    → (cond b (record { lengths = r.lengths; quanta = 0; longer = 0; shorter = 0; synced = false; level = r.level; sample = r.sample }) r).sample ≡ r.sample
due_sample r true = refl
due_sample r false = refl

-- a quantum is not the first of its bit and its sample at once
apart : (b s : Bool) (level last : Level) → (s ≡ true → b ≡ false)
    → cond s level last ≡ sample_after (cond b Start (cond s (Sample level) Plain)) last
apart true true level last h = cc (h refl)
apart true false level last h = refl
apart false true level last h = refl
apart false false level last h = refl

first_apart : (r : Running) (longer : ℕ) → samples r longer ≡ true → (r.quanta + 1 == 1) ≡ false
first_apart r longer h =
    let here : r.quanta ≡ sample_at r.lengths + longer = eqb-true r.quanta (sample_at r.lengths + longer) h in
    ne_eqb (r.quanta + 1) 1 (λ e. omega arith)

-- nor is the first quantum of a bit that follows one: that one is over
over_sample : (s : SyncRules) (r m : Running) (level : Level) → m.quanta ≡ r.quanta + 1 → m.sample ≡ cond (samples r m.longer) level r.sample
    → (running_over s r m false level).sample
    ≡ sample_after (cond ((running_over s r m false level).quanta == 1) Start (cond (samples r (running_over s r m false level).longer) (Sample level) Plain)) r.sample
over_sample After r m level q k =
    k ∙ apart (r.quanta + 1 == 1) (samples r m.longer) level r.sample (first_apart r m.longer)
    ∙ ap (λ n. sample_after (cond (n == 1) Start (cond (samples r m.longer) (Sample level) Plain)) r.sample) (sym q)
over_sample Book r m level q k = by_test (r.quanta == end_of m) refl
  where
    by_test : (b : Bool) → (r.quanta == end_of m) ≡ b
        → (cond b (running_first r level) m).sample
        ≡ sample_after (cond ((cond b (running_first r level) m).quanta == 1) Start (cond (samples r (cond b (running_first r level) m).longer) (Sample level) Plain)) r.sample
    by_test true e = refl
    by_test false e =
        k ∙ apart (r.quanta + 1 == 1) (samples r m.longer) level r.sample (first_apart r m.longer)
        ∙ ap (λ n. sample_after (cond (n == 1) Start (cond (samples r m.longer) (Sample level) Plain)) r.sample) (sym q)

edge_sample : (s : SyncRules) (r : Running) → (running_edge_by s r).sample ≡ r.sample
edge_sample After r = due_sample r (r.quanta == end_of r)
edge_sample Book r = refl

placed_sample : (r : Running) (x : Seen) (b : Bool) → running_restart r x ≡ b
    → (running_placed r x).sample ≡ sample_after (running_beat r x) r.sample
placed_sample r x true h = restarts r.lengths.sync
  where
    m : Running
    m = running_moved r (running_sync r x) (running_restart r x) x.level

    restarts : (s : SyncRules) → (running_over s r m (running_restart r x) x.level).sample
        ≡ sample_after (cond (running_restart r x || (running_over s r m (running_restart r x) x.level).quanta == 1) Start (cond (samples r (running_over s r m (running_restart r x) x.level).longer) (Sample x.level) Plain)) r.sample
    restarts After = rw h refl
    restarts Book = rw h refl
placed_sample r x false h =
    rw h (over_sample r.lengths.sync r (running_moved r (running_sync r x) false x.level) x.level refl refl)

-- the last sample is that of the latest quantum that was a sample
pub sample_kept : (l : Lengths) (past : List Seen) (x : Seen)
    → (clock_after l (past ++ x ∷ [])).sample ≡ sample_after (beat_of l past x) (clock_after l past).sample
sample_kept l past x =
    ap (λ r. r.sample) (clock_next l past x)
    ∙ placed_sample (running_edge (clock_after l past)) x (running_restart (running_edge (clock_after l past)) x) refl
    ∙ ap (λ b. sample_after b (running_edge (clock_after l past)).sample) (sym (beat_next l past x))
    ∙ ap (sample_after (beat_of l past x)) (edge_sample l.sync (clock_after l past))
