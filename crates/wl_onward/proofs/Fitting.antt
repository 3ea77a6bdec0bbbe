-- A node is on the bus and error active after each of its quanta since the tick that its samples tell.
use Rattle.std.proofs.Common.{◌≡◌, ◌∙◌, inl, inr, refl, sym, ap, subst, ℕ, zero, suc, ◌<◌, ◌≤◌, Bool, true, false, List, [], ◌∷◌, ◌++◌, length, Option, Some, None, arith, length-append}
use Rattle.std.proofs.lemmas.Bool.{cases_eq}
use Rattle.std.proofs.lemmas.List.Sums.{fold-append}
use Rattle.wl_level.specs.declared.Level.{Level}
use Rattle.wl_level.specs.Levels.{level_of}
use Rattle.wl_clock.specs.Timing.{tick_of}
use Rattle.wl_sync.specs.declared.Beat.{Beat}
use Rattle.wl_sync.specs.declared.Beat.TheVariants as beats
use Rattle.wl_sync.specs.Bits.{beat_of}
use Rattle.wl_node.specs.declared.setup.NodeSetup.{NodeSetup}
use Rattle.wl_node.specs.History.{History, by_beat, history_after, seen_next, staying_history}
use Rattle.wl_node.proofs.Callers.{history_first, history_next}
use Rattle.wl_plan.specs.Line.{Line, found}
use Rattle.wl_plan.specs.Simulation.{level, seen}
use Rattle.wl_trace.specs.Replay.{no_past, past_after, past_of}
use Rattle.wl_onward.specs.Fits.{fit_by, fit_with, is_fit, since_with}

pub fit_next : (setup : NodeSetup) (samples : List (ℕ × Level)) (s : ℕ × Level) → fit_by setup (samples ++ s ∷ []) ≡ fit_with setup (fit_by setup samples) s
fit_next setup samples s = fold-append (fit_with setup) (no_past, Some (tick_of setup.clock 0)) samples (s ∷ [])

module _ (l : Line) (setup : NodeSetup) (i : ℕ) (rises : (j k : ℕ) → j < k → tick_of setup.clock j < tick_of setup.clock k) where
  abbrev pub node : ℕ → History
  node k = staying_history setup (seen l i k)

  abbrev at : ℕ → ℕ
  at k = tick_of setup.clock k

  abbrev found_at : ℕ → Level
  found_at k = level_of (found l (level l) i (l.instant i k))

  node_first : node 0 ≡ staying_history setup []
  unfolding seen
  node_first = refl

  node_next : (k : ℕ) → node (suc k) ≡ history_after setup (node k) (found_at k)
  unfolding seen
  node_next k = history_next setup (seen l i k) (found_at k)

  seen_length : (k : ℕ) → length (node k).seen ≡ k
  seen_length zero = ap (λ (h : History). length h.seen) (node_first ∙ history_first setup)
  seen_length (suc k) =
      (let e = ap (λ (h : History). length h.seen) (node_next k) in
      let f = length-append (node k).seen (seen_next (node k) (found_at k) ∷ []) in
      let before = seen_length k in
      omega (arith, e, f, before))

  abbrev Fine : (k f : ℕ) → Type 0
  Fine k f = (j : ℕ) → j < k → f ≤ at j → is_fit (past_of (node (suc j))) ≡ true

  record Kept (k : ℕ) (h : History) : Type 0 where
    past : (fit_by setup h.samples).0 ≡ past_of h
    fit : (f : ℕ) → (fit_by setup h.samples).1 ≡ Some f → is_fit (past_of h) ≡ true
    all : (f : ℕ) → (fit_by setup h.samples).1 ≡ Some f → Fine k f
    low : (f : ℕ) → (fit_by setup h.samples).1 ≡ Some f → at 0 ≤ f

  first_low : (k f : ℕ) → at k ≡ f → at 0 ≤ f
  first_low zero f e = omega arith
  first_low (suc k) f e = (let up = rises 0 (suc k) (omega arith) in omega arith)

  -- after a sample at quantum k
  since : (k : ℕ) (t : Bool) (old : Option ℕ) (f : ℕ) → since_with t old (at k) ≡ Some f → ((g : ℕ) → old ≡ Some g → Fine k g) → ((g : ℕ) → old ≡ Some g → at 0 ≤ g) → (t ≡ true) × Fine k f × (at 0 ≤ f)
  since k true (Some g) f e before low = (let same : g ≡ f = cc in (refl, subst (Fine k) same (before g refl), subst (λ x. at 0 ≤ x) same (low g refl)))
  since k true None f e before low = (let same : at k ≡ f = cc in (refl, (λ j less late. (let up = rises j k less in absurd (omega arith))), first_low k f same))
  since k false old f e before low = cc

  sampled : (k : ℕ) (h : History) (x : Level) → length h.seen ≡ k → Kept k h → Kept k (Rattle.wl_node.specs.History.history_after_sample setup h x)
  sampled k h x long kept =
      let s : ℕ × Level = (length h.seen, x) in
      let next = fit_next setup h.samples s in
      let past : (fit_by setup (h.samples ++ s ∷ [])).0 ≡ past_after setup (past_of h) s = ap (λ r. r.0) next ∙ ap (λ p. past_after setup p s) kept.past in
      let told : (fit_by setup (h.samples ++ s ∷ [])).1 ≡ since_with (is_fit (past_after setup (past_of h) s)) (fit_by setup h.samples).1 (at k) =
      ap (λ r. r.1) next ∙ ap (λ p. since_with (is_fit (past_after setup p s)) (fit_by setup h.samples).1 (at (length h.seen))) kept.past
      ∙ ap (λ q. since_with (is_fit (past_after setup (past_of h) s)) (fit_by setup h.samples).1 (at q)) long in
      record {
        past = past;
        fit = λ f e. (since k (is_fit (past_after setup (past_of h) s)) (fit_by setup h.samples).1 f (sym told ∙ e) kept.all kept.low).0;
        all = λ f e. (since k (is_fit (past_after setup (past_of h) s)) (fit_by setup h.samples).1 f (sym told ∙ e) kept.all kept.low).1;
        low = λ f e. (since k (is_fit (past_after setup (past_of h) s)) (fit_by setup h.samples).1 f (sym told ∙ e) kept.all kept.low).2;
      }

  by_beats : (k : ℕ) (h : History) (x : Level) (beat : Beat) → length h.seen ≡ k → Kept k h → Kept k (by_beat setup h x beat)
  by_beats k h x beats.Plain long kept = kept
  by_beats k h x beats.Start long kept = record { past = kept.past; fit = kept.fit; all = kept.all; low = kept.low }
  by_beats k h x (beats.Sample other) long kept = sampled k h x long kept

  kept_at : (k : ℕ) → Kept k (node k)
  kept_at zero =
      subst (Kept 0) (sym (node_first ∙ history_first setup)) (record {
        past = refl;
        fit = λ f e. refl;
        all = λ f e j less late. absurd (omega arith);
        low = λ f e. (let same : at 0 ≡ f = cc in omega arith);
      })
  kept_at (suc k) =
      let x = found_at k in
      let b = by_beats k (node k) x (beat_of setup.segments (node k).seen (seen_next (node k) x)) (seen_length k) (kept_at k) in
      let n : Kept k (history_after setup (node k) x) = record { past = b.past; fit = b.fit; all = b.all; low = b.low } in
      let m : Kept k (node (suc k)) = subst (Kept k) (sym (node_next k)) n in
      record {
        past = m.past;
        fit = m.fit;
        all = λ f e j less late. elim (cases_eq j k) [
          | inl same ↦ subst (λ q. is_fit (past_of (node (suc q))) ≡ true) (sym same) (m.fit f e)
          | inr apart ↦ m.all f e j (omega arith) late
        ];
        low = m.low;
      }

  pub fit_from : (n f : ℕ) → (fit_by setup (node n).samples).1 ≡ Some f → (k : ℕ) → k < n → f ≤ at k → is_fit (past_of (node (suc k))) ≡ true
  fit_from n f e k less late = (kept_at n).all f e k less late

  pub begun_by : (n f : ℕ) → (fit_by setup (node n).samples).1 ≡ Some f → at 0 ≤ f
  begun_by n f e = (kept_at n).low f e
