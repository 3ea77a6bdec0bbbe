-- When no edge synchronises a bit clock.
use Rattle.std.proofs.Common.{◌≡◌, ◌∙◌, ap, subst, refl, ℕ, zero, suc, ◌+◌, ◌-◌, ◌<◌, [], ◌∷◌, ◌++◌, List, false, None, arith}
use Rattle.wl_level.specs.declared.Level.{Level}
use Rattle.wl_level.specs.declared.Level.TheVariants.{Dominant, Recessive}
use Rattle.wl_segments.specs.Lengths.{Lengths, bit_quanta}
use Rattle.wl_sync.specs.declared.Beat.{Beat}
use Rattle.wl_sync.specs.declared.Beat.TheVariants.{Plain, Sample, Start}
use Rattle.wl_sync.specs.declared.Seen.{Seen}
use Rattle.wl_sync.specs.Bits.{beat_of, sync_of}
use Rattle.wl_sync.specs.Running.{Running, clock_after, sample_after}
use Rattle.wl_sync.specs.Steps.{running_answer, running_sync}
use Rattle.wl_phase.specs.Ways.{ByTheBook, WayLaws}
use Rattle.wl_phase.specs.InStep.{seen_before}
use Rattle.wl_phase.proofs.Callers.{Goes, before_dominant, now_recessive, sync_is}
use Rattle.wl_buses.specs.OneFrame.Clocked.{NoEdgeLaws, NoneSyncs, SamplesBy}
use Rattle.wl_buses.proofs.OneFrame.Clocked.{after_sample, down, unsampled_at, way}
use Rattle.wl_buses.proofs.BothProofs.Small.{sampled_dominant}

no_answer : (r : Running) (x : Seen) → running_sync r x ≡ false → running_answer r x ≡ None
no_answer r x e = rw e refl

pub keeps : (b : Beat) (last : Level) → ((level : Level) → b ≡ Sample level → ⊥) → sample_after b last ≡ last
keeps (Sample level) last h = absurd (h level refl)
keeps Start last h = refl
keeps Plain last h = refl

abbrev pub SampleGoes : Type 0
SampleGoes = (l : Lengths) (past : List Seen) (x : Seen) → (clock_after l (past ++ x ∷ [])).sample ≡ sample_after (beat_of l past x) (clock_after l past).sample

module _ (goes : Goes) (last : SampleGoes) (ways : WayLaws) where
  none_by : (l : Lengths) (past : List Seen) (x : Seen) → ByTheBook l → running_sync (clock_after l past) x ≡ false → sync_of l past x ≡ None
  none_by l past x book e = sync_is goes l book past x ∙ no_answer (clock_after l past) x e

  recessive : (l : Lengths) (past : List Seen) (x : Seen) → ByTheBook l → x.level ≡ Recessive → sync_of l past x ≡ None
  recessive l past x book e = none_by l past x book (now_recessive (clock_after l past) x e)

  -- after a dominant sample
  module _ (l : Lengths) (seen : ℕ → Seen) (k : ℕ) (book : ByTheBook l) (sampled : SamplesBy l seen k Dominant) where
    pub record Still (j : ℕ) : Type 0 where
      pub sample : (clock_after l (seen_before seen (suc k + j))).sample ≡ Dominant
      pub before : way ways l book seen (suc k + j) + j + 1 ≡ bit_quanta l

    none_still : (j : ℕ) → Still j → sync_of l (seen_before seen (suc k + j)) (seen (suc k + j)) ≡ None
    none_still j h = none_by l (seen_before seen (suc k + j)) (seen (suc k + j)) book (sampled_dominant (clock_after l (seen_before seen (suc k + j))) (seen (suc k + j)) h.sample)

    still : (j : ℕ) → j < bit_quanta l → Still j
    still zero less =
        let e : suc k + 0 ≡ suc k = omega arith in
        let now : (clock_after l (seen_before seen (suc k))).sample ≡ Dominant = last l (seen_before seen k) (seen k) ∙ ap (λ b. sample_after b (clock_after l (seen_before seen k)).sample) sampled in
        let begin = after_sample ways l book seen k Dominant sampled in
        let there : way ways l book seen (suc k + 0) ≡ way ways l book seen (suc k) = ap (way ways l book seen) e in
        record { sample = ap (λ n. (clock_after l (seen_before seen n)).sample) e ∙ now; before = omega arith }
    still (suc j) less =
        let h = still j (omega arith) in
        let before = h.before in
        let one = down ways l book seen (suc k + j) (none_still j h) (omega arith) in
        let e : suc k + suc j ≡ suc (suc k + j) = omega arith in
        let there : way ways l book seen (suc k + suc j) ≡ way ways l book seen (suc (suc k + j)) = ap (way ways l book seen) e in
        let now : (clock_after l (seen_before seen (suc (suc k + j)))).sample ≡ Dominant =
        last l (seen_before seen (suc k + j)) (seen (suc k + j))
        ∙ keeps (beat_of l (seen_before seen (suc k + j)) (seen (suc k + j))) (clock_after l (seen_before seen (suc k + j))).sample (unsampled_at ways l book seen (suc k + j) (omega arith))
        ∙ h.sample in
        record { sample = ap (λ n. (clock_after l (seen_before seen n)).sample) e ∙ now; before = omega arith }

    after_dominant : NoneSyncs l seen k (k + bit_quanta l)
    after_dominant i low high =
        let e : suc k + (i - suc k) ≡ i = omega arith in
        subst (λ n. sync_of l (seen_before seen n) (seen n) ≡ None) e (none_still (i - suc k) (still (i - suc k) (omega arith)))

-- the level that the clock keeps is that of the last quantum
abbrev pub LevelGoes : Type 0
LevelGoes = (l : Lengths) (past : List Seen) (x : Seen) → (clock_after l (past ++ x ∷ [])).level ≡ x.level

pub no_edge_laws : Goes → SampleGoes → LevelGoes → WayLaws → NoEdgeLaws
no_edge_laws goes last level ways = record {
  recessive = λ l past x book e. recessive goes last ways l past x book e;
  held = λ l past y x book e. none_by goes last ways l (past ++ y ∷ []) x book (before_dominant (clock_after l (past ++ y ∷ [])) x (level l past y ∙ e));
  sampled = λ l seen k book e. after_dominant goes last ways l seen k book e;
}
