-- The first edge that a node finds on a line that was silent since its power-up.
use Rattle.std.proofs.Common.{◌≡◌, ◌∙◌, inl, inr, ap, ℕ, zero, suc, ◌<◌, true, false, not, arith}
use Rattle.std.proofs.lemmas.Bool.{cases_eq, and_from, false_from_ne_true}
use Rattle.wl_level.specs.declared.Level.TheVariants.{Recessive}
use Rattle.wl_segments.specs.declared.SyncRules.{SyncRules}
use Rattle.wl_segments.specs.declared.SyncRules.TheVariants.{After, Book}
use Rattle.wl_segments.specs.Lengths.{Lengths}
use Rattle.wl_sync.specs.declared.Seen.{Seen}
use Rattle.wl_sync.specs.Edges.{is_hard_edge}
use Rattle.wl_sync.specs.Running.{Running, clock_after}
use Rattle.wl_phase.specs.Ways.{ByTheBook, sample_way}
use Rattle.wl_phase.specs.InStep.{FindsTheFirst, SyncsHard, seen_before}
use Rattle.wl_phase.proofs.Steps.{IsValid}
use Rattle.wl_phase.proofs.Edges.{answer_hard}
use Rattle.wl_phase.proofs.Runs.{Goes, first_silent, valid_at, passes_at, leaves, sync_is}
use Rattle.wl_phase.proofs.Listening.{now_recessive, counts_then}

-- a clock that an edge would synchronise: nothing dominant was found or sampled, and no edge counts yet in the bit
pub record IsQuiet (r : Running) : Type 0 where
  pub level : r.level ≡ Recessive
  pub sample : r.sample ≡ Recessive
  pub synced : r.synced ≡ false

pub hard_from : (s : SyncRules) (x : Seen) → s ≡ Book → x.awaits ≡ true → x.driving ≡ false → is_hard_edge s x ≡ true
hard_from After x e f g = cc
hard_from Book x e f g = and_from x.awaits (not x.driving) f (ap not g)

module _ (goes : Goes) (l : Lengths) (h : ByTheBook l) (seen : ℕ → Seen) where
  abbrev clock : ℕ → Running
  clock k = clock_after l (seen_before seen k)

  abbrev valid : (k : ℕ) → IsValid (clock k)
  valid = valid_at goes l h seen

  quiet : (k : ℕ) → ((i : ℕ) → i < k → (seen i).level ≡ Recessive) → IsQuiet (clock k)
  quiet zero silent = let s = first_silent l h.book in record { level = s.level; sample = s.sample; synced = s.synced }
  quiet (suc k) silent =
      let before = quiet k (λ i less. silent i (omega arith)) in
      let now = silent k (omega arith) in
      let p = passes_at goes l h seen k (now_recessive (clock k) (seen k) now) in
      record {
        level = (leaves goes l h (seen_before seen k) (seen k)).level ∙ now;
        sample = elim (cases_eq (sample_way l (seen_before seen k)) 0) [
          | inl here ↦ (p.sampled here).0 ∙ now
          | inr other ↦ p.unsampled (omega arith) ∙ before.sample
        ];
        synced = false_from_ne_true (clock (suc k)).synced (λ e. (let o = (p.once e).0 in let f = before.synced in cc));
      }

  pub first_hard : (found : ℕ) → FindsTheFirst seen found → SyncsHard l seen found
  first_hard found f =
      let q = quiet found f.silent in
      let counts = counts_then (clock found) (seen found) h.book (valid found).begun f.edge f.driving q.level q.sample q.synced in
      sync_is goes l h (seen_before seen found) (seen found)
      ∙ answer_hard (clock found) (seen found) (valid found) counts (hard_from l.sync (seen found) h.book f.awaits f.driving)
