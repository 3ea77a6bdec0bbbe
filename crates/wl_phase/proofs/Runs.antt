-- The bit clock after any list, and the way to its next sample.
use Rattle.std.proofs.Common.{◌≡◌, ℕ, suc, ◌-◌, ◌<◌, ◌∙◌, cond, List, [], ◌∷◌, ◌++◌, length, false, None, is_some, refl, sym, ap, subst, arith, append_assoc, append-nil}
use Rattle.std.specs.Prelude.{◌==◌, nat_lt}
use Rattle.std.proofs.lemmas.List.{length-replicate, get_or-replicate}
use Rattle.std.proofs.lemmas.Bool.{ltb-true, cond_both, ne_eqb}
use Rattle.wl_level.specs.declared.Level.TheVariants.{Recessive}
use Rattle.wl_level.proofs.Callers.{none_first}
use Rattle.wl_segments.specs.declared.SyncRules.{SyncRules}
use Rattle.wl_segments.specs.declared.SyncRules.TheVariants.{Book}
use Rattle.wl_segments.specs.Lengths.{Lengths, bit_quanta}
use Rattle.wl_sync.specs.declared.Seen.{Seen}
use Rattle.wl_sync.specs.Edges.{edge_counts, longer_by, shorter_by}
use Rattle.wl_sync.specs.Bits.{Bit, unseen, seen_at_place, previous_level, sample_before, is_edge, sync_place, sample_place, last_level, last_sample, first_quanta, beat_of, sync_of}
use Rattle.wl_sync.specs.Running.{Running, running, clock_after}
use Rattle.wl_sync.specs.Steps.{running_after, running_answer, running_beat, running_edge, running_sync}
use Rattle.wl_phase.specs.Ways.{ByTheBook, sample_way, way_after, WayLaws}
use Rattle.wl_phase.specs.InStep.{seen_before}
use Rattle.wl_phase.proofs.Steps.{IsValid, Leaves, Passes, edge_is, none_passes}
use Rattle.wl_phase.proofs.Edges.{step_leaves, answer_error, answer_not, answer_none, driving_not, sample_is, only_is}

pub from_the_end : {A : Type 0} (P : List A → Type 0) → P [] → ((xs : List A) (x : A) → P xs → P (xs ++ x ∷ [])) → (xs : List A) → P xs
from_the_end {A} P none more xs = go [] xs none
  where
    go : (front ys : List A) → P front → P (front ++ ys)
    go front [] p = subst P (sym (append-nil front)) p
    go front (y ∷ ys) p = subst P (append_assoc front (y ∷ []) ys) (go (front ++ y ∷ []) ys (more front y p))

-- the laws of the crate below, of every list
pub record Goes : Type 0 where
  pub clock : (l : Lengths) (past : List Seen) (x : Seen) → clock_after l (past ++ x ∷ []) ≡ running_after (clock_after l past) x
  pub beat : (l : Lengths) (past : List Seen) (x : Seen) → beat_of l past x ≡ running_beat (running_edge (clock_after l past)) x
  pub sync : (l : Lengths) (past : List Seen) (x : Seen) → sync_of l past x ≡ running_answer (running_edge (clock_after l past)) x

-- before the first quantum
module _ (l : Lengths) where
  abbrev silent : SyncRules → Bit
  silent s = record { opening = record { synced = false; sample = Recessive; level = Recessive }; seen = first_quanta s (bit_quanta l) }

  silent_length : length (silent Book).seen ≡ bit_quanta l
  silent_length = length-replicate (bit_quanta l) unseen

  silent_at : (k : ℕ) → k < bit_quanta l → seen_at_place (silent Book) k ≡ unseen
  silent_at k b = get_or-replicate (bit_quanta l) k unseen unseen b

  silent_none : sync_place l (silent Book) ≡ None
  silent_none =
      none_first (is_edge l (silent Book)) (length (silent Book).seen) (λ k b.
      ap (λ s. edge_counts l s (previous_level (silent Book) k) (sample_before l (silent Book) k) k) (silent_at k (let g = silent_length in omega arith)))

  -- what the clock keeps then
  pub record IsSilent (r : Running) : Type 0 where
    pub lengths : r.lengths ≡ l
    pub quanta : r.quanta ≡ bit_quanta l
    pub longer : r.longer ≡ 0
    pub shorter : r.shorter ≡ 0
    pub synced : r.synced ≡ false
    pub level : r.level ≡ Recessive
    pub sample : r.sample ≡ Recessive

  level_silent : last_level (silent Book) ≡ Recessive
  level_silent =
      cond_both (length (silent Book).seen == 0) _ _ (λ v. v ≡ Recessive) (λ e. refl)
      (λ e. at_end (length (silent Book).seen) silent_length)
    where
      at_end : (n : ℕ) → n ≡ bit_quanta l → (seen_at_place (silent Book) (n - 1)).level ≡ Recessive
      at_end n e = ap (λ s. s.level) (silent_at (n - 1) (let g : 0 < bit_quanta l = omega arith in omega arith))

  sample_silent : last_sample l (silent Book) ≡ Recessive
  sample_silent =
      cond_both (nat_lt (sample_place l (silent Book)) (length (silent Book).seen)) _ _ (λ v. v ≡ Recessive)
      (λ e. ap (λ s. s.level) (silent_at (sample_place l (silent Book)) (let f = ltb-true (sample_place l (silent Book)) (length (silent Book).seen) e in let g = silent_length in omega arith)))
      (λ e. refl)

  silent_is : IsSilent (running l (silent Book))
  silent_is = record {
    lengths = refl;
    quanta = silent_length;
    longer = ap (longer_by l) silent_none;
    shorter = ap (shorter_by l) silent_none;
    synced = ap is_some silent_none;
    level = level_silent;
    sample = sample_silent;
  }

  pub first_silent : l.sync ≡ Book → IsSilent (clock_after l [])
  first_silent e = subst (λ s. IsSilent (running l (silent s))) (sym e) silent_is

  pub silent_valid : (r : Running) → ByTheBook l → IsSilent r → IsValid r
  silent_valid r h s =
      let lengths = s.lengths in
      let quanta = s.quanta in
      let longer = s.longer in
      let shorter = s.shorter in
      let low = h.lengths.ps2_low in
      let quanta_is : r.quanta ≡ bit_quanta r.lengths = s.quanta ∙ ap bit_quanta (sym s.lengths) in
      let ps2 : r.lengths.ps2 ≡ l.ps2 = ap (λ k. k.ps2) s.lengths in
      record {
        lengths = subst ByTheBook (sym s.lengths) h;
        begun = omega arith;
        inside = omega arith;
        fresh_longer = λ f. s.longer;
        fresh_shorter = λ f. s.shorter;
        unshortened = λ f. s.shorter;
        shorter = omega arith;
      }

module _ (goes : Goes) (l : Lengths) (h : ByTheBook l) where
  pub valid_after : (past : List Seen) → IsValid (clock_after l past)
  valid_after =
      from_the_end (λ past. IsValid (clock_after l past)) (silent_valid l (clock_after l []) h (first_silent l h.book))
      (λ past x v. subst IsValid (sym (goes.clock l past x)) (step_leaves (clock_after l past) x v).valid)

  -- what the clock is asked
  pub sync_is : (past : List Seen) (x : Seen) → sync_of l past x ≡ running_answer (clock_after l past) x
  sync_is past x = goes.sync l past x ∙ ap (λ r. running_answer r x) (edge_is (clock_after l past) x h.book)

  pub leaves : (past : List Seen) (x : Seen)
      → Leaves (clock_after l past) x (way_after l (sample_way l past) (sync_of l past x)) (clock_after l (past ++ x ∷ []))
  leaves past x =
      subst (Leaves (clock_after l past) x (way_after l (sample_way l past) (sync_of l past x))) (sym (goes.clock l past x))
      (subst (λ o. Leaves (clock_after l past) x (way_after l (sample_way l past) o) (running_after (clock_after l past) x)) (sym (sync_is past x))
      (step_leaves (clock_after l past) x (valid_after past)))

-- the clock at each quantum of what a node sees
module _ (goes : Goes) (l : Lengths) (h : ByTheBook l) (seen : ℕ → Seen) where
  abbrev clock : ℕ → Running
  clock k = clock_after l (seen_before seen k)

  abbrev way : ℕ → ℕ
  way k = sample_way l (seen_before seen k)

  pub valid_at : (k : ℕ) → IsValid (clock k)
  valid_at k = valid_after goes l h (seen_before seen k)

  pub leaves_at : (k : ℕ) → Leaves (clock k) (seen k) (way_after l (way k) (sync_of l (seen_before seen k) (seen k))) (clock (suc k))
  leaves_at k = leaves goes l h (seen_before seen k) (seen k)

  pub passes_at : (k : ℕ) → running_sync (clock k) (seen k) ≡ false → Passes (clock k) (seen k) (clock (suc k))
  passes_at k e = subst (Passes (clock k) (seen k)) (sym (goes.clock l (seen_before seen k) (seen k))) (none_passes (clock k) (seen k) (valid_at k) e)

  pub none_at : (k : ℕ) → running_sync (clock k) (seen k) ≡ false → sync_of l (seen_before seen k) (seen k) ≡ None
  none_at k e = sync_is goes l h (seen_before seen k) (seen k) ∙ answer_none (clock k) (seen k) (valid_at k) e

  -- the way after a quantum that finds no edge which counts
  pub way_down : (k : ℕ) → running_sync (clock k) (seen k) ≡ false → 0 < way k → way (suc k) ≡ way k - 1
  way_down k e some =
      (leaves_at k).way ∙ ap (way_after l (way k)) (none_at k e)
      ∙ ap (λ b. cond b (bit_quanta l - 1) (way k - 1)) (ne_eqb (way k) 0 (λ z. omega arith))

pub way_laws : Goes → WayLaws
way_laws goes = record {
  way = λ l past x h. (leaves goes l h past x).way;
  error = λ l past x error h e. answer_error (clock_after l past) x (valid_after goes l h past) error (sym (sync_is goes l h past x) ∙ e);
  driving = λ l past x h e f. sync_is goes l h past x ∙ answer_none (clock_after l past) x (valid_after goes l h past)
      (driving_not (clock_after l past) x (valid_after goes l h past) e f);
  sample = λ l past x h e f. goes.beat l past x ∙ sample_is (clock_after l past) x (valid_after goes l h past)
      (answer_not (clock_after l past) x (valid_after goes l h past) (sym (sync_is goes l h past x) ∙ e)) f;
  only = λ l past x level h e. (let o = only_is (clock_after l past) x (valid_after goes l h past) level (sym (goes.beat l past x) ∙ e) in
      (sync_is goes l h past x ∙ o.0, o.1));
}
