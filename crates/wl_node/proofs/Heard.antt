-- Quanta of one level up to a sample that the machine only keeps, and with it.
use Rattle.std.proofs.Common.{◌≡◌, ◌∙◌, ℕ, suc, ◌+◌, ◌<◌, inl, inr, List, [], ◌∷◌, ◌++◌, length, replicate, sym, ap, subst, arith, append-nil, length-append}
use Rattle.std.proofs.lemmas.Bool.{cases_lt}
use Rattle.std.proofs.lemmas.List.{length-replicate}
use Rattle.wl_level.specs.declared.Level.{Level}
use Rattle.wl_level.proofs.Callers.{snoc}
use Rattle.wl_sync.specs.declared.Beat.{Beat}
use Rattle.wl_sync.specs.declared.Seen.{Seen}
use Rattle.wl_sync.specs.Bits.{sync_of}
use Rattle.wl_sync.specs.Running.{clock_after}
use Rattle.wl_sync.specs.Skips.{IsSampledAfter}
use Rattle.wl_node.specs.declared.setup.NodeSetup.{NodeSetup}
use Rattle.wl_node.specs.declared.traffic.Traffic.{Traffic}
use Rattle.wl_node.specs.declared.progress.NodeProgress.{NodeProgress}
use Rattle.wl_node.specs.History.{History, staying_history, history_after, history_after_sample, seen_next, by_beat, syncs_at}
use Rattle.wl_node.specs.Kept.{IsProgress, IsTraffic, FitsHistory}
use Rattle.wl_node.specs.Quiet.{pending_of}
use Rattle.wl_node.proofs.Skipped.{seen_more, same_history, IsIdleFor, history_skipped}
use Rattle.wl_node.proofs.Turns.{history_next}

-- what is kept of the samples doesn't depend on what the bit clock saw
pub traffic_seen : (setup : NodeSetup) (kept : Traffic) (h : History) (seen : List Seen) → IsTraffic setup kept h → IsTraffic setup kept (record h { seen = seen })
traffic_seen setup kept h seen is = record {
  machine = is.machine;
  counters = is.counters;
  pending = is.pending;
  unsent = is.unsent;
  errors = is.errors;
  samples = is.samples;
  sampled = is.sampled;
  frames = is.frames;
  sends = is.sends;
}

module _ (setup : NodeSetup) (levels : List Level) (level : Level) (n : ℕ)
    (is : IsSampledAfter setup.segments (staying_history setup levels).seen (seen_next (staying_history setup levels) level) n)
    (settled : (staying_history setup levels).drive ≡ pending_of (staying_history setup levels)) where
  abbrev h : History
  h = staying_history setup levels

  abbrev x : Seen
  x = seen_next h level

  -- up to the sample
  abbrev pub up_to : History
  up_to = seen_more h (replicate n x)

  idle : IsIdleFor setup h level n
  idle = record { unmoved = λ m less. is.unmoved m (omega arith); unsampled = is.unsampled; starts = λ m less e. settled }

  pub up_to_long : length up_to.seen ≡ length h.seen + n
  up_to_long = length-append h.seen (replicate n x) ∙ ap (λ k. length h.seen + k) (length-replicate n x)

  abbrev after : History
  after = record (history_after_sample setup up_to level) { seen = h.seen ++ replicate (suc n) x; syncs = h.syncs }

  pub heard_history : staying_history setup (levels ++ replicate (suc n) level) ≡ after
  heard_history =
      ap (staying_history setup) (snoc levels level n)
      ∙ history_next setup (levels ++ replicate n level) level
      ∙ ap (λ (g : History). history_after setup g level) (history_skipped setup levels level n n (omega arith) idle)
      ∙ ap (λ (b : Beat). record (by_beat setup up_to level b) { seen = up_to.seen ++ x ∷ []; syncs = h.syncs ++ syncs_at (length up_to.seen) (sync_of setup.segments up_to.seen x) }) is.sampled
      ∙ same_history (history_after_sample setup up_to level) (sym (snoc h.seen x n))
      (ap (λ s. h.syncs ++ syncs_at (length up_to.seen) s) (is.unmoved n (omega arith)) ∙ append-nil h.syncs)

  -- where it puts what a node keeps
  pub heard_place : (old new : NodeProgress) → IsProgress setup old levels → new.clock ≡ clock_after setup.segments (h.seen ++ replicate (suc n) x) → new.drive ≡ old.drive
      → new.syncs ≡ old.syncs → new.traffic.samples.keeps ≡ old.traffic.samples.keeps → new.quanta ≡ old.quanta + suc n → IsTraffic setup new.traffic (history_after_sample setup up_to level)
      → IsProgress setup new (levels ++ replicate (suc n) level)
  heard_place old new was clock drive syncs keeps quanta traffic =
      let long : length after.seen ≡ length h.seen + suc n = length-append h.seen (replicate (suc n) x) ∙ ap (λ k. length h.seen + k) (length-replicate (suc n) x) in
      record {
        counted = ap (λ (k : History). length k.seen) heard_history ∙ long ∙ ap (λ k. k + suc n) was.counted
            ∙ sym (length-append levels (replicate (suc n) level) ∙ ap (λ k. length levels + k) (length-replicate (suc n) level));
        place = subst (FitsHistory setup new) (sym heard_history) (record {
          clock = clock;
          drive = drive ∙ was.place.drive;
          quanta = quanta ∙ ap (λ k. k + suc n) was.place.quanta ∙ sym long;
          syncs = record {
            phases = λ on. ap (λ s. s.phases.items) syncs ∙ was.place.syncs.phases (sym (ap (λ s. s.keeps) syncs) ∙ on);
            totals = ap (λ s. s.totals) syncs ∙ was.place.syncs.totals;
            hards = ap (λ s. s.hards) syncs ∙ was.place.syncs.hards;
          };
          same = ap (λ s. s.keeps) syncs ∙ (was.place.same ∙ sym keeps);
          traffic = record {
            machine = traffic.machine;
            counters = traffic.counters;
            pending = traffic.pending;
            unsent = traffic.unsent;
            errors = traffic.errors;
            samples = traffic.samples;
            sampled = traffic.sampled;
            frames = traffic.frames;
            sends = traffic.sends;
          };
        });
      }

  -- the drive stays
  pub heard_drive : (m : ℕ) → m < suc (suc n) → (staying_history setup (levels ++ replicate m level)).drive ≡ (staying_history setup levels).drive
  heard_drive m less = elim (cases_lt n m) [
    | inl last ↦ (let e : suc n ≡ m = omega arith in subst (λ k. (staying_history setup (levels ++ replicate k level)).drive ≡ (staying_history setup levels).drive) e (ap (λ (g : History). g.drive) heard_history))
    | inr before ↦ ap (λ (g : History). g.drive) (history_skipped setup levels level n m before idle)
  ]
