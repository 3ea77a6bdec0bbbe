-- Quanta of one level in two parts, and one quantum that is no sample.
use Rattle.std.proofs.Common.{◌≡◌, ◌≢◌, ◌∙◌, ℕ, suc, ◌+◌, ◌-◌, inl, inr, [], ◌∷◌, ◌++◌, length, replicate, refl, sym, ap, arith}
use Rattle.std.proofs.lemmas.Bool.{cases_lt}
use Rattle.wl_level.specs.declared.Level.{Level}
use Rattle.wl_sync.specs.declared.Beat.TheVariants.{Sample}
use Rattle.wl_sync.specs.Bits.{beat_of, sync_of}
use Rattle.wl_node.specs.declared.setup.NodeSetup.{NodeSetup}
use Rattle.wl_node.specs.declared.progress.NodeProgress.{NodeProgress}
use Rattle.wl_node.specs.History.{History, staying_history, history_after, seen_next, syncs_at}
use Rattle.wl_node.specs.Kept.{FitsQuanta, HasProgressedBy, KeepsCounts, KeepsDrive, sync_count}
use Rattle.wl_node.specs.Quiet.{pending_of}
use Rattle.wl_node.proofs.Gone.{joined}
use Rattle.wl_node.proofs.Skipped.{nothing_done}

-- what is counted, after no quantum, after some that count nothing else, and after some more
pub kept_same : {n : ℕ} {old new : NodeProgress} → FitsQuanta old → new.quanta ≡ old.quanta + n → sync_count new.syncs ≡ sync_count old.syncs
    → new.traffic.errors ≡ old.traffic.errors → new.traffic.samples.count ≡ old.traffic.samples.count → new.traffic.samples.keeps ≡ old.traffic.samples.keeps → KeepsCounts n old new
kept_same fits quanta syncs errors samples lists = record {
  quanta = quanta;
  fits = record { syncs = omega (arith, fits.syncs, quanta, syncs); errors = omega (arith, fits.errors, quanta, errors); samples = omega (arith, fits.samples, quanta, samples) };
  lists = lists;
}

pub kept_none : {kept : NodeProgress} → FitsQuanta kept → KeepsCounts 0 kept kept
kept_none fits = kept_same fits (omega arith) refl refl refl refl

pub kept_more : {a b : ℕ} {old mid new : NodeProgress} → KeepsCounts a old mid → KeepsCounts b mid new → KeepsCounts (a + b) old new
kept_more first second = record { quanta = omega (arith, first.quanta, second.quanta); fits = second.fits; lists = second.lists ∙ first.lists }

-- so many quanta, and so many more
module _ (setup : NodeSetup) (level : Level) (a b : ℕ) (old mid new : NodeProgress) (first : HasProgressedBy setup level a old mid) where
  pub progressed_more : HasProgressedBy setup level b mid new → HasProgressedBy setup level (a + b) old new
  progressed_more second levels is =
      (let more = second (levels ++ replicate a level) (first levels is) in rw (sym (joined levels level a b)) more)

  pub keeps_more : KeepsDrive setup level (suc a) old → KeepsDrive setup level (suc b) mid → KeepsDrive setup level (suc (a + b)) old
  keeps_more stood stands m less levels is = elim (cases_lt m (suc a)) [
    | inl before ↦ stood m before levels is
    | inr behind ↦
        (let e : m ≡ a + (m - a) = omega (arith, behind) in
        ap (λ k. (staying_history setup (levels ++ replicate k level)).drive) e
        ∙ ap (λ ls. (staying_history setup ls).drive) (sym (joined levels level a (m - a)))
        ∙ stands (m - a) (omega (arith, less, behind)) (levels ++ replicate a level) (first levels is)
        ∙ stood a (omega arith) levels is)
  ]

-- a quantum that is no sample, in a node that drives what its machine wants, changes nothing but what was seen and how it synchronised
pub quantum_alone : (setup : NodeSetup) (h : History) (level : Level)
    → ((v : Level) → beat_of setup.segments h.seen (seen_next h level) ≢ Sample v) → h.drive ≡ pending_of h
    → history_after setup h level
    ≡ record h { seen = h.seen ++ seen_next h level ∷ []; syncs = h.syncs ++ syncs_at (length h.seen) (sync_of setup.segments h.seen (seen_next h level)) }
quantum_alone setup h level unsampled settled =
    ap (λ (g : History). record g { seen = h.seen ++ seen_next h level ∷ []; syncs = h.syncs ++ syncs_at (length h.seen) (sync_of setup.segments h.seen (seen_next h level)) })
    (nothing_done setup h level (beat_of setup.segments h.seen (seen_next h level)) unsampled (λ e. settled))
