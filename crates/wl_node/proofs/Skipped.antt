-- A node's history, so many quanta of one level longer, in which no bit is sampled, no edge synchronises one and no start changes the drive.
use Rattle.std.proofs.Common.{◌≡◌, ◌≢◌, ◌∙◌, ℕ, zero, suc, ◌<◌, ◌≤◌, Bool, true, false, List, [], ◌∷◌, ◌++◌, Option, None, length, replicate, refl, ap, sym, arith, append-nil}
use Rattle.wl_level.specs.declared.Level.{Level}
use Rattle.wl_level.proofs.Callers.{snoc}
use Rattle.wl_sync.specs.declared.Beat.{Beat}
use Rattle.wl_sync.specs.declared.Beat.TheVariants.{Plain, Sample, Start}
use Rattle.wl_sync.specs.declared.Sync.{Sync}
use Rattle.wl_sync.specs.declared.Seen.{Seen}
use Rattle.wl_sync.specs.Bits.{beat_of, sync_of}
use Rattle.wl_sync.specs.Skips.{IsUnmoved, IsUnsampled, IsPlain}
use Rattle.wl_node.specs.declared.setup.NodeSetup.{NodeSetup}
use Rattle.wl_node.specs.History.{History, staying_history, history_after, seen_next, by_beat, syncs_at}
use Rattle.wl_node.specs.Quiet.{pending_of}
use Rattle.wl_node.proofs.Turns.{history_next}

-- the history that has seen more, and nothing happened
abbrev pub seen_more : History → List Seen → History
seen_more h more = record h { seen = h.seen ++ more }

pub same_history : (h : History) {seen seen' : List Seen} {syncs syncs' : List (ℕ × Sync)} → seen ≡ seen' → syncs ≡ syncs'
    → ◌≡◌ {A = History} (record h { seen = seen; syncs = syncs }) (record h { seen = seen'; syncs = syncs' })
same_history h e f i = record h { seen = e i; syncs = f i }

-- a start that leaves the drive as it is does nothing
pub nothing_done : (setup : NodeSetup) (h : History) (level : Level) (b : Beat) → ((v : Level) → b ≢ Sample v) → (b ≡ Start → h.drive ≡ pending_of h) → by_beat setup h level b ≡ h
nothing_done setup h level Plain unsampled starts = refl
nothing_done setup h level Start unsampled starts = λ i. record h { drive = sym (starts refl) i }
nothing_done setup h level (Sample v) unsampled starts = absurd (unsampled v refl)

step : (setup : NodeSetup) (h : History) (level : Level)
    → ((v : Level) → beat_of setup.segments h.seen (seen_next h level) ≢ Sample v) → (beat_of setup.segments h.seen (seen_next h level) ≡ Start → h.drive ≡ pending_of h)
    → sync_of setup.segments h.seen (seen_next h level) ≡ None
    → history_after setup h level ≡ seen_more h (seen_next h level ∷ [])
step setup h level unsampled starts sync =
    ap (λ (g : History). record g { seen = h.seen ++ seen_next h level ∷ []; syncs = h.syncs ++ syncs_at (length h.seen) (sync_of setup.segments h.seen (seen_next h level)) })
    (nothing_done setup h level (beat_of setup.segments h.seen (seen_next h level)) unsampled starts)
    ∙ ap (λ (s : Option Sync). record h { seen = h.seen ++ seen_next h level ∷ []; syncs = h.syncs ++ syncs_at (length h.seen) s }) sync
    ∙ same_history h refl (append-nil h.syncs)

-- so many quanta change nothing but what was seen
pub record IsIdleFor (setup : NodeSetup) (h : History) (level : Level) (n : ℕ) : Type 0 where
  pub unmoved : IsUnmoved setup.segments h.seen (seen_next h level) n
  pub unsampled : IsUnsampled setup.segments h.seen (seen_next h level) n
  pub starts : (m : ℕ) → m < n → beat_of setup.segments (h.seen ++ replicate m (seen_next h level)) (seen_next h level) ≡ Start → h.drive ≡ pending_of h

pub history_skipped : (setup : NodeSetup) (levels : List Level) (level : Level) (n m : ℕ) → m ≤ n → IsIdleFor setup (staying_history setup levels) level n
    → staying_history setup (levels ++ replicate m level) ≡ seen_more (staying_history setup levels) (replicate m (seen_next (staying_history setup levels) level))
history_skipped setup levels level n zero less is =
    ap (staying_history setup) (append-nil levels) ∙ same_history (staying_history setup levels) (sym (append-nil (staying_history setup levels).seen)) refl
history_skipped setup levels level n (suc m) less is =
    let h : History = staying_history setup levels in
    let x : Seen = seen_next h level in
    ap (staying_history setup) (snoc levels level m)
    ∙ history_next setup (levels ++ replicate m level) level
    ∙ ap (λ (g : History). history_after setup g level) (history_skipped setup levels level n m (omega arith) is)
    ∙ step setup (seen_more h (replicate m x)) level (λ v. is.unsampled m v (omega arith)) (is.starts m (omega arith)) (is.unmoved m (omega arith))
    ∙ same_history h (sym (snoc h.seen x m)) refl

-- by whether the node drives what its machine wants: where it does not, none of the quanta begins a bit
pub no_starts : (setup : NodeSetup) (h : History) (x : Seen) (n : ℕ) (settled : Bool) → (settled ≡ true → h.drive ≡ pending_of h) → (settled ≡ false → IsPlain setup.segments h.seen x n)
    → (m : ℕ) → m < n → beat_of setup.segments (h.seen ++ replicate m x) x ≡ Start → h.drive ≡ pending_of h
no_starts setup h x n true same plain m less e = same refl
no_starts setup h x n false same plain m less e = (let f = plain refl m less in cc)
