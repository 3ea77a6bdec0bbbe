-- An edge that doesn't begin a bit again synchronises only a bit that has not synchronised.
use Rattle.std.proofs.Common.{◌≡◌, Bool, true, false, ◌&&◌, ◌||◌, not, refl}
use Rattle.std.proofs.lemmas.Bool.{and_parts, or_parts}
use Rattle.std.specs.Prelude.{◌+◌, ◌-◌, nat_lt, nat_le}
use Rattle.wl_segments.specs.declared.SyncRules.{SyncRules}
use Rattle.wl_segments.specs.declared.SyncRules.TheVariants.{After, Book}
use Rattle.wl_segments.specs.Lengths.{sample_at, bit_quanta, found_at}
use Rattle.wl_sync.specs.Edges.{Seen, again_by, counts_at, is_hard_edge, restarts_at}
use Rattle.wl_sync.specs.Running.{Running}
use Rattle.wl_sync.specs.Steps.{running_counts, running_sync, running_restart}

again_hard : (s : SyncRules) (hard integrates : Bool) → again_by s hard integrates ≡ true → hard ≡ true
again_hard After hard integrates e = cc
again_hard Book hard integrates e = (and_parts hard integrates e).0

fresh_by : (counts synced again hard near : Bool) → (again ≡ true → hard ≡ true) → (counts && (not synced || again)) ≡ true
    → ((counts && (not synced || again)) && (hard || near)) ≡ false → synced ≡ false
fresh_by counts false again hard near g e f = refl
fresh_by true true true hard near g e f = (let h = g refl in let k = (or_parts hard near f).0 in cc)
fresh_by true true false hard near g e f = cc
fresh_by false true again hard near g e f = cc

pub fresh_hard : (r : Running) (x : Seen) (hard : Bool) → running_counts r x hard ≡ true
    → (running_counts r x hard && restarts_at r.lengths hard r.quanta) ≡ false → r.synced ≡ false
fresh_hard r x hard e f =
    fresh_by (counts_at r.lengths x.level hard x.driving r.level r.sample r.quanta) r.synced (again_by r.lengths.sync hard x.integrates) hard
    (nat_lt (sample_at r.lengths) r.quanta && nat_le (found_at r.lengths + bit_quanta r.lengths - r.quanta) r.lengths.sjw)
    (again_hard r.lengths.sync hard x.integrates) e f

pub sync_fresh : (r : Running) (x : Seen) → running_sync r x ≡ true → running_restart r x ≡ false → r.synced ≡ false
sync_fresh r x e f = fresh_hard r x (is_hard_edge r.lengths.sync x) e f

once_by : (counts synced again hard near : Bool) → (again ≡ true → hard ≡ true)
    → ((counts && (not synced || again)) && (hard || near)) ≡ false → (counts && (not synced || again)) ≡ (counts && not synced)
once_by false synced again hard near g f = refl
once_by true false again hard near g f = refl
once_by true true true hard near g f = (let h = g refl in let k = (or_parts hard near f).0 in cc)
once_by true true false hard near g f = refl

-- so then it counts if it would be the first
pub sync_once : (r : Running) (x : Seen) → running_restart r x ≡ false
    → running_sync r x ≡ (counts_at r.lengths x.level (is_hard_edge r.lengths.sync x) x.driving r.level r.sample r.quanta && not r.synced)
sync_once r x f =
    once_by (counts_at r.lengths x.level (is_hard_edge r.lengths.sync x) x.driving r.level r.sample r.quanta) r.synced
    (again_by r.lengths.sync (is_hard_edge r.lengths.sync x) x.integrates) (is_hard_edge r.lengths.sync x)
    (nat_lt (sample_at r.lengths) r.quanta && nat_le (found_at r.lengths + bit_quanta r.lengths - r.quanta) r.lengths.sjw)
    (again_hard r.lengths.sync (is_hard_edge r.lengths.sync x) x.integrates) f

pub either_sync : (counts fresh again : Bool) → ((counts && fresh) || (counts && again)) ≡ (counts && (fresh || again))
either_sync true fresh again = refl
either_sync false fresh again = refl
