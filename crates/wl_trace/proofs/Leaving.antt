-- A node that runs again and may leave the bus: before it leaves it is one that stays, and after that nothing changes.
use Rattle.std.proofs.Common.{◌≡◌, ◌∙◌, ℕ, zero, suc, Option, Some, nat_le, take, length-append, ◌<◌, ◌≤◌, Bool, true, false, List, [], ◌++◌, length, replicate, None, refl, sym, ap, subst, arith, append-nil}
use Rattle.std.proofs.lemmas.Bool.{le-leb, leb-true, leb-false, lt-leb, lt-ltb, ltb-true, ltb-false}
use Rattle.std.proofs.lemmas.List.{length-replicate, length-take}
use Rattle.wl_level.specs.declared.Level.{Level}
use Rattle.wl_level.specs.declared.Level.TheVariants.{Recessive}
use Rattle.wl_node.specs.declared.setup.NodeSetup.{NodeSetup}
use Rattle.wl_node.specs.History.{levels_there, levels_away, is_after, has_left, quanta_before}
use Rattle.wl_node.proofs.Callers.{AreThere, HaveLeft, all_of, are_there, away_drive, have_left, history_there, left_is, not_left, not_left_is, same_past}
use Rattle.wl_trace.specs.declared.staying_rerun.StayingRerun.{StayingRerun}
use Rattle.wl_trace.specs.Rerun.{samples_seen}
use Rattle.wl_trace.specs.StayingRerun.{IsStayingRerun, RunsStaying, staying_samples}
use Rattle.wl_trace.specs.Snapshot.{mark, snapshot_of, staying_snapshot}
use Rattle.wl_trace.specs.Starts.{starts_of, staying_starts}
use Rattle.wl_trace.specs.States.{node_state_of, state_by}
use Rattle.wl_confine.specs.Counts.{counts_of}
use Rattle.wl_machine.specs.Judged.{stretch_of}

-- what is shown of a node that is there
pub shown_there : (setup : NodeSetup) (levels : List Level) → AreThere setup.until levels → snapshot_of setup levels ≡ staying_snapshot setup levels
shown_there setup levels at i = record {
  drive = (history_there setup levels at.there at.away i).drive;
  sampled = mark (length (history_there setup levels at.there at.away i).samples);
  started = mark (length (staying_starts setup (at.there i)));
  state = node_state_of (history_there setup levels at.there at.away i);
}

-- and of one that has left
pub shown_away : (setup : NodeSetup) (levels : List Level) → 0 < length (levels_away setup.until levels)
    → snapshot_of setup levels ≡ record (staying_snapshot setup (levels_there setup.until levels)) { drive = Recessive }
shown_away setup levels some i =
    (let past = same_past setup levels in
    record {
      drive = away_drive setup levels some i;
      sampled = mark (length (past.samples i));
      started = mark (length (starts_of setup levels));
      state = state_by (counts_of (past.happened i)) (stretch_of (past.inputs i));
    })

-- whether it is away goes by the levels that it saw, also by those before it left
pub away_there : (until : Option ℕ) (levels : List Level) → is_after until (length (levels_there until levels)) ≡ is_after until (length levels)
away_there None levels = refl
away_there (Some n) levels = by (nat_le n (length levels)) refl
  where
    by : (b : Bool) → nat_le n (length levels) ≡ b → nat_le n (length (take n levels)) ≡ nat_le n (length levels)
    by true e = le-leb n (length (take n levels)) (let t = length-take n levels in let l = leb-true n (length levels) e in omega (arith, t, l)) ∙ sym e
    by false e = lt-leb n (length (take n levels)) (let t = length-take n levels in let l = leb-false n (length levels) e in omega (arith, t, l)) ∙ sym e

-- so many more levels come before it leaves
pub there_on : (until : Option ℕ) (levels : List Level) (level : Level) (n most : ℕ) → AreThere until levels → n ≤ quanta_before until (length levels) most → AreThere until (levels ++ replicate n level)
there_on until levels level zero most at few = subst (AreThere until) (sym (append-nil levels)) at
there_on until levels level (suc n) most at few =
    are_there until levels (replicate (suc n) level) (length levels) (suc n) (ap length (sym at.there)) (omega arith) (by until few) (let l = length-replicate (suc n) level in omega (arith, l))
  where
    by : (until : Option ℕ) → suc n ≤ quanta_before until (length levels) most → suc n ≤ quanta_before until (length levels) (suc n)
    by None few = omega arith
    by (Some k) few = omega (arith, few)

-- after it has left, or with a level at which it leaves, it has
pub left_on : (until : Option ℕ) (levels : List Level) (level : Level) (n : ℕ) → is_after until (length levels) ≡ true → 0 < n
    → HaveLeft until levels (replicate n level) × (has_left until (levels ++ replicate n level) ≡ true)
left_on until levels level n after some =
    (let left = have_left until levels (replicate n level) (length (levels_there until levels)) refl (away_there until levels ∙ after) in
    let a = left.away in
    let l = length-replicate n level in
    (left, left_is until (levels ++ replicate n level) ∙ lt-ltb 0 (length (levels_away until (levels ++ replicate n level))) (omega (arith, a, l, some))))

-- one that has left is after the quantum at which it left
pub left_after : (until : Option ℕ) (levels : List Level) → has_left until levels ≡ true → is_after until (length levels) ≡ true
left_after None levels e = cc
left_after (Some n) levels e = le-leb n (length levels) (let l = ltb-true n (length levels) e in omega (arith, l))

pub not_away : (until : Option ℕ) (levels : List Level) → has_left until levels ≡ false → AreThere until levels
not_away until levels e = not_left until levels (let n = ltb-false 0 (length (levels_away until levels)) (sym (left_is until levels) ∙ e) in omega (arith, n))

pub there_left : (until : Option ℕ) (levels : List Level) → AreThere until levels → has_left until levels ≡ false
there_left until levels at = not_left_is until levels (ap length at.away)

-- one that runs again with its starts runs again
pub runs_on : {setup : NodeSetup} {levels : List Level} {kept : StayingRerun} → IsStayingRerun setup levels kept → RunsStaying setup levels kept
runs_on {setup} {levels} is = record { starts = length (staying_starts setup levels); clock = is.clock; run = is.run; fewer = is.fewer }

-- so many quanta come before it leaves, at least one
pub before_it : (until : Option ℕ) (levels : List Level) (level : Level) (most : ℕ) → most ≤ quanta_before until (length levels) most → 0 < most
    → AreThere until levels × AreThere until (levels ++ replicate most level)
before_it None levels level most few some = (record { there = refl; away = refl }, record { there = refl; away = refl })
before_it (Some n) levels level most few some =
    (let l = length-replicate most level in
    let a = length-append levels (replicate most level) in
    (all_of n levels (omega (arith, few, some)), all_of n (levels ++ replicate most level) (omega (arith, few, some, l, a))))

-- of so many quanta that come before it leaves, fewer do
pub fewer_there : (until : Option ℕ) (quantum most n : ℕ) → n ≤ quanta_before until quantum most → n ≤ quanta_before until quantum n
fewer_there None quantum most n few = omega arith
fewer_there (Some k) quantum most n few = omega (arith, few)

-- where it isn't away, at least one comes before it leaves
pub some_there : (until : Option ℕ) (quantum most : ℕ) → is_after until quantum ≡ false → 0 < most → 0 < quanta_before until quantum most
some_there None quantum most here some = some
some_there (Some k) quantum most here some = (let l = leb-false k quantum here in omega (arith, l, some))

-- its samples are those of a node that stays, by the levels before it leaves
pub samples_there : (setup : NodeSetup) (levels more : List Level) (sampled : List (ℕ × Level)) → levels_there setup.until levels ≡ levels
    → levels_there setup.until more ≡ more → staying_samples setup more ≡ staying_samples setup levels ++ sampled → samples_seen setup more ≡ samples_seen setup levels ++ sampled
samples_there setup levels more sampled before after e =
    (same_past setup more).samples ∙ ap (staying_samples setup) after ∙ e
    ∙ ap (λ (xs : List (ℕ × Level)). xs ++ sampled) (sym ((same_past setup levels).samples ∙ ap (staying_samples setup) before))

-- and no more come after that
pub samples_away : (setup : NodeSetup) (levels more : List Level) → levels_there setup.until more ≡ levels_there setup.until levels
    → samples_seen setup more ≡ samples_seen setup levels ++ []
samples_away setup levels more e =
    (same_past setup more).samples ∙ ap (staying_samples setup) e ∙ sym (same_past setup levels).samples ∙ sym (append-nil (samples_seen setup levels))
