-- Advances one after another, and one.
use Rattle.std.proofs.Common.{◌≡◌, ◌⊎◌, inl, inr, ℕ, ◌<◌, ◌≤◌, Bool, true, false, not, ◌&&◌, nat_lt, nat_le, arith, List, ◌++◌, refl, sym, ◌∙◌, ap, subst, append-nil, append_assoc, if◌then◌else◌, Some}
use Rattle.std.proofs.lemmas.Bool.{cond-true, and_parts, ltb-true, lt-leb, le-leb, true≢false, false≢true}
use Rattle.wl_record_core.specs.declared.record.Record.{Record}
use Rattle.wl_plan.specs.PlanLine.{line_of}
use Rattle.wl_replica.specs.State.{slots_of}
use Rattle.wl_replica.specs.Known.{place_horizon}
use Rattle.wl_group.specs.Member.{next_tick, can_run}
use Rattle.wl_group.specs.Party.{Party}
use Rattle.wl_group.specs.Advanced.{emitted, blocked, ended, can_advance, run_next, HasAdvanced}
use Rattle.wl_group.specs.GroupValue.{GroupValue, Matches, quanta_at, belongs, members_now, may_run, emission_at, run_on}
use Rattle.wl_group.specs.Running.{HasRunNext, HasReplied, Ran, none, more}
use Rattle.wl_group.specs.ValueLaws.{ValueLaws}
use Rattle.wl_group.proofs.Facts.{is_there}
use Rattle.wl_group.proofs.AdvanceProofs.{advance_laws}

-- a node that may run, and ran, advanced
pub advanced_so : (old new : GroupValue) (i : ℕ) (said : List Record) → ((p : Party) → Matches p old → can_advance (line_of old.plan) (belongs old) p i ≡ true)
    → HasRunNext i old new said → HasAdvanced {G = GroupValue} Matches (line_of old.plan) (belongs old) i old new (emitted said)
advanced_so old new i said can ran = record {
  reply = λ p h. ap emitted (ran.emitted p h) ∙ sym ((advance_laws.emitted_iff (line_of old.plan) (belongs old) p i).1 (can p h));
  after = λ p h. subst (λ (q : Party). Matches q new) (sym (cond-true (can_advance (line_of old.plan) (belongs old) p i) (run_next (line_of old.plan) i p) p (can p h))) (ran.after p h);
  refused = λ h. absurd (neither h);
}
  where
    neither : (emitted said ≡ blocked) ⊎ (emitted said ≡ ended) → ⊥
    neither (inl h) = cc
    neither (inr h) = cc

-- ---- by the value alone

emitted_by : (b e r : Bool) (x : List Record) → (b && r) ≡ true → e ≡ false → (if not b then blocked else if e then ended else if r then emitted x else blocked) ≡ emitted x
emitted_by true false true x h f = refl
emitted_by true false false x h f = absurd (false≢true h)
emitted_by true true r x h f = absurd (true≢false f)
emitted_by false e r x h f = absurd (false≢true h)

ended_by : (b e r : Bool) (x : List Record) → b ≡ true → e ≡ true → (if not b then blocked else if e then ended else if r then emitted x else blocked) ≡ ended
ended_by true true r x h f = refl
ended_by true false r x h f = absurd (false≢true f)
ended_by false e r x h f = absurd (false≢true h)

blocked_by : (b e r : Bool) (x : List Record) → (b && r) ≡ false → (b ≡ true → e ≡ false) → (if not b then blocked else if e then ended else if r then emitted x else blocked) ≡ blocked
blocked_by false e r x h f = refl
blocked_by true true r x h f = absurd (true≢false (f refl))
blocked_by true false true x h f = absurd (true≢false h)
blocked_by true false false x h f = refl

-- a quantum that may run is not at the end
not_ended : (g : GroupValue) (i : ℕ) → may_run g i ≡ true → next_tick (line_of g.plan) i (members_now g i) < g.plan.end
not_ended g i may =
    let l = line_of g.plan in
    let c = and_parts (belongs g i) (can_run l i (members_now g i) (slots_of g.replica)) may in
    ltb-true (next_tick l i (members_now g i)) l.stop (and_parts (nat_lt (next_tick l i (members_now g i)) l.stop) (nat_lt (next_tick l i (members_now g i)) (place_horizon l.nodes l.delay (slots_of g.replica) i)) c.1).0

pub replied_emitted : (old new : GroupValue) (i : ℕ) (said : List Record) → may_run old i ≡ true → HasRunNext i old new said → HasReplied i old new (emitted said)
replied_emitted old new i said may ran = record {
  reply = ap emitted ran.emits
      ∙ sym (emitted_by (belongs old i) (nat_le old.plan.end (next_tick (line_of old.plan) i (members_now old i))) (can_run (line_of old.plan) i (members_now old i) (slots_of old.replica)) (emission_at old i) may
      (lt-leb old.plan.end (next_tick (line_of old.plan) i (members_now old i)) (not_ended old i may)));
  ran = λ m k e. ran.runs k e;
  stays = λ n. absurd (false≢true (sym n ∙ may));
}

pub replied_ended : (g : GroupValue) (i : ℕ) → belongs g i ≡ true → g.plan.end ≤ next_tick (line_of g.plan) i (members_now g i) → HasReplied i g g ended
replied_ended g i member late = record {
  reply = sym (ended_by (belongs g i) (nat_le g.plan.end (next_tick (line_of g.plan) i (members_now g i))) (can_run (line_of g.plan) i (members_now g i) (slots_of g.replica)) (emission_at g i) member
      (le-leb g.plan.end (next_tick (line_of g.plan) i (members_now g i)) late));
  ran = λ may k e. (let f = not_ended g i may in absurd (omega arith));
  stays = λ n. refl;
}

pub replied_blocked : (g : GroupValue) (i : ℕ) → may_run g i ≡ false → (belongs g i ≡ true → next_tick (line_of g.plan) i (members_now g i) < g.plan.end) → HasReplied i g g blocked
replied_blocked g i may early = record {
  reply = sym (blocked_by (belongs g i) (nat_le g.plan.end (next_tick (line_of g.plan) i (members_now g i))) (can_run (line_of g.plan) i (members_now g i) (slots_of g.replica)) (emission_at g i) may
      (λ member. lt-leb g.plan.end (next_tick (line_of g.plan) i (members_now g i)) (early member)));
  ran = λ m k e. absurd (false≢true (sym may ∙ m));
  stays = λ n. refl;
}

-- ---- quanta one after another

-- one more, after the others
ran_end : (g h : GroupValue) (rs : List Record) (i k : ℕ) → Ran g rs h → quanta_at h i ≡ Some k → may_run h i ≡ true → Ran g (rs ++ emission_at h i) (run_on i k h)
ran_end g h rs i k (none {g = x}) e may = subst (λ es. Ran x es (run_on i k x)) (append-nil (emission_at x i)) (more i k e may none)
ran_end g h rs i k (more {g = x} {h = y} {rs = rest} j n f can steps) e may =
    subst (λ es. Ran x es (run_on i k y)) (sym (append_assoc (emission_at x j) rest (emission_at y i))) (more j n f can (ran_end (run_on j n x) y rest i k steps e may))

pub ran_more : (old now new : GroupValue) (rs said : List Record) (i : ℕ) → Ran old rs now → may_run now i ≡ true → HasRunNext i now new said → Ran old (rs ++ said) new
ran_more old now new rs said i ran may next =
    let q = is_there (quanta_at now i) (and_parts (belongs now i) (can_run (line_of now.plan) i (members_now now i) (slots_of now.replica)) may).0 in
    subst (λ (v : GroupValue). Ran old (rs ++ said) v) (sym (next.runs q.0 q.1))
    (subst (λ es. Ran old (rs ++ es) (run_on i q.0 now)) (sym next.emits) (ran_end old now rs i q.0 ran q.1 may))

pub ran_plan : (g h : GroupValue) (rs : List Record) → Ran g rs h → h.plan ≡ g.plan
ran_plan g h rs (none {g = x}) = refl
ran_plan g h rs (more {g = x} {h = y} {rs = rest} i k e may steps) = ran_plan (run_on i k x) y rest steps

pub ran_lists : (g h : GroupValue) (rs : List Record) → Ran g rs h → h.lists ≡ g.lists
ran_lists g h rs (none {g = x}) = refl
ran_lists g h rs (more {g = x} {h = y} {rs = rest} i k e may steps) = ran_lists (run_on i k x) y rest steps

pub ran_members : ValueLaws → (g h : GroupValue) (rs : List Record) → Ran g rs h → belongs h ≡ belongs g
ran_members laws g h rs (none {g = x}) = refl
ran_members laws g h rs (more {g = x} {h = y} {rs = rest} i k e may steps) = ran_members laws (run_on i k x) y rest steps ∙ laws.runs_with x i k e
