-- When an advance replies what, by three tests: membership, the end, and whether the quantum may run.
use Rattle.std.proofs.Common.{◌≡◌, ◌⊎◌, inl, inr, ℕ, Bool, true, false, not, ◌&&◌, List, ◌++◌, append-nil, append_assoc, refl, sym, ◌∙◌, nat_lt, nat_le, if◌then◌else◌}
use Rattle.std.specs.Prelude.{◌↔◌}
use Rattle.std.proofs.lemmas.Bool.{cases_Bool, cond-false, lt-leb, le-leb, leb-true, ltb-true, and_parts, true≢false, false≢true}
use Rattle.wl_record_core.specs.declared.record.Record.{Record}
use Rattle.wl_replica.specs.Known.{place_horizon}
use Rattle.wl_plan.specs.Line.{Line}
use Rattle.wl_group.specs.Member.{next_tick, can_run}
use Rattle.wl_group.specs.Party.{Party, slots}
use Rattle.wl_group.specs.Advanced.{Reply, emitted, blocked, ended, can_advance, emission_of, reply_of, run_next, after_advance, Steps, none, more}
use Rattle.wl_group.specs.AdvanceLaws.{IsAtEnd, AdvanceLaws}

-- the reply by the tests: a member, at the end, may run
abbrev reply_by : Bool → Bool → Bool → List Record → Reply
reply_by b e r x = if not b then blocked else if e then ended else if r then emitted x else blocked

is_emitted : (b e r : Bool) (x : List Record) → (r ≡ true → e ≡ false) → (reply_by b e r x ≡ emitted x) ↔ ((b && r) ≡ true)
is_emitted false e r x h = (λ q. cc, λ q. absurd (false≢true q))
is_emitted true true true x h = absurd (true≢false (h refl))
is_emitted true true false x h = (λ q. cc, λ q. absurd (false≢true q))
is_emitted true false true x h = (λ q. refl, λ q. refl)
is_emitted true false false x h = (λ q. cc, λ q. absurd (false≢true q))

is_ended : (b e r : Bool) (x : List Record) → (reply_by b e r x ≡ ended) ↔ ((b ≡ true) × (e ≡ true))
is_ended false e r x = (λ q. cc, λ q. absurd (false≢true q.0))
is_ended true true r x = (λ q. (refl, refl), λ q. refl)
is_ended true false true x = (λ q. cc, λ q. absurd (false≢true q.1))
is_ended true false false x = (λ q. cc, λ q. absurd (false≢true q.1))

is_blocked : (b e r : Bool) (x : List Record) → (r ≡ true → e ≡ false) → (reply_by b e r x ≡ blocked) ↔ (((b && r) ≡ false) × ¬ ((b ≡ true) × (e ≡ true)))
is_blocked false e r x h = (λ q. (refl, λ w. false≢true w.0), λ q. refl)
is_blocked true true true x h = absurd (true≢false (h refl))
is_blocked true true false x h = (λ q. cc, λ q. absurd (q.1 (refl, refl)))
is_blocked true false true x h = (λ q. cc, λ q. absurd (true≢false q.0))
is_blocked true false false x h = (λ q. (refl, λ w. false≢true w.1), λ q. refl)

-- a quantum that may run is not at the end
not_at_end : (l : Line) (p : Party) (i : ℕ) → can_run l i (p.members i) (slots p) ≡ true → nat_le l.stop (next_tick l i (p.members i)) ≡ false
not_at_end l p i h =
    lt-leb l.stop (next_tick l i (p.members i))
    (ltb-true (next_tick l i (p.members i)) l.stop (and_parts (nat_lt (next_tick l i (p.members i)) l.stop) (nat_lt (next_tick l i (p.members i)) (place_horizon l.nodes l.delay (slots p) i)) h).0)

module _ (l : Line) (belongs : ℕ → Bool) (p : Party) (i : ℕ) where
  emitted_iff : (reply_of l belongs p i ≡ emitted (emission_of l p i)) ↔ (can_advance l belongs p i ≡ true)
  emitted_iff = is_emitted (belongs i) (nat_le l.stop (next_tick l i (p.members i))) (can_run l i (p.members i) (slots p)) (emission_of l p i) (not_at_end l p i)

  tests_ended : (reply_of l belongs p i ≡ ended) ↔ ((belongs i ≡ true) × (nat_le l.stop (next_tick l i (p.members i)) ≡ true))
  tests_ended = is_ended (belongs i) (nat_le l.stop (next_tick l i (p.members i))) (can_run l i (p.members i) (slots p)) (emission_of l p i)

  ended_iff : (reply_of l belongs p i ≡ ended) ↔ IsAtEnd l belongs p i
  ended_iff = (
    λ q. (let t = tests_ended.0 q in (t.0, leb-true l.stop (next_tick l i (p.members i)) t.1)),
    λ q. tests_ended.1 (q.0, le-leb l.stop (next_tick l i (p.members i)) q.1),
  )

  tests_blocked : (reply_of l belongs p i ≡ blocked) ↔ ((can_advance l belongs p i ≡ false) × ¬ ((belongs i ≡ true) × (nat_le l.stop (next_tick l i (p.members i)) ≡ true)))
  tests_blocked = is_blocked (belongs i) (nat_le l.stop (next_tick l i (p.members i))) (can_run l i (p.members i) (slots p)) (emission_of l p i) (not_at_end l p i)

  blocked_iff : (reply_of l belongs p i ≡ blocked) ↔ ((can_advance l belongs p i ≡ false) × ¬ (IsAtEnd l belongs p i))
  blocked_iff = (
    λ q. (let t = tests_blocked.0 q in (t.0, λ w. t.1 (w.0, le-leb l.stop (next_tick l i (p.members i)) w.1))),
    λ q. tests_blocked.1 (q.0, λ w. q.1 (w.0, leb-true l.stop (next_tick l i (p.members i)) w.1)),
  )

  stays : can_advance l belongs p i ≡ false → after_advance l belongs i p ≡ p
  stays h = cond-false (can_advance l belongs p i) (run_next l i p) p h

  not_emitted : (reply_of l belongs p i ≡ blocked) ⊎ (reply_of l belongs p i ≡ ended) → ¬ (reply_of l belongs p i ≡ emitted (emission_of l p i))
  not_emitted (inl b) h = (let c : blocked ≡ emitted (emission_of l p i) = sym b ∙ h in cc)
  not_emitted (inr e) h = (let c : ended ≡ emitted (emission_of l p i) = sym e ∙ h in cc)

  refused_stays : (reply_of l belongs p i ≡ blocked) ⊎ (reply_of l belongs p i ≡ ended) → after_advance l belongs i p ≡ p
  refused_stays h = elim (cases_Bool (can_advance l belongs p i)) [
    | inl y ↦ absurd (not_emitted h (emitted_iff.1 y))
    | inr n ↦ stays n
  ]

steps_emitted : (l : Line) (belongs : ℕ → Bool) (p q : Party) (rs : List Record) → Steps l belongs p rs q → q.emitted ≡ p.emitted ++ rs
steps_emitted l belongs p q rs (none {p = x}) = sym (append-nil x.emitted)
steps_emitted l belongs p q rs (more {p = x} {q = y} {rs = more_rs} i b can steps) =
    steps_emitted l belongs (run_next l i x) y more_rs steps ∙ append_assoc x.emitted (emission_of l x i) more_rs

pub advance_laws : AdvanceLaws
advance_laws = record { emitted_iff = emitted_iff; ended_iff = ended_iff; blocked_iff = blocked_iff; refused_stays = refused_stays; steps_emitted = steps_emitted }
