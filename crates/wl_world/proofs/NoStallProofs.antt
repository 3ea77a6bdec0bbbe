-- Where each group has taken all that was emitted, the node whose next quantum comes first can advance.
use Rattle.std.proofs.Common.{◌≡◌, ℕ, zero, suc, pred, ◌<◌, ◌≤◌, true, ◌⊎◌, inl, inr, List, [], ◌∷◌, ◌++◌, refl, sym, ap, subst, arith, ◌==◌, slice_get}
use Rattle.std.proofs.lemmas.Bool.{cases_lt, cases_eq, cases_Bool, cond-true, cond-false, eq-eqb, eqb-true, lt-ltb, and_from}
use Rattle.wl_record_core.specs.Truth.{AreTrueOf}
use Rattle.wl_replica.specs.Slots.{slots_of_records}
use Rattle.wl_replica.specs.Known.{horizon, place_horizon}
use Rattle.wl_replica.specs.KnownLaws.{KnownLaws}
use Rattle.wl_world.specs.declared.events.Event.{Event}
use Rattle.wl_world.specs.declared.events.Event.TheVariants.{Advance, Deliver, Join, Restart}
use Rattle.wl_plan.specs.Line.{Line}
use Rattle.wl_plan.specs.Simulation.{changes}
use Rattle.wl_plan.specs.Sound.{IsSound}
use Rattle.wl_group.specs.Member.{fresh, next_tick, member_after_quantum, level_read}
use Rattle.wl_group.specs.Party.{Party, slots, put, initial_party, party_with}
use Rattle.wl_group.specs.Advanced.{run_next, emission_of}
use Rattle.wl_group.specs.Holds.{IsTold}
use Rattle.wl_group.specs.GroupLaws.{GroupLaws}
use Rattle.wl_group.specs.PartyLaws.{PartyLaws}
use Rattle.wl_world.specs.Scene.{Cast, Scene, start, possible, done, happens, run, at_most_one}
use Rattle.wl_world.specs.Headline.{member_of, HasAll, AllAtEnd, NoStall}
use Rattle.wl_world.proofs.Puts.{put_at}
use Rattle.wl_world.proofs.WorldProofs.{IsWorld, may_advance, start_holds, emission_true, happens_holds, world_holds}

-- each node's changes so far and its silence up to its next quantum were emitted, and its first silence too
pub record IsToldWorld (l : Line) (c : Cast) (w : Scene) : Type 0 where
  pub firsts : (i : ℕ) → i < l.nodes → IsTold l i fresh (slots_of_records w.emitted)
  pub told : (i : ℕ) → i < l.nodes → IsTold l i (member_of w (c.group_of i) i) (slots_of_records w.emitted)

-- where only a party is written, and each of its members is as it was or fresh
told_same : PartyLaws → (l : Line) (c : Cast) (w : Scene) (h : ℕ) (p : Party) → IsToldWorld l c w → ((i : ℕ) → (p.members i ≡ (w.parties h).members i) ⊎ (p.members i ≡ fresh))
    → IsToldWorld l c (record { parties = put w.parties h p; emitted = w.emitted })
told_same family l c w h p v f = record {
  firsts = v.firsts;
  told = λ i b. put_at family.parties w.parties h p (λ q. IsTold l i (q.members i) (slots_of_records w.emitted)) (c.group_of i)
      (λ e. elim (f i) [
        | inl same ↦ subst (λ m. IsTold l i m (slots_of_records w.emitted)) (sym same) (subst (λ k. IsTold l i ((w.parties k).members i) (slots_of_records w.emitted)) e (v.told i b))
        | inr new ↦ subst (λ m. IsTold l i m (slots_of_records w.emitted)) (sym new) (v.firsts i b)
      ])
      (λ n. v.told i b);
}

-- the least of some numbers
least_at : (f : ℕ → ℕ) (n : ℕ) → (i : ℕ) × (i < suc n) × ((j : ℕ) → j < suc n → f i ≤ f j)
least_at f zero = (0, omega arith, λ j c. (let e : f j ≡ f 0 = ap f (omega arith) in omega arith))
least_at f (suc n) =
    let r = least_at f n in
    let r2 = r.2 in
    elim (cases_lt (f (suc n)) (f r.0)) [
      | inl less ↦ (suc n, omega arith, λ j c. elim (cases_eq j (suc n)) [ inl e ↦ (let q : f j ≡ f (suc n) = ap f e in omega arith) | inr o ↦ (let q = r2 j (omega arith) in omega arith) ])
      | inr more ↦ (r.0, (let q = r.1 in omega arith), λ j c. elim (cases_eq j (suc n)) [ inl e ↦ (let q : f j ≡ f (suc n) = ap f e in omega arith) | inr o ↦ r2 j (omega arith) ])
    ]

-- the tick of the next quantum of a node, in its own group
abbrev pub due_of : Line → Cast → Scene → ℕ → ℕ
due_of l c w i = next_tick l i (member_of w (c.group_of i) i)

module _ (knows : KnownLaws) (groups : GroupLaws) (family : PartyLaws) where
  pub start_told : (l : Line) → IsSound l → (c : Cast) → IsToldWorld l c (start l c)
  start_told l s c = record { firsts = groups.told_first l s; told = groups.told_first l s }

  event_told : (l : Line) → IsSound l → (c : Cast) (w : Scene) (e : Event) → IsWorld l c w → IsToldWorld l c w → possible l c w e ≡ true → IsToldWorld l c (done l c w e)
  event_told l s c w (Advance h i) v t y =
      let a = may_advance l c w h i y in
      let own : c.group_of i ≡ h = eqb-true (c.group_of i) h a.member in
      let g = v.groups h a.group in
      let m = (w.parties h).members i in
      let x = level_read l i m (slots (w.parties h)) in
      let rs = emission_of l (w.parties h) i in
      let ut : AreTrueOf l.nodes (changes l) (w.emitted ++ rs) = family.true_append l.nodes (changes l) w.emitted rs v.truth (emission_true knows groups family l s c w v h i a) in
      let next : IsTold l i (member_after_quantum l i m x) (slots_of_records (w.emitted ++ rs)) =
      groups.told_stepped l s (slots (w.parties h)) g.truth i m a.node (g.each i a.node a.member) a.can w.emitted ut
      (subst (λ k. IsTold l i ((w.parties k).members i) (slots_of_records w.emitted)) own (t.told i a.node)) in
      record {
        firsts = λ j b. groups.told_more l j fresh w.emitted rs ut (t.firsts j b);
        told = λ j b. put_at family.parties w.parties h (run_next l i (w.parties h)) (λ q. IsTold l j (q.members j) (slots_of_records (w.emitted ++ rs))) (c.group_of j)
            (λ e. put_at family.members (w.parties h).members i (member_after_quantum l i m x) (λ q. IsTold l j q (slots_of_records (w.emitted ++ rs))) j
            (λ e2. subst (λ k. IsTold l k (member_after_quantum l i m x) (slots_of_records (w.emitted ++ rs))) (sym e2) next)
            (λ n. groups.told_more l j ((w.parties h).members j) w.emitted rs ut (subst (λ k. IsTold l j ((w.parties k).members j) (slots_of_records w.emitted)) e (t.told j b))))
            (λ n. groups.told_more l j (member_of w (c.group_of j) j) w.emitted rs ut (t.told j b));
      }
  event_told l s c w (Deliver h k) v t y = told_same family l c w h (party_with (at_most_one (slice_get w.emitted k)) (w.parties h)) t (λ i. inl refl)
  event_told l s c w (Join h k) v t y = told_same family l c w h (party_with (w.parties k).taken (w.parties h)) t (λ i. inl refl)
  event_told l s c w (Restart h) v t y = told_same family l c w h (initial_party l (λ i. c.group_of i == h)) t (λ i. inr refl)

  pub run_told : (l : Line) → IsSound l → (c : Cast) (es : List Event) (w : Scene) → IsWorld l c w → IsToldWorld l c w → IsToldWorld l c (run l c es w)
  run_told l s c [] w v t = t
  run_told l s c (e ∷ es) w v t = run_told l s c es (happens l c w e) (happens_holds knows groups family l s c w e v) (elim (cases_Bool (possible l c w e)) [
    | inl y ↦ subst (IsToldWorld l c) (sym (cond-true (possible l c w e) (done l c w e) w y)) (event_told l s c w e v t y)
    | inr n ↦ subst (IsToldWorld l c) (sym (cond-false (possible l c w e) (done l c w e) w n)) t
  ])

  -- where a group has taken all that was emitted, each node is known there up to its next quantum
  all_known : (l : Line) → IsSound l → (c : Cast) (w : Scene) → IsWorld l c w → IsToldWorld l c w → (h : ℕ) → h < c.groups → ((i : ℕ) → i < l.nodes → c.group_of i < c.groups)
      → HasAll w h → (i : ℕ) → i < l.nodes → due_of l c w i ≤ horizon (slots (w.parties h)) i
  all_known l s c w v t h hb gs all i b =
      let own = (v.groups (c.group_of i) (gs i b)).each i b (eq-eqb _ _ refl) in
      groups.told_known l s i (member_of w (c.group_of i) i) (slots (w.parties (c.group_of i))) b own w.emitted (w.parties h).taken (v.groups h hb).truth all (t.told i b)

  -- where each node is known everywhere up to its next quantum
  pub some_can_by : (l : Line) → IsSound l → (c : Cast) (w : Scene) → ((i : ℕ) → i < l.nodes → c.group_of i < c.groups)
      → ((h : ℕ) → h < c.groups → (i : ℕ) → i < l.nodes → due_of l c w i ≤ horizon (slots (w.parties h)) i)
      → ((i : ℕ) × (i < l.nodes) × (possible l c w (Advance (c.group_of i) i) ≡ true)) ⊎ AllAtEnd l c w
  some_can_by l s c w gs all =
      let some = s.some_node in
      let r = least_at (due_of l c w) (pred l.nodes) in
      let i = r.0 in
      let b : i < l.nodes = (let q = r.1 in omega arith) in
      let r2 = r.2 in
      elim (cases_lt (due_of l c w i) l.stop) [
        | inl early ↦ inl (
          i,
          b,
          let hb = gs i b in
              let known : due_of l c w i < place_horizon l.nodes l.delay (slots (w.parties (c.group_of i))) i = knows.place_above l.nodes l.delay (slots (w.parties (c.group_of i))) i (due_of l c w i) some (λ j e.
              let a = r2 j (omega arith) in
              let d = all (c.group_of i) hb j e in
              let q = s.causal.delays j i e b in
              omega arith) in
              and_from _ _ (lt-ltb _ _ hb) (and_from _ _ (lt-ltb _ _ b) (and_from _ _ (eq-eqb _ _ refl) (and_from _ _ (lt-ltb _ _ early) (lt-ltb _ _ known)))),
        )
        | inr late ↦ inr (λ j e. let a = r2 j (omega arith) in omega arith)
      ]

  pub some_can : (l : Line) → IsSound l → (c : Cast) (w : Scene) → IsWorld l c w → IsToldWorld l c w → ((i : ℕ) → i < l.nodes → c.group_of i < c.groups) → ((h : ℕ) → h < c.groups → HasAll w h)
      → ((i : ℕ) × (i < l.nodes) × (possible l c w (Advance (c.group_of i) i) ≡ true)) ⊎ AllAtEnd l c w
  some_can l s c w v t gs all = some_can_by l s c w gs (λ h hb. all_known l s c w v t h hb gs (all h hb))

  pub no_stall : NoStall
  no_stall l s c gs es all =
      some_can l s c (run l c es (start l c)) (world_holds knows groups family l s c es)
      (run_told l s c es (start l c) (start_holds knows groups family l s c) (start_told l s c)) gs all
