-- Each advance runs one of the quanta that are left, and what is delivered stays.
use Rattle.std.proofs.Common.{◌≡◌, ℕ, zero, suc, ◌<◌, ◌≤◌, true, inl, inr, List, [], ◌∷◌, ◌++◌, length, refl, sym, ◌∙◌, ap, subst, arith, nat_lt, Some, slice_get, length-append, add-one}
use Rattle.std.specs.Prelude.{◌↔◌, Contains}
use Rattle.std.proofs.lemmas.Bool.{cases_lt, cases_eq, cases_Bool, cond-true, cond-false, eqb-true, ltb-true, lt-ltb, and_parts, and_from}
use Rattle.wl_record_core.specs.declared.record.Record.{Record}
use Rattle.wl_replica.specs.Known.{place_horizon}
use Rattle.wl_world.specs.declared.events.Event.{Event}
use Rattle.wl_world.specs.declared.events.Event.TheVariants.{Advance, Deliver, Join, Restart}
use Rattle.wl_plan.specs.Line.{Line}
use Rattle.wl_plan.specs.Simulation.{ran}
use Rattle.wl_plan.specs.Sound.{IsSound}
use Rattle.wl_plan.specs.SimulationLaws.{SimulationLaws}
use Rattle.wl_group.specs.Member.{next_tick, member_after_quantum, level_read}
use Rattle.wl_group.specs.Party.{Party, slots, put, party_with}
use Rattle.wl_group.specs.Advanced.{run_next, emission_of}
use Rattle.wl_group.specs.PartyLaws.{PartyLaws}
use Rattle.wl_world.specs.Scene.{Cast, Scene, possible, at_most_one, done, happens}
use Rattle.wl_world.specs.Headline.{IsFaithful, AllAtEnd, member_of}
use Rattle.wl_world.specs.Settling.{IsMove, left_below, quanta_left_in}
use Rattle.std.proofs.lemmas.List.Elements.{Contains-append_right}
use Rattle.wl_world.proofs.Puts.{put_at}
use Rattle.wl_world.proofs.WorldProofs.{may_advance}

-- where node i has run one quantum more and the others as many, one fewer is left
module _ (l : Line) (c : Cast) (w x : Scene) (i : ℕ) (own : length (member_of x (c.group_of i) i).saw ≡ suc (length (member_of w (c.group_of i) i).saw))
    (others : (n : ℕ) → (n ≡ i → ⊥) → length (member_of x (c.group_of n) n).saw ≡ length (member_of w (c.group_of n) n).saw)
    (some : length (member_of w (c.group_of i) i).saw < ran l i l.stop) where
  left_before : (m : ℕ) → m ≤ i → left_below l c x m ≡ left_below l c w m
  left_before zero h = refl
  left_before (suc m) h = (let r = left_before m (omega arith) in let o = others m (λ e. omega arith) in omega arith)

  left_after : (m : ℕ) → i < m → left_below l c w m ≡ suc (left_below l c x m)
  left_after zero h = absurd (omega arith)
  left_after (suc m) h = elim (cases_eq m i) [
    | inl e ↦
        let r = left_before m (omega arith) in
        let a : length (member_of x (c.group_of m) m).saw ≡ suc (length (member_of w (c.group_of m) m).saw) =
        subst (λ n. length (member_of x (c.group_of n) n).saw ≡ suc (length (member_of w (c.group_of n) n).saw)) (sym e) own in
        let b : length (member_of w (c.group_of m) m).saw < ran l m l.stop = subst (λ n. length (member_of w (c.group_of n) n).saw < ran l n l.stop) (sym e) some in
        omega arith
    | inr o ↦ (let r = left_after m (omega arith) in let q = others m o in omega arith)
  ]

-- where all have run as many, as many are left
left_same : (l : Line) (c : Cast) (w x : Scene) → ((n : ℕ) → length (member_of x (c.group_of n) n).saw ≡ length (member_of w (c.group_of n) n).saw) → (m : ℕ) → left_below l c x m ≡ left_below l c w m
left_same l c w x h zero = refl
left_same l c w x h (suc m) = (let r = left_same l c w x h m in let o = h m in omega arith)

-- of a sum of parts that is 0, each part is
left_none : (l : Line) (c : Cast) (w : Scene) (m i : ℕ) → i < m → left_below l c w m ≡ 0 → ran l i l.stop ≤ length (member_of w (c.group_of i) i).saw
left_none l c w zero i b h = absurd (omega arith)
left_none l c w (suc m) i b h = elim (cases_eq i m) [
  | inl e ↦ subst (λ n. ran l n l.stop ≤ length (member_of w (c.group_of n) n).saw) (sym e) (omega arith)
  | inr o ↦ left_none l c w m i (omega arith) (omega arith)
]

none_of_left : (l : Line) (c : Cast) (w : Scene) (m : ℕ) → ((i : ℕ) → i < m → ran l i l.stop ≤ length (member_of w (c.group_of i) i).saw) → left_below l c w m ≡ 0
none_of_left l c w zero h = refl
none_of_left l c w (suc m) h = (let r = none_of_left l c w m (λ i b. h i (omega arith)) in let q = h m (omega arith) in omega arith)

-- a delivery changes no member
delivered_size : PartyLaws → (l : Line) (c : Cast) (w : Scene) (h k n : ℕ) → length (member_of (done l c w (Deliver h k)) (c.group_of n) n).saw ≡ length (member_of w (c.group_of n) n).saw
delivered_size family l c w h k n =
    put_at family.parties w.parties h (party_with (at_most_one (slice_get w.emitted k)) (w.parties h)) (λ q. length (q.members n).saw ≡ length (member_of w (c.group_of n) n).saw) (c.group_of n)
    (λ e. ap (λ g. length ((w.parties g).members n).saw) (sym e)) (λ o. refl)

pub deliver_keeps : PartyLaws → (l : Line) (c : Cast) (w : Scene) (h k : ℕ) → quanta_left_in l c (happens l c w (Deliver h k)) ≡ quanta_left_in l c w
deliver_keeps family l c w h k = elim (cases_Bool (possible l c w (Deliver h k))) [
  | inl y ↦ ap (quanta_left_in l c) (cond-true (possible l c w (Deliver h k)) (done l c w (Deliver h k)) w y) ∙ left_same l c w (done l c w (Deliver h k)) (delivered_size family l c w h k) l.nodes
  | inr n ↦ ap (quanta_left_in l c) (cond-false (possible l c w (Deliver h k)) (done l c w (Deliver h k)) w n)
]

-- a record that is there is taken
taken_there : (w : Scene) (h k : ℕ) (r : Record) → slice_get w.emitted k ≡ Some r → Contains (at_most_one (slice_get w.emitted k) ++ (w.parties h).taken) r
taken_there w h k r e = subst (λ o. Contains (at_most_one o ++ (w.parties h).taken) r) (sym e) (0, omega arith, refl)

get_below : (rs : List Record) (k : ℕ) (r : Record) → slice_get rs k ≡ Some r → k < length rs
get_below [] k r h = cc
get_below (q ∷ rs) zero r h = omega arith
get_below (q ∷ rs) (suc k) r h = (let e = get_below rs k r h in omega arith)

pub delivered : PartyLaws → (l : Line) (c : Cast) (w : Scene) (h k : ℕ) (r : Record) → h < c.groups → slice_get w.emitted k ≡ Some r
    → Contains ((happens l c w (Deliver h k)).parties h).taken r
delivered family l c w h k r b e =
    let y : possible l c w (Deliver h k) ≡ true = and_from (nat_lt h c.groups) (nat_lt k (length w.emitted)) (lt-ltb h c.groups b) (lt-ltb k (length w.emitted) (get_below w.emitted k r e)) in
    subst (λ x. Contains (x.parties h).taken r) (sym (cond-true (possible l c w (Deliver h k)) (done l c w (Deliver h k)) w y))
    (put_at family.parties w.parties h (party_with (at_most_one (slice_get w.emitted k)) (w.parties h)) (λ q. Contains q.taken r) h (λ e2. taken_there w h k r e) (λ n. absurd (n refl)))

-- a group that took more has what it had
kept : PartyLaws → (w : Scene) (h g : ℕ) (p : Party) (rs : List Record) → p.taken ≡ rs ++ (w.parties h).taken → (r : Record) → Contains (w.parties g).taken r → Contains (put w.parties h p g).taken r
kept family w h g p rs same r t =
    put_at family.parties w.parties h p (λ q. Contains q.taken r) g
    (λ e. subst (λ xs. Contains xs r) (sym same) (Contains-append_right rs (w.parties h).taken r (subst (λ n. Contains (w.parties n).taken r) e t)))
    (λ n. t)

done_keeps : PartyLaws → (l : Line) (c : Cast) (w : Scene) (e : Event) → IsMove e → (g : ℕ) (r : Record) → Contains (w.parties g).taken r → Contains ((done l c w e).parties g).taken r
done_keeps family l c w (Advance h i) m g r t = kept family w h g (run_next l i (w.parties h)) (emission_of l (w.parties h) i) refl r t
done_keeps family l c w (Deliver h k) m g r t = kept family w h g (party_with (at_most_one (slice_get w.emitted k)) (w.parties h)) (at_most_one (slice_get w.emitted k)) refl r t
done_keeps family l c w (Join h k) m g r t = absurd m
done_keeps family l c w (Restart h) m g r t = absurd m

pub moves_keep : PartyLaws → (l : Line) (c : Cast) (w : Scene) (e : Event) → IsMove e → (g : ℕ) (r : Record) → Contains (w.parties g).taken r → Contains ((happens l c w e).parties g).taken r
moves_keep family l c w e m g r t = elim (cases_Bool (possible l c w e)) [
  | inl y ↦ subst (λ x. Contains (x.parties g).taken r) (sym (cond-true (possible l c w e) (done l c w e) w y)) (done_keeps family l c w e m g r t)
  | inr n ↦ subst (λ x. Contains (x.parties g).taken r) (sym (cond-false (possible l c w e) (done l c w e) w n)) t
]

module _ (sims : SimulationLaws) (family : PartyLaws) where
  -- a node whose next quantum is below the end has one left
  has_left : (l : Line) → IsSound l → (i k : ℕ) → i < l.nodes → l.instant i k < l.stop → k < ran l i l.stop
  has_left l s i k b h = elim (cases_lt k (ran l i l.stop)) [
    | inl fine ↦ fine
    | inr over ↦ absurd (
        let c = sims.clock_later l i (ran l i l.stop) k s.causal b over in
        elim (sims.ran_all l i l.stop s.causal b) [ inl e ↦ omega arith | inr e ↦ omega arith ])
  ]

  pub advance_lowers : (l : Line) → IsSound l → (c : Cast) (w : Scene) → IsFaithful l c w → (h i : ℕ) → possible l c w (Advance h i) ≡ true
      → quanta_left_in l c w ≡ suc (quanta_left_in l c (done l c w (Advance h i)))
  advance_lowers l s c w v h i y =
      let a = may_advance l c w h i y in
      let own : c.group_of i ≡ h = eqb-true (c.group_of i) h a.member in
      let m = (w.parties h).members i in
      let n = member_after_quantum l i m (level_read l i m (slots (w.parties h))) in
      let can = and_parts (nat_lt (next_tick l i m) l.stop) (nat_lt (next_tick l i m) (place_horizon l.nodes l.delay (slots (w.parties h)) i)) a.can in
      let early : next_tick l i m < l.stop = ltb-true (next_tick l i m) l.stop can.0 in
      let some : length (member_of w (c.group_of i) i).saw < ran l i l.stop =
      subst (λ g. length ((w.parties g).members i).saw < ran l i l.stop) (sym own) (has_left l s i (length m.saw) a.node early) in
      let longer : length n.saw ≡ suc (length m.saw) = length-append m.saw (level_read l i m (slots (w.parties h)) ∷ []) ∙ add-one (length m.saw) in
      left_after l c w (done l c w (Advance h i)) i
      (put_at family.parties w.parties h (run_next l i (w.parties h)) (λ q. length (q.members i).saw ≡ suc (length (member_of w (c.group_of i) i).saw)) (c.group_of i)
      (λ e. put_at family.members (w.parties h).members i n (λ q. length q.saw ≡ suc (length (member_of w (c.group_of i) i).saw)) i
      (λ e2. longer ∙ ap suc (ap (λ g. length ((w.parties g).members i).saw) (sym own))) (λ o. absurd (o refl)))
      (λ o. absurd (o own)))
      (λ j ne. put_at family.parties w.parties h (run_next l i (w.parties h)) (λ q. length (q.members j).saw ≡ length (member_of w (c.group_of j) j).saw) (c.group_of j)
      (λ e. put_at family.members (w.parties h).members i n (λ q. length q.saw ≡ length (member_of w (c.group_of j) j).saw) j
      (λ e2. absurd (ne e2)) (λ o. ap (λ g. length ((w.parties g).members j).saw) (sym e)))
      (λ o. refl))
      some l.nodes a.node

  pub none_left : (l : Line) → IsSound l → (c : Cast) → ((i : ℕ) → i < l.nodes → c.group_of i < c.groups) → (w : Scene) → IsFaithful l c w
      → (quanta_left_in l c w ≡ 0) ↔ AllAtEnd l c w
  none_left l s c gs w v = (
    λ z i b.
        let k = left_none l c w l.nodes i b z in
        let f = sims.clock_later l i (ran l i l.stop) (length (member_of w (c.group_of i) i).saw) s.causal b k in
        elim (sims.ran_all l i l.stop s.causal b) [ inl e ↦ omega arith | inr e ↦ omega arith ],
    λ z. none_of_left l c w l.nodes (λ i b.
        let e = sims.ran_at_end l i (length (member_of w (c.group_of i) i).saw) s.causal b (v.nodes_placed (c.group_of i) i (gs i b) b refl).inside (z i b) in
        omega arith),
  )
