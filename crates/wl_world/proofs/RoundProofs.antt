-- Rounds are moves, they leave all at the end, and each of them runs a quantum.
use Rattle.std.proofs.Common.{◌≡◌, ℕ, suc, ◌<◌, ◌≤◌, ◌⊎◌, inl, inr, List, [], ◌∷◌, ◌++◌, refl, sym, ◌∙◌, ap, subst, arith}
use Rattle.std.specs.List.{AllByRecursion}
use Rattle.std.proofs.lemmas.Bool.{cases_Bool, cond-true, cond-false, true≢false}
use Rattle.wl_replica.specs.KnownLaws.{KnownLaws}
use Rattle.wl_world.specs.declared.events.Event.{Event}
use Rattle.wl_world.specs.declared.events.Event.TheVariants.{Advance, Deliver, Join, Restart}
use Rattle.wl_plan.specs.Line.{Line}
use Rattle.wl_plan.specs.Sound.{IsSound}
use Rattle.wl_plan.specs.SimulationLaws.{SimulationLaws}
use Rattle.wl_group.specs.GroupLaws.{GroupLaws}
use Rattle.wl_group.specs.PartyLaws.{PartyLaws}
use Rattle.wl_world.specs.Scene.{Cast, Scene, start, possible, done, happens, run}
use Rattle.wl_world.specs.Headline.{AllAtEnd}
use Rattle.wl_world.specs.Settling.{IsMove, IsDelivery, IsAdvance, IsRound, Rounds, settled, round, quanta_left_in, SettlingLaws}
use Rattle.wl_world.proofs.WorldProofs.{IsWorld, start_holds, run_holds, faithful}
use Rattle.wl_world.proofs.NoStallProofs.{IsToldWorld, start_told, run_told, some_can}
use Rattle.wl_world.proofs.SettlingProofs.{deliver_keeps, advance_lowers, none_left, delivered, moves_keep}

pub run_append : (l : Line) (c : Cast) (xs ys : List Event) (w : Scene) → run l c (xs ++ ys) w ≡ run l c ys (run l c xs w)
run_append l c [] ys w = refl
run_append l c (e ∷ xs) ys w = run_append l c xs ys (happens l c w e)

pub delivery_is_move : (e : Event) → IsDelivery e → IsMove e
delivery_is_move (Deliver h k) d = tt
delivery_is_move (Advance h i) d = absurd d
delivery_is_move (Join h k) d = absurd d
delivery_is_move (Restart h) d = absurd d

pub advance_is_move : (e : Event) → IsAdvance e → IsMove e
advance_is_move (Advance h i) d = tt
advance_is_move (Deliver h k) d = absurd d
advance_is_move (Join h k) d = absurd d
advance_is_move (Restart h) d = absurd d

before_moves : (P : Event → Type 0) → ((e : Event) → P e → IsMove e) → (xs ys : List Event) → AllByRecursion P xs → AllByRecursion IsMove ys → AllByRecursion IsMove (xs ++ ys)
before_moves P f [] ys p q = q
before_moves P f (e ∷ xs) ys p q = (f e p.0, before_moves P f xs ys p.1 q)

pub rounds_move : (l : Line) (c : Cast) (w : Scene) (n : ℕ) (moves : List Event) → Rounds l c w n moves → AllByRecursion IsMove moves
rounds_move l c w n moves (settled {w = x} e) = tt
rounds_move l c w n moves (round {w = x} {n = m} {rest = rest} ds qs unended r more) =
    before_moves IsDelivery delivery_is_move ds (qs ++ rest) r.delivers
    (before_moves IsAdvance advance_is_move qs rest r.runs (rounds_move l c (run l c qs (run l c ds x)) m rest more))

pub rounds_end : (l : Line) (c : Cast) (w : Scene) (n : ℕ) (moves : List Event) → Rounds l c w n moves → AllAtEnd l c (run l c moves w)
rounds_end l c w n moves (settled {w = x} e) = e
rounds_end l c w n moves (round {w = x} {n = m} {rest = rest} ds qs unended r more) =
    subst (AllAtEnd l c) (sym (run_append l c ds (qs ++ rest) x ∙ run_append l c qs rest (run l c ds x)))
    (rounds_end l c (run l c qs (run l c ds x)) m rest more)

less_by_one : (a b c : ℕ) → a ≤ b → c ≡ suc b → a < c
less_by_one a b c h e = omega arith

one_more : (m y a : ℕ) → m ≤ y → y < a → suc m ≤ a
one_more m y a h b = omega arith

weaker : (a b : ℕ) → a < b → a ≤ b
weaker a b h = omega arith

equal : (a b : ℕ) → a ≡ b → a ≤ b
equal a b e = omega arith

-- deliveries run no quantum
deliveries_keep : PartyLaws → (l : Line) (c : Cast) (ds : List Event) → AllByRecursion IsDelivery ds → (w : Scene) → quanta_left_in l c (run l c ds w) ≡ quanta_left_in l c w
deliveries_keep family l c [] p w = refl
deliveries_keep family l c (Deliver h k ∷ ds) p w = deliveries_keep family l c ds p.1 (happens l c w (Deliver h k)) ∙ deliver_keeps family l c w h k
deliveries_keep family l c (Advance h i ∷ ds) p w = absurd p.0
deliveries_keep family l c (Join h k ∷ ds) p w = absurd p.0
deliveries_keep family l c (Restart h ∷ ds) p w = absurd p.0

module _ (sims : SimulationLaws) (knows : KnownLaws) (groups : GroupLaws) (family : PartyLaws) where
  -- advances run some quantum, or nothing happened
  advances_run : (l : Line) → IsSound l → (c : Cast) (qs : List Event) → AllByRecursion IsAdvance qs → (w : Scene) → IsWorld l c w
      → (quanta_left_in l c (run l c qs w) < quanta_left_in l c w) ⊎ (run l c qs w ≡ w)
  advances_run l s c [] p w v = inr refl
  advances_run l s c (Deliver h k ∷ qs) p w v = absurd p.0
  advances_run l s c (Join h k ∷ qs) p w v = absurd p.0
  advances_run l s c (Restart h ∷ qs) p w v = absurd p.0
  advances_run l s c (Advance h i ∷ qs) p w v = elim (cases_Bool (possible l c w (Advance h i))) [
    | inl y ↦
        let x = happens l c w (Advance h i) in
        let e : x ≡ done l c w (Advance h i) = cond-true (possible l c w (Advance h i)) (done l c w (Advance h i)) w y in
        let q : quanta_left_in l c w ≡ suc (quanta_left_in l c x) =
        advance_lowers sims family l s c w (faithful knows groups family l s c w v) h i y ∙ ap (λ z. suc (quanta_left_in l c z)) (sym e) in
        elim (advances_run l s c qs p.1 x (run_holds knows groups family l s c (Advance h i ∷ []) w v)) [
          | inl less ↦ inl (less_by_one (quanta_left_in l c (run l c qs x)) (quanta_left_in l c x) (quanta_left_in l c w) (weaker (quanta_left_in l c (run l c qs x)) (quanta_left_in l c x) less) q)
          | inr same ↦ inl (less_by_one (quanta_left_in l c (run l c qs x)) (quanta_left_in l c x) (quanta_left_in l c w) (equal (quanta_left_in l c (run l c qs x)) (quanta_left_in l c x) (ap (quanta_left_in l c) same)) q)
        ]
    | inr n ↦
        let x = happens l c w (Advance h i) in
        let e : x ≡ w = cond-false (possible l c w (Advance h i)) (done l c w (Advance h i)) w n in
        elim (advances_run l s c qs p.1 x (run_holds knows groups family l s c (Advance h i ∷ []) w v)) [
          | inl less ↦ inl (subst (λ z. quanta_left_in l c (run l c qs x) < quanta_left_in l c z) e less)
          | inr same ↦ inr (same ∙ e)
        ]
  ]

  -- where deliveries leave all at the end, all were
  were_at_end : (l : Line) → IsSound l → (c : Cast) → ((i : ℕ) → i < l.nodes → c.group_of i < c.groups) → (ds : List Event) → AllByRecursion IsDelivery ds
      → (w : Scene) → IsWorld l c w → AllAtEnd l c (run l c ds w) → AllAtEnd l c w
  were_at_end l s c gs ds p w v e =
      let x = run l c ds w in
      let z : quanta_left_in l c x ≡ 0 = (none_left sims family l s c gs x (faithful knows groups family l s c x (run_holds knows groups family l s c ds w v))).1 e in
      (none_left sims family l s c gs w (faithful knows groups family l s c w v)).0 (sym (deliveries_keep family l c ds p w) ∙ z)

  -- a round runs some quantum, where not all were at the end
  pub round_lowers : (l : Line) → IsSound l → (c : Cast) → ((i : ℕ) → i < l.nodes → c.group_of i < c.groups) → (a : Scene) → IsWorld l c a → IsToldWorld l c a
      → ¬ (AllAtEnd l c a) → (ds qs : List Event) → IsRound l c a ds qs → quanta_left_in l c (run l c qs (run l c ds a)) < quanta_left_in l c a
  round_lowers l s c gs a v t unended ds qs r =
      let x = run l c ds a in
      let y = run l c qs x in
      let vx = run_holds knows groups family l s c ds a v in
      let tx = run_told knows groups family l s c ds a v t in
      let keep : quanta_left_in l c x ≡ quanta_left_in l c a = deliveries_keep family l c ds r.delivers a in
      let less : quanta_left_in l c y < quanta_left_in l c x = elim (advances_run l s c qs r.runs x vx) [
        | inl less ↦ less
        | inr same ↦ absurd (elim (some_can knows groups family l s c x vx tx gs r.taken) [
          | inl can ↦ true≢false (sym can.2 ∙ (ap (λ z. possible l c z (Advance (c.group_of can.0) can.0)) (sym same) ∙ r.stuck (c.group_of can.0) can.0))
          | inr ends ↦ unended (were_at_end l s c gs ds r.delivers a v ends)
        ])
      ] in
      subst (λ n. quanta_left_in l c y < n) keep less

  few : (l : Line) → IsSound l → (c : Cast) → ((i : ℕ) → i < l.nodes → c.group_of i < c.groups) → (w : Scene) → IsWorld l c w → IsToldWorld l c w
      → (n : ℕ) (moves : List Event) → Rounds l c w n moves → n ≤ quanta_left_in l c w
  few l s c gs w v t n moves (settled {w = x} e) = omega arith
  few l s c gs w v t n moves (round {w = a} {n = m} {rest = rest} ds qs unended r more) =
      let x = run l c ds a in
      let y = run l c qs x in
      let vx = run_holds knows groups family l s c ds a v in
      let tx = run_told knows groups family l s c ds a v t in
      one_more m (quanta_left_in l c y) (quanta_left_in l c a)
      (few l s c gs y (run_holds knows groups family l s c qs x vx) (run_told knows groups family l s c qs x vx tx) m rest more)
      (round_lowers l s c gs a v t unended ds qs r)

  pub few_rounds : (l : Line) → IsSound l → (c : Cast) → ((i : ℕ) → i < l.nodes → c.group_of i < c.groups) → (before : List Event) (n : ℕ) (moves : List Event)
      → Rounds l c (run l c before (start l c)) n moves → n ≤ quanta_left_in l c (run l c before (start l c))
  few_rounds l s c gs before n moves =
      few l s c gs (run l c before (start l c)) (run_holds knows groups family l s c before (start l c) (start_holds knows groups family l s c))
      (run_told knows groups family l s c before (start l c) (start_holds knows groups family l s c) (start_told knows groups family l s c)) n moves

  pub settling_laws : SettlingLaws
  settling_laws = record {
    advance_lowers = advance_lowers sims family;
    deliver_keeps = deliver_keeps family;
    none_left = none_left sims family;
    delivered = delivered family;
    moves_keep = moves_keep family;
    rounds_move = rounds_move;
    rounds_end = rounds_end;
    few_rounds = few_rounds;
  }
