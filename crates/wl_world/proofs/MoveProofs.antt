-- Deliveries and advances, one after another: what each list of them keeps, and what they leave together.
use Rattle.std.proofs.Common.{◌≡◌, ℕ, zero, suc, ◌+◌, ◌<◌, ◌≤◌, ◌&&◌, inl, inr, List, [], ◌∷◌, ◌++◌, length, refl, sym, ◌∙◌, ap, subst, arith, nat_lt, Some, slice_get, append_assoc, append-nil, add-zero, zero-add}
use Rattle.std.specs.Prelude.{Contains, slice_index_or}
use Rattle.std.specs.List.{AllByRecursion}
use Rattle.std.proofs.lemmas.Bool.{cases_eq, cases_lt, cases_Bool, cond-true, cond-false, le-ltb}
use Rattle.wl_record_core.specs.declared.record.Record.{Record}
use Rattle.wl_plan.specs.Line.{Line}
use Rattle.wl_group.specs.Party.{Party}
use Rattle.wl_group.specs.Advanced.{can_advance, run_next}
use Rattle.wl_group.specs.PartyLaws.{PartyLaws}
use Rattle.wl_world.specs.declared.events.Event.{Event}
use Rattle.wl_world.specs.declared.events.Event.TheVariants.{Advance, Deliver, Join, Restart}
use Rattle.wl_world.specs.declared.events.Answer.{Answer}
use Rattle.wl_world.specs.Scene.{Cast, Scene, is_of_group, possible, done, happens, run}
use Rattle.wl_world.specs.Headline.{AllAtEnd}
use Rattle.wl_world.specs.Settling.{IsMove, IsDelivery, IsAdvance, Rounds, settled, round}
use Rattle.wl_world.specs.Steps.{HasStepped}
use Rattle.wl_world.specs.WorldValue.{WorldValue, IsWorldAt}
use Rattle.wl_world.specs.Moves.{IsAdvanceOf, HasTaken, KnowsBelow, IsStuckAt, MovesLed, HasHanded, HasHandedAll, HasExhausted, HasExhaustedAll, HasRounded}
use Rattle.wl_world.proofs.Puts.{put_at}
use Rattle.wl_world.proofs.WorldProofs.{run_grows}
use Rattle.wl_world.proofs.SettlingProofs.{delivered, moves_keep}
use Rattle.wl_world.proofs.RoundProofs.{run_append, delivery_is_move, advance_is_move}

-- ---- lists

all_append : (P : Event → Type 0) (xs ys : List Event) → AllByRecursion P xs → AllByRecursion P ys → AllByRecursion P (xs ++ ys)
all_append P [] ys p q = q
all_append P (e ∷ xs) ys p q = (p.0, all_append P xs ys p.1 q)

all_as : (P Q : Event → Type 0) → ((e : Event) → P e → Q e) → (es : List Event) → AllByRecursion P es → AllByRecursion Q es
all_as P Q f [] p = tt
all_as P Q f (e ∷ es) p = (f e p.0, all_as P Q f es p.1)

get_left : (xs ys : List Record) (k : ℕ) → k < length xs → slice_get (xs ++ ys) k ≡ slice_get xs k
get_left [] ys k b = absurd (omega arith)
get_left (x ∷ xs) ys zero b = refl
get_left (x ∷ xs) ys (suc k) b = get_left xs ys k (omega arith)

get_there : (xs : List Record) (k : ℕ) (r : Record) → k < length xs → slice_index_or xs k r ≡ r → slice_get xs k ≡ Some r
get_there [] k r b e = absurd (omega arith)
get_there (x ∷ xs) zero r b e = ap Some e
get_there (x ∷ xs) (suc k) r b e = get_there xs k r (omega arith) e

advance_of_is : (h : ℕ) (e : Event) → IsAdvanceOf h e → IsAdvance e
advance_of_is h (Advance k i) p = tt
advance_of_is h (Deliver k n) p = absurd p
advance_of_is h (Join k n) p = absurd p
advance_of_is h (Restart k) p = absurd p

-- a fact of a line and a cast, for equal ones
pub set_on : (P : Line → Cast → Type 0) (l k : Line) (c d : Cast) → k ≡ l → d ≡ c → P k d → P l c
set_on P l k c d p q h = subst (λ x. P x c) p (subst (P k) q h)

module _ (l : Line) (c : Cast) where
  -- ---- what moves keep

  delivery_emits_none : (w : Scene) (h k : ℕ) → (happens l c w (Deliver h k)).emitted ≡ w.emitted
  delivery_emits_none w h k = elim (cases_Bool (possible l c w (Deliver h k))) [
    | inl y ↦ ap (λ (x : Scene). x.emitted) (cond-true (possible l c w (Deliver h k)) (done l c w (Deliver h k)) w y)
    | inr n ↦ ap (λ (x : Scene). x.emitted) (cond-false (possible l c w (Deliver h k)) (done l c w (Deliver h k)) w n)
  ]

  emitted_kept : (ds : List Event) → AllByRecursion IsDelivery ds → (w : Scene) → (run l c ds w).emitted ≡ w.emitted
  emitted_kept [] p w = refl
  emitted_kept (Deliver h k ∷ ds) p w = emitted_kept ds p.1 (happens l c w (Deliver h k)) ∙ delivery_emits_none w h k
  emitted_kept (Advance h i ∷ ds) p w = absurd p.0
  emitted_kept (Join h k ∷ ds) p w = absurd p.0
  emitted_kept (Restart h ∷ ds) p w = absurd p.0

  runs_keep : PartyLaws → (es : List Event) → AllByRecursion IsMove es → (w : Scene) (g : ℕ) (r : Record) → Contains (w.parties g).taken r → Contains ((run l c es w).parties g).taken r
  runs_keep family [] p w g r t = t
  runs_keep family (e ∷ es) p w g r t = runs_keep family es p.1 (happens l c w e) g r (moves_keep family l c w e p.0 g r t)

  advance_else : PartyLaws → (w : Scene) (k i j : ℕ) → (j ≡ k → ⊥) → (happens l c w (Advance k i)).parties j ≡ w.parties j
  advance_else family w k i j n = elim (cases_Bool (possible l c w (Advance k i))) [
    | inl y ↦
        ap (λ (x : Scene). x.parties j) (cond-true (possible l c w (Advance k i)) (done l c w (Advance k i)) w y)
        ∙ put_at family.parties w.parties k (run_next l i (w.parties k)) (λ q. q ≡ w.parties j) j (λ e. absurd (n e)) (λ _. refl)
    | inr x ↦ ap (λ (x : Scene). x.parties j) (cond-false (possible l c w (Advance k i)) (done l c w (Advance k i)) w x)
  ]

  others_stay : PartyLaws → (h : ℕ) (qs : List Event) → AllByRecursion (IsAdvanceOf h) qs → (w : Scene) (j : ℕ) → (j ≡ h → ⊥) → (run l c qs w).parties j ≡ w.parties j
  others_stay family h [] p w j n = refl
  others_stay family h (Advance k i ∷ qs) p w j n = others_stay family h qs p.1 (happens l c w (Advance k i)) j n ∙ advance_else family w k i j (λ e. n (e ∙ p.0))
  others_stay family h (Deliver k i ∷ qs) p w j n = absurd p.0
  others_stay family h (Join k i ∷ qs) p w j n = absurd p.0
  others_stay family h (Restart k ∷ qs) p w j n = absurd p.0

  stuck_stays : PartyLaws → (h k : ℕ) → (h ≡ k → ⊥) → (qs : List Event) → AllByRecursion (IsAdvanceOf k) qs → (w : Scene) → IsStuckAt l c h w → IsStuckAt l c h (run l c qs w)
  stuck_stays family h k n qs p w s i =
      ap (λ (q : Party). nat_lt h c.groups && (nat_lt i l.nodes && can_advance l (is_of_group c h) q i)) (others_stay family k qs p w h n) ∙ s i

  -- ---- moves, one after another

  pub gone_none : (v : WorldValue) → MovesLed l c v v
  gone_none v w at = ([], tt, at)

  pub gone_on : (old mid new : WorldValue) → MovesLed l c old mid → MovesLed l c mid new → MovesLed l c old new
  gone_on old mid new p q w at =
      let a = p w at in
      let b = q (run l c a.0 w) a.2 in
      (a.0 ++ b.0, all_append IsMove a.0 b.0 a.1 b.1, subst (λ x. IsWorldAt x new) (sym (run_append l c a.0 b.0 w)) b.2)

  pub handed_gone : (h a b : ℕ) (old new : WorldValue) → HasHanded l c h a b old new → MovesLed l c old new
  handed_gone h a b old new p w at = let d = p w at in (d.0, all_as IsDelivery IsMove delivery_is_move d.0 d.1, d.2)

  pub handed_all_gone : (n a b : ℕ) (old new : WorldValue) → HasHandedAll l c n a b old new → MovesLed l c old new
  handed_all_gone n a b old new p w at = let d = p w at in (d.0, all_as IsDelivery IsMove delivery_is_move d.0 d.1, d.2)

  pub exhausted_all_gone : (n : ℕ) (old new : WorldValue) → HasExhaustedAll l c n old new → MovesLed l c old new
  exhausted_all_gone n old new p w at = let q = p w at in (q.0, all_as IsAdvance IsMove advance_is_move q.0 q.1, q.2)

  -- ---- deliveries

  pub handed_none : (h a : ℕ) (v : WorldValue) → HasHanded l c h a a v v
  handed_none h a v w at = ([], tt, at, λ k r p q e. absurd (omega arith))

  pub handed_more : PartyLaws → (h a b : ℕ) (old mid new : WorldValue) (x : Answer) → h < c.groups → HasHanded l c h a b old mid → HasStepped IsWorldAt l c (Deliver h b) mid new x
      → HasHanded l c h a (b + 1) old new
  handed_more family h a b old mid new x hb p s w at =
      let d = p w at in
      let y = run l c d.0 w in
      let e : run l c (d.0 ++ Deliver h b ∷ []) w ≡ happens l c y (Deliver h b) = run_append l c d.0 (Deliver h b ∷ []) w in (
        d.0 ++ Deliver h b ∷ [],
        all_append IsDelivery d.0 (Deliver h b ∷ []) d.1 (tt, tt),
        subst (λ z. IsWorldAt z new) (sym e) (s y d.2).1,
        λ k r f t g. subst (λ z. Contains (z.parties h).taken r) (sym e) (elim (cases_eq k b) [
          | inl same ↦ delivered family l c y h b r hb (ap (λ es. slice_get es b) (emitted_kept d.0 d.1 w) ∙ (ap (slice_get w.emitted) (sym same) ∙ g))
          | inr other ↦ moves_keep family l c y (Deliver h b) tt h r (d.3 k r f (omega arith) g)
        ]),
      )

  pub handed_enough : (h a b t : ℕ) (old new : WorldValue) → t ≤ b → HasHanded l c h a b old new → HasHanded l c h a t old new
  handed_enough h a b t old new le p w at = let d = p w at in (d.0, d.1, d.2, λ k r f u g. d.3 k r f (omega arith) g)

  pub handed_all_none : (a b : ℕ) (v : WorldValue) → HasHandedAll l c 0 a b v v
  handed_all_none a b v w at = ([], tt, at, λ h f. absurd (omega arith))

  pub handed_all_more : PartyLaws → (n a b : ℕ) (old mid new : WorldValue) → HasHandedAll l c n a b old mid → HasHanded l c n a b mid new → HasHandedAll l c (n + 1) a b old new
  handed_all_more family n a b old mid new all one w at =
      let p = all w at in
      let x = run l c p.0 w in
      let q = one x p.2 in
      let e = run_append l c p.0 q.0 w in (
        p.0 ++ q.0,
        all_append IsDelivery p.0 q.0 p.1 q.1,
        subst (λ y. IsWorldAt y new) (sym e) q.2,
        λ h f k r s t g. subst (λ y. Contains (y.parties h).taken r) (sym e) (elim (cases_eq h n) [
          | inl same ↦ subst (λ m. Contains ((run l c q.0 x).parties m).taken r) (sym same) (q.3 k r s t (ap (λ es. slice_get es k) (emitted_kept p.0 p.1 w) ∙ g))
          | inr other ↦ runs_keep family q.0 (all_as IsDelivery IsMove delivery_is_move q.0 q.1) x h r (p.3 h (omega arith) k r s t g)
        ]),
      )

  pub handed_all_enough : (n m a b : ℕ) (old new : WorldValue) → n ≤ m → HasHandedAll l c m a b old new → HasHandedAll l c n a b old new
  handed_all_enough n m a b old new le p w at = let d = p w at in (d.0, d.1, d.2, λ h f. d.3 h (omega arith))

  -- ---- advances

  -- advances of group h led from one world to the other
  abbrev pub HasAdvanced : ℕ → WorldValue → WorldValue → Type 0
  HasAdvanced h old new = (w : Scene) → IsWorldAt w old → (qs : List Event) × AllByRecursion (IsAdvanceOf h) qs × IsWorldAt (run l c qs w) new

  pub advanced_none : (h : ℕ) (v : WorldValue) → HasAdvanced h v v
  advanced_none h v w at = ([], tt, at)

  pub advanced_more : (h i : ℕ) (old mid new : WorldValue) (x : Answer) → HasAdvanced h old mid → HasStepped IsWorldAt l c (Advance h i) mid new x → HasAdvanced h old new
  advanced_more h i old mid new x p s w at =
      let q = p w at in (
        q.0 ++ Advance h i ∷ [],
        all_append (IsAdvanceOf h) q.0 (Advance h i ∷ []) q.1 (refl, tt),
        subst (λ z. IsWorldAt z new) (sym (run_append l c q.0 (Advance h i ∷ []) w)) (s (run l c q.0 w) q.2).1,
      )

  pub advanced_gone : (h : ℕ) (old new : WorldValue) → HasAdvanced h old new → MovesLed l c old new
  advanced_gone h old new p w at = let q = p w at in (q.0, all_as (IsAdvanceOf h) IsMove (λ e a. advance_is_move e (advance_of_is h e a)) q.0 q.1, q.2)

  pub exhausted : (h : ℕ) (old new : WorldValue) → HasAdvanced h old new → ((w : Scene) → IsWorldAt w new → IsStuckAt l c h w) → HasExhausted l c h old new
  exhausted h old new p s w at = let q = p w at in (q.0, q.1, q.2, s (run l c q.0 w) q.2)

  pub exhausted_all_none : (v : WorldValue) → HasExhaustedAll l c 0 v v
  exhausted_all_none v w at = ([], tt, at, λ h f. absurd (omega arith))

  pub exhausted_all_more : PartyLaws → (n : ℕ) (old mid new : WorldValue) → HasExhaustedAll l c n old mid → HasExhausted l c n mid new → HasExhaustedAll l c (n + 1) old new
  exhausted_all_more family n old mid new all one w at =
      let p = all w at in
      let x = run l c p.0 w in
      let q = one x p.2 in
      let e = run_append l c p.0 q.0 w in (
        p.0 ++ q.0,
        all_append IsAdvance p.0 q.0 p.1 (all_as (IsAdvanceOf n) IsAdvance (advance_of_is n) q.0 q.1),
        subst (λ y. IsWorldAt y new) (sym e) q.2,
        λ h f. subst (IsStuckAt l c h) (sym e) (elim (cases_eq h n) [
          | inl same ↦ subst (λ m. IsStuckAt l c m (run l c q.0 x)) (sym same) q.3
          | inr other ↦ stuck_stays family h n other q.0 q.1 x (p.3 h (omega arith))
        ]),
      )

  pub exhausted_all_enough : (n m : ℕ) (old new : WorldValue) → n ≤ m → HasExhaustedAll l c m old new → HasExhaustedAll l c n old new
  exhausted_all_enough n m old new le p w at = let q = p w at in (q.0, q.1, q.2, λ h f. q.3 h (omega arith))

  -- ---- rounds

  module _ (family : PartyLaws) (a b : ℕ) (w : Scene) (knows : KnowsBelow c a w) (ds : List Event) (handed : AllByRecursion IsDelivery ds) (took : (h : ℕ) → h < c.groups → HasTaken h a b w (run l c ds w)) where
    -- what was handed over then, and what had been before
    known_now : (h : ℕ) → h < c.groups → (k : ℕ) (r : Record) → k < b → slice_get w.emitted k ≡ Some r → Contains ((run l c ds w).parties h).taken r
    known_now h f k r t g = elim (cases_lt k a) [
      | inl low ↦ runs_keep family ds (all_as IsDelivery IsMove delivery_is_move ds handed) w h r (knows h f k r (omega arith) low g)
      | inr high ↦ took h f k r high t g
    ]

    -- and still is after advances
    known_later : (qs : List Event) → AllByRecursion IsAdvance qs → b ≡ length w.emitted → KnowsBelow c b (run l c qs (run l c ds w))
    known_later qs runs all h f k r low t g =
        let x = run l c ds w in
        let more = run_grows l c qs x in
        let same : x.emitted ≡ w.emitted = emitted_kept ds handed w in
        let here : k < length x.emitted = subst (λ es. k < length es) (sym same) (omega arith) in
        let was : slice_get w.emitted k ≡ Some r =
        ap (λ es. slice_get es k) (sym same) ∙ (sym (get_left x.emitted more.0 k here) ∙ (ap (λ es. slice_get es k) (sym more.1) ∙ g)) in
        runs_keep family qs (all_as IsAdvance IsMove advance_is_move qs runs) x h r (known_now h f k r t was)

    all_known : b ≡ length w.emitted → (h : ℕ) → h < c.groups → (r : Record) → Contains (run l c ds w).emitted r → Contains ((run l c ds w).parties h).taken r
    all_known all h f r t =
        let x = run l c ds w in
        let same : x.emitted ≡ w.emitted = emitted_kept ds handed w in
        let here = t.1 in
        let below : t.0 < length w.emitted = subst (λ es. t.0 < length es) same here in
        known_now h f t.0 r (omega arith) (ap (λ es. slice_get es t.0) (sym same) ∙ get_there x.emitted t.0 r here t.2)

  pub rounded : PartyLaws → (a b : ℕ) (old mid new : WorldValue) → b ≡ length old.emitted → HasHandedAll l c c.groups a b old mid → HasExhaustedAll l c c.groups mid new → HasRounded l c a b old new
  rounded family a b old mid new all p s w at knows =
      let d = p w at in
      let x = run l c d.0 w in
      let q = s x d.2 in
      let count : b ≡ length w.emitted = all ∙ ap length at.emitted in (
        d.0,
        q.0,
        record {
          delivers = d.1;
          runs = q.1;
          taken = all_known family a b w knows d.0 d.1 d.3 count;
          stuck = λ h i. elim (cases_lt h c.groups) [
            | inl f ↦ q.3 h f i
            | inr n ↦ ap (λ t. t && (nat_lt i l.nodes && can_advance l (is_of_group c h) ((run l c q.0 x).parties h) i)) (le-ltb h c.groups n)
          ];
        },
        q.2,
        known_later family a b w knows d.0 d.1 d.3 q.0 q.1 count,
      )

  -- So many rounds led from one world to the other, in which each group has now taken the first records: what follows them counts on.
  abbrev pub HasMade : ℕ → ℕ → WorldValue → WorldValue → Type 0
  HasMade n told old new =
      (w : Scene) → IsWorldAt w old → (moves : List Event) × AllByRecursion IsMove moves × IsWorldAt (run l c moves w) new × KnowsBelow c told (run l c moves w)
      × ((m : ℕ) (rest : List Event) → Rounds l c (run l c moves w) m rest → Rounds l c w (n + m) (moves ++ rest))

  pub made_none : (v : WorldValue) → HasMade 0 0 v v
  made_none v w at = ([], tt, at, λ h f k r s t. absurd (omega arith), λ m rest more. subst (λ n. Rounds l c w n rest) (sym (zero-add m)) more)

  pub made_more : (n a b : ℕ) (old mid new : WorldValue) → HasMade n a old mid → ((x : Scene) → IsWorldAt x mid → ¬ (AllAtEnd l c x)) → HasRounded l c a b mid new → HasMade (n + 1) b old new
  made_more n a b old mid new p unended r w at =
      let s = p w at in
      let moves = s.0 in
      let x = run l c moves w in
      let t = r x s.2 s.3 in
      let ds = t.0 in
      let qs = t.1 in
      let y = run l c qs (run l c ds x) in
      let e : run l c (moves ++ (ds ++ qs)) w ≡ y = run_append l c moves (ds ++ qs) w ∙ run_append l c ds qs x in (
        moves ++ (ds ++ qs),
        all_append IsMove moves (ds ++ qs) s.1 (all_append IsMove ds qs (all_as IsDelivery IsMove delivery_is_move ds t.2.delivers) (all_as IsAdvance IsMove advance_is_move qs t.2.runs)),
        subst (λ z. IsWorldAt z new) (sym e) t.3,
        subst (KnowsBelow c b) (sym e) t.4,
        λ m rest more.
            let now : Rounds l c x (suc m) (ds ++ (qs ++ rest)) = round ds qs (unended x s.2) t.2 (subst (λ z. Rounds l c z m rest) e more) in
            let counted : n + suc m ≡ n + 1 + m = omega arith in
            let listed : moves ++ (ds ++ (qs ++ rest)) ≡ (moves ++ (ds ++ qs)) ++ rest =
            ap (λ es. moves ++ es) (sym (append_assoc ds qs rest)) ∙ sym (append_assoc moves (ds ++ qs) rest) in
            subst (λ k. Rounds l c w k ((moves ++ (ds ++ qs)) ++ rest)) counted (subst (λ es. Rounds l c w (n + suc m) es) listed (s.4 (suc m) (ds ++ (qs ++ rest)) now)),
      )

  pub made_gone : (n told : ℕ) (old new : WorldValue) → HasMade n told old new → MovesLed l c old new
  made_gone n told old new p w at = let s = p w at in (s.0, s.1, s.2)

  pub made_ended : (n told : ℕ) (old new : WorldValue) → HasMade n told old new → ((x : Scene) → IsWorldAt x new → AllAtEnd l c x) → (w : Scene) → IsWorldAt w old
      → (moves : List Event) × Rounds l c w n moves × IsWorldAt (run l c moves w) new
  made_ended n told old new p ends w at =
      let s = p w at in
      let all : Rounds l c w (n + 0) (s.0 ++ []) = s.4 0 [] (settled (ends (run l c s.0 w) s.2)) in
      (s.0, subst (λ k. Rounds l c w k s.0) (add-zero n) (subst (λ es. Rounds l c w (n + 0) es) (append-nil s.0) all), s.2)
