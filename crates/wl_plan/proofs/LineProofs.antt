-- Where each node of the one-thread simulation is before a tick.
use Rattle.std.proofs.Common.{◌≡◌, ℕ, zero, suc, ◌+◌, ◌-◌, ◌<◌, ◌≤◌, Bool, ◌&&◌, ◌||◌, ◌⊎◌, inl, inr, List, [], ◌∷◌, ◌++◌, length, refl, sym, ◌∙◌, ap, subst, arith, nat_lt, ◌==◌, length-append, add-suc, add-zero, add-one, append_assoc, append-nil}
use Rattle.std.proofs.lemmas.Bool.{cases_eq, cases_lt, cases_order, lt-ltb, eq-eqb, ne_eqb, cond-true, cond-false, ltb-true, eqb-true, and_parts, and_from, false_from_ne_true}
use Rattle.wl_level.specs.declared.Level.{Level}
use Rattle.wl_level.specs.Levels.{level_of}
use Rattle.wl_topology.specs.Driven.{DrivenLaws}
use Rattle.wl_plan.specs.Line.{Line, found}
use Rattle.wl_plan.specs.Simulation.{history, level, level_before, seen, ran, AreInside}
use Rattle.wl_plan.specs.Sound.{IsCausal}

-- k quanta of node i lie before tick t
pub record IsRan (l : Line) (i t k : ℕ) : Type 0 where
  pub before : (j : ℕ) → j < k → l.instant i j < t
  pub inside : AreInside l i k
  pub after : (t ≤ l.instant i k) ⊎ (l.stop ≤ l.instant i k)

-- what was driven stays
pub drove_stays : (l : Line) (t i u : ℕ) → u < t → (history l t).drove i u ≡ level l i u
unfolding history
drove_stays l zero i u h = absurd (omega arith)
drove_stays l (suc t) i u h = elim (cases_eq u t) [
  | inl same ↦ subst (λ v. (history l (suc t)).drove i v ≡ level l i v) (sym same) refl
  | inr other ↦
      let below : u < t = omega arith in
      cond-false (u == t) _ _ (ne_eqb u t other) ∙ drove_stays l t i u below
]

later : (l : Line) (i : ℕ) → IsCausal l → i < l.nodes → (k d : ℕ) → l.instant i k ≤ l.instant i (k + d)
later l i s b k zero = rw add-zero (omega arith)
later l i s b k (suc d) =
    let e = later l i s b k d in
    let f = s.clocks i (k + d) b in
    rw add-suc (omega arith)

-- clocks go on
pub clock_later : (l : Line) (i k m : ℕ) → IsCausal l → i < l.nodes → k ≤ m → l.instant i k ≤ l.instant i m
clock_later l i k m s b h = subst (λ v. l.instant i k ≤ l.instant i v) (omega arith) (later l i s b k (m - k))

late : (l : Line) (i t x y : ℕ) → IsRan l i t x → x < y → IsRan l i t y → ⊥
late l i t x y px less py =
    let e = py.before x less in
    let f = py.inside x less in
    elim px.after [ inl h ↦ omega arith | inr h ↦ omega arith ]

-- no two counts of quanta lie before one tick
pub ran_once : (l : Line) (i t k m : ℕ) → IsRan l i t k → IsRan l i t m → k ≡ m
ran_once l i t k m p q = elim (cases_order k m) [
  | inl e ↦ e
  | inr o ↦ elim o [ inl less ↦ absurd (late l i t k m p less q) | inr more ↦ absurd (late l i t m k q more p) ]
]

-- at the tick of its next quantum a node sees the line
seen_yes : (l : Line) (i t : ℕ) → t < l.stop → l.instant i (ran l i t) ≡ t → (history l (suc t)).seen i ≡ (history l t).seen i ++ level_of (found l (history l t).drove i t) ∷ []
unfolding history
seen_yes l i t h e = cond-true (nat_lt t l.stop && (l.instant i (ran l i t) == t)) _ _ (and_from _ _ (lt-ltb _ _ h) (eq-eqb _ _ e))

seen_no : (l : Line) (i t : ℕ) → (t < l.stop → l.instant i (ran l i t) ≡ t → ⊥) → (history l (suc t)).seen i ≡ (history l t).seen i
unfolding history
seen_no l i t h = cond-false (nat_lt t l.stop && (l.instant i (ran l i t) == t)) _ _ (false_from_ne_true _ (λ e. let p = and_parts _ _ e in h (ltb-true _ _ p.0) (eqb-true _ _ p.1)))

counted : (xs : List Level) (x : Level) → length (xs ++ x ∷ []) ≡ suc (length xs)
counted xs x = length-append xs (x ∷ []) ∙ add-one (length xs)

pub next_yes : (l : Line) (i t : ℕ) → t < l.stop → l.instant i (ran l i t) ≡ t → ran l i (suc t) ≡ suc (ran l i t)
next_yes l i t h e = ap length (seen_yes l i t h e) ∙ counted ((history l t).seen i) (level_of (found l (history l t).drove i t))

pub next_no : (l : Line) (i t : ℕ) → (t < l.stop → l.instant i (ran l i t) ≡ t → ⊥) → ran l i (suc t) ≡ ran l i t
next_no l i t h = ap length (seen_no l i t h)

-- whether the next quantum stands at t
pub data Stands (l : Line) (i t : ℕ) : Type 0 where
  here : t < l.stop → l.instant i (ran l i t) ≡ t → Stands l i t
  elsewhere : (t < l.stop → l.instant i (ran l i t) ≡ t → ⊥) → Stands l i t

pub stands : (l : Line) (i t : ℕ) → Stands l i t
stands l i t = elim (cases_lt t l.stop) [
  | inl a ↦ elim (cases_eq (l.instant i (ran l i t)) t) [ inl e ↦ here a e | inr n ↦ elsewhere (λ _ e. n e) ]
  | inr b ↦ elsewhere (λ a _. absurd (omega arith))
]

-- a tick more
pub ran_yes : (l : Line) (i t k : ℕ) → IsCausal l → i < l.nodes → t < l.stop → l.instant i k ≡ t → IsRan l i t k → IsRan l i (suc t) (suc k)
ran_yes l i t k s b h e r =
    record {
      before = λ j below. let f = clock_later l i j k s b (omega arith) in omega arith;
      inside = λ j below. let f = clock_later l i j k s b (omega arith) in omega arith;
      after = let f = s.clocks i k b in inl (omega arith);
    }

pub ran_no : (l : Line) (i t k : ℕ) → (t < l.stop → l.instant i k ≡ t → ⊥) → IsRan l i t k → IsRan l i (suc t) k
ran_no l i t k h r =
    record {
      before = λ j below. let f = r.before j below in omega arith;
      inside = r.inside;
      after = elim r.after [
        | inl a ↦ elim (cases_eq (l.instant i k) t) [
          | inl e ↦ elim (cases_lt t l.stop) [ inl c ↦ absurd (h c e) | inr d ↦ inr (omega arith) ]
          | inr n ↦ inl (omega arith)
        ]
        | inr a ↦ inr a
      ];
    }

-- as many quanta lie before tick t as the simulation ran
pub ran_is : (l : Line) (i : ℕ) → IsCausal l → i < l.nodes → (t : ℕ) → IsRan l i t (ran l i t)
unfolding history
ran_is l i s b zero = record { before = λ k h. absurd (omega arith); inside = λ k h. absurd (omega arith); after = inl (omega arith) }
ran_is l i s b (suc t) = elim (stands l i t) [
  | here h e ↦ subst (IsRan l i (suc t)) (sym (next_yes l i t h e)) (ran_yes l i t _ s b h e (ran_is l i s b t))
  | elsewhere h ↦ subst (IsRan l i (suc t)) (sym (next_no l i t h)) (ran_no l i t _ h (ran_is l i s b t))
]

-- its quanta so far lie before its next one
pub ran_next : (l : Line) (i k : ℕ) → IsCausal l → i < l.nodes → AreInside l i k → IsRan l i (l.instant i k) k
ran_next l i k s b h = record {
  before = λ j low. (let r = clock_later l i (suc j) k s b low in let q = s.clocks i j b in omega arith);
  inside = h;
  after = inl (omega arith);
}

pub ran_now : (l : Line) (i k : ℕ) → IsCausal l → i < l.nodes → AreInside l i k → ran l i (l.instant i k) ≡ k
ran_now l i k s b h = ran_once l i (l.instant i k) _ k (ran_is l i s b (l.instant i k)) (ran_next l i k s b h)

pub ran_at_end : (l : Line) (i k : ℕ) → IsCausal l → i < l.nodes → AreInside l i k → l.stop ≤ l.instant i k → ran l i l.stop ≡ k
ran_at_end l i k s b h e = ran_once l i l.stop _ k (ran_is l i s b l.stop) (record { before = h; inside = h; after = inl e })

pub length_seen : (l : Line) (i k : ℕ) → length (seen l i k) ≡ k
unfolding seen
length_seen l i zero = refl
length_seen l i (suc k) = counted (seen l i k) (level_of (found l (level l) i (l.instant i k))) ∙ ap suc (length_seen l i k)

-- the levels seen at more quanta
pub seen_more : (l : Line) (i k j : ℕ) → (more : List Level) × (length more ≡ j) × (seen l i (k + j) ≡ seen l i k ++ more)
unfolding seen
seen_more l i k zero = ([], refl, ap (seen l i) (add-zero k) ∙ sym (append-nil (seen l i k)))
seen_more l i k (suc j) =
    let r = seen_more l i k j in
    let x = level_of (found l (level l) i (l.instant i (k + j))) in
    (r.0 ++ x ∷ [], counted r.0 x ∙ ap suc r.1, ap (seen l i) (add-suc k j) ∙ (ap (λ v. v ++ x ∷ []) r.2 ∙ append_assoc (seen l i k) r.0 (x ∷ [])))

module _ (lines : DrivenLaws) where
  pub found_same : (l : Line) (drove other : ℕ → ℕ → Bool) (j t : ℕ)
      → ((i : ℕ) → i < l.nodes → l.delay i j ≤ t → drove i (t - l.delay i j) ≡ other i (t - l.delay i j))
      → found l drove j t ≡ found l other j t
  found_same l drove other j t h = ap (λ v. v || l.disturbed j t) (lines.same l.nodes l.delay drove other j t h)

  -- what a node saw before tick t is what it sees at its quanta before t
  pub history_seen : (l : Line) (i : ℕ) → IsCausal l → i < l.nodes → (t : ℕ) → (history l t).seen i ≡ seen l i (ran l i t)
  unfolding history seen
  history_seen l i s b zero = refl
  history_seen l i s b (suc t) = elim (stands l i t) [
    | here h e ↦
        let k = ran l i t in
        let same : found l (history l t).drove i t ≡ found l (level l) i (l.instant i k) =
        found_same l (history l t).drove (level l) i t (λ j c early. let d = s.delays j i c b in drove_stays l t j (t - l.delay j i) (omega arith))
        ∙ ap (found l (level l) i) (sym e) in
        seen_yes l i t h e ∙ (ap (λ xs. xs ++ level_of (found l (history l t).drove i t) ∷ []) (history_seen l i s b t)
        ∙ (ap (λ v. seen l i k ++ level_of v ∷ []) same
        ∙ ap (seen l i) (sym (next_yes l i t h e))))
    | elsewhere h ↦ seen_no l i t h ∙ (history_seen l i s b t ∙ ap (seen l i) (sym (next_no l i t h)))
  ]

  -- the level is what the node drives after its quanta so far
  pub level_is : (l : Line) (i t : ℕ) → IsCausal l → i < l.nodes → level l i t ≡ l.drives i (seen l i (ran l i (suc t)))
  unfolding history
  level_is l i t s b = cond-true (t == t) _ _ (eq-eqb t t refl) ∙ ap (l.drives i) (history_seen l i s b (suc t))

  -- and a tick earlier
  pub level_before_is : (l : Line) (i t : ℕ) → IsCausal l → i < l.nodes → level_before l i t ≡ l.drives i (seen l i (ran l i t))
  unfolding seen history
  level_before_is l i zero s b = sym (s.begins i b)
  level_before_is l i (suc t) s b = level_is l i t s b
