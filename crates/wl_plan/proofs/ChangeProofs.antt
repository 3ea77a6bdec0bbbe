-- The changes of a drive: their order, how many lie below a tick, and which number one has.
use Rattle.std.proofs.Common.{◌≡◌, ℕ, zero, suc, ◌+◌, ◌-◌, ◌<◌, ◌≤◌, Bool, true, false, inl, inr, List, [], ◌∷◌, ◌++◌, length, refl, sym, ◌∙◌, ap, subst, arith, length-append, add-zero, not, add-one, add-suc, Some, slice_get}
use Rattle.std.proofs.lemmas.Bool.{cases_lt, cases_Bool, cond-true, cond-false, true≢false}
use Rattle.wl_topology.specs.Driven.{DrivenLaws}
use Rattle.wl_record_core.specs.Truth.{count_below, IsIncreasing, AllAbove, odd}
use Rattle.wl_record_core.specs.TableLaws.{TableLaws}
use Rattle.wl_plan.specs.Line.{Line}
use Rattle.wl_plan.specs.Simulation.{level, level_before, seen, differs, changes_below, changes, ran}
use Rattle.wl_plan.specs.Sound.{IsCausal}
use Rattle.wl_plan.proofs.LineProofs.{next_no, level_is, level_before_is}

-- how many changes of node i lie below tick t
abbrev pub count : Line → ℕ → ℕ → ℕ
count l i t = length (changes_below l i t)

pub change_yes : (l : Line) (i t : ℕ) → differs (level l i t) (level_before l i t) ≡ true → changes_below l i (suc t) ≡ changes_below l i t ++ t ∷ []
unfolding changes_below
change_yes l i t h = cond-true _ _ _ h

pub change_no : (l : Line) (i t : ℕ) → differs (level l i t) (level_before l i t) ≡ false → changes_below l i (suc t) ≡ changes_below l i t
unfolding changes_below
change_no l i t h = cond-false _ _ _ h

pub same_same : (b : Bool) → differs b b ≡ false
same_same true = refl
same_same false = refl

pub count_yes : (l : Line) (i t : ℕ) → differs (level l i t) (level_before l i t) ≡ true → count l i (suc t) ≡ suc (count l i t)
count_yes l i t y = ap length (change_yes l i t y) ∙ (length-append (changes_below l i t) (t ∷ []) ∙ add-one (count l i t))

-- a change has the number of the changes below it
get_last : (xs : List ℕ) (t : ℕ) → slice_get (xs ++ t ∷ []) (length xs) ≡ Some t
get_last [] t = refl
get_last (x ∷ xs) t = get_last xs t

get_stays : (xs : List ℕ) (y t s : ℕ) → slice_get xs s ≡ Some t → slice_get (xs ++ y ∷ []) s ≡ Some t
get_stays [] y t s h = cc
get_stays (x ∷ xs) y t zero h = h
get_stays (x ∷ xs) y t (suc s) h = get_stays xs y t s h

get_more : (l : Line) (i u s t : ℕ) → slice_get (changes_below l i u) s ≡ Some t → slice_get (changes_below l i (suc u)) s ≡ Some t
get_more l i u s t h = elim (cases_Bool (differs (level l i u) (level_before l i u))) [
  | inl y ↦ rw (change_yes l i u y) (get_stays (changes_below l i u) u t s h)
  | inr n ↦ rw (change_no l i u n) h
]

get_later : (l : Line) (i u s t d : ℕ) → slice_get (changes_below l i u) s ≡ Some t → slice_get (changes_below l i (u + d)) s ≡ Some t
get_later l i u s t zero h = rw add-zero h
get_later l i u s t (suc d) h = rw add-suc (get_more l i (u + d) s t (get_later l i u s t d h))

pub change_at : (l : Line) (i t : ℕ) → t < l.stop → differs (level l i t) (level_before l i t) ≡ true → slice_get (changes l i) (count l i t) ≡ Some t
change_at l i t h y =
    subst (λ v. slice_get (changes_below l i v) (count l i t) ≡ Some t) (omega arith)
    (get_later l i (suc t) (count l i t) t (l.stop - suc t) (rw (change_yes l i t y) (get_last (changes_below l i t) t)))

-- the changes stand in order
AllAbove_more : (x y : ℕ) (xs : List ℕ) → AllAbove x xs → x < y → AllAbove x (xs ++ y ∷ [])
AllAbove_more x y [] a h = (h, tt)
AllAbove_more x y (z ∷ zs) a h = (a.0, AllAbove_more x y zs a.1 h)

-- each number lies below t
AllUnder : ℕ → List ℕ → Type 0
AllUnder t [] = Unit {0}
AllUnder t (u ∷ us) = (u < t) × AllUnder t us

under_more : (t y : ℕ) (xs : List ℕ) → AllUnder t xs → y < t → AllUnder t (xs ++ y ∷ [])
unfolding AllUnder
under_more t y [] a h = (h, tt)
under_more t y (x ∷ xs) a h = (a.0, under_more t y xs a.1 h)

under_later : (t u : ℕ) (xs : List ℕ) → t ≤ u → AllUnder t xs → AllUnder u xs
unfolding AllUnder
under_later t u [] h a = tt
under_later t u (x ∷ xs) h a = let b = a.0 in (omega arith, under_later t u xs h a.1)

increasing_more : (xs : List ℕ) (y : ℕ) → IsIncreasing xs → AllUnder y xs → IsIncreasing (xs ++ y ∷ [])
unfolding AllUnder
increasing_more [] y i h = (tt, tt)
increasing_more (x ∷ xs) y i h = (AllAbove_more x y xs i.0 h.0, increasing_more xs y i.1 h.1)

changes_under : (l : Line) (i t : ℕ) → AllUnder t (changes_below l i t)
unfolding changes_below AllUnder
changes_under l i zero = tt
changes_under l i (suc t) = elim (cases_Bool (differs (level l i t) (level_before l i t))) [
  | inl y ↦ subst (AllUnder (suc t)) (sym (change_yes l i t y)) (under_more (suc t) t _ (under_later t (suc t) _ (omega arith) (changes_under l i t)) (omega arith))
  | inr n ↦ subst (AllUnder (suc t)) (sym (change_no l i t n)) (under_later t (suc t) _ (omega arith) (changes_under l i t))
]

under_get : (xs : List ℕ) (t s u : ℕ) → AllUnder t xs → slice_get xs s ≡ Some u → u < t
unfolding AllUnder
under_get [] t s u a h = cc
under_get (x ∷ xs) t zero u a h = (let e : x ≡ u = cc in let b = a.0 in omega arith)
under_get (x ∷ xs) t (suc s) u a h = under_get xs t s u a.1 h

pub changes_inside : (l : Line) (i s t : ℕ) → slice_get (changes l i) s ≡ Some t → t < l.stop
changes_inside l i s t h = under_get (changes l i) l.stop s t (changes_under l i l.stop) h

changes_below_increase : (l : Line) (i t : ℕ) → IsIncreasing (changes_below l i t)
unfolding changes_below
changes_below_increase l i zero = tt
changes_below_increase l i (suc t) = elim (cases_Bool (differs (level l i t) (level_before l i t))) [
  | inl y ↦ subst IsIncreasing (sym (change_yes l i t y)) (increasing_more _ t (changes_below_increase l i t) (changes_under l i t))
  | inr n ↦ subst IsIncreasing (sym (change_no l i t n)) (changes_below_increase l i t)
]

pub changes_increase : (l : Line) (i : ℕ) → IsIncreasing (changes l i)
changes_increase l i = changes_below_increase l i l.stop

-- the level is dominant after an odd number of changes
odd_next : (n : ℕ) (a b : Bool) → odd n ≡ b → differs a b ≡ true → a ≡ odd (suc n)
odd_next n true true h d = absurd (true≢false (sym d))
odd_next n true false h d = sym (ap not h)
odd_next n false true h d = sym (ap not h)
odd_next n false false h d = absurd (true≢false (sym d))

same_level : (a b : Bool) → differs a b ≡ false → a ≡ b
same_level true true d = refl
same_level true false d = absurd (true≢false d)
same_level false true d = absurd (true≢false d)
same_level false false d = refl

odd_step : (l : Line) (i t : ℕ) → odd (count l i t) ≡ level_before l i t → odd (count l i (suc t)) ≡ level l i t
odd_step l i t h = elim (cases_Bool (differs (level l i t) (level_before l i t))) [
  | inl y ↦ ap odd (count_yes l i t y) ∙ sym (odd_next (count l i t) _ _ h y)
  | inr n ↦ ap odd (ap length (change_no l i t n)) ∙ (h ∙ sym (same_level _ _ n))
]

pub level_before_odd : (l : Line) (i t : ℕ) → odd (count l i t) ≡ level_before l i t
unfolding changes_below
level_before_odd l i zero = refl
level_before_odd l i (suc t) = odd_step l i t (level_before_odd l i t)

module _ (lines : DrivenLaws) (tables : TableLaws) where
  open tables use {count_last, skip_last}

  -- whether the level changes at t, by what the node drives before and after
  pub step_is : (l : Line) (i : ℕ) → IsCausal l → i < l.nodes → (t : ℕ)
      → differs (level l i t) (level_before l i t) ≡ differs (l.drives i (seen l i (ran l i (suc t)))) (l.drives i (seen l i (ran l i t)))
  step_is l i s b t =
      ap (λ v. differs v (level_before l i t)) (level_is lines l i t s b)
      ∙ ap (λ v. differs (l.drives i (seen l i (ran l i (suc t)))) v) (level_before_is lines l i t s b)

  -- while no quantum runs nothing changes
  pub still : (l : Line) (i : ℕ) → IsCausal l → i < l.nodes → (t : ℕ) → ran l i (suc t) ≡ ran l i t → changes_below l i (suc t) ≡ changes_below l i t
  still l i s b t e =
      change_no l i t (step_is l i s b t
      ∙ (ap (λ k. differs (l.drives i (seen l i k)) (l.drives i (seen l i (ran l i t)))) e ∙ same_same (l.drives i (seen l i (ran l i t)))))

  -- at the end and after it nothing changes
  pub after_stop : (l : Line) (i : ℕ) → IsCausal l → i < l.nodes → (u : ℕ) → l.stop ≤ u → changes_below l i u ≡ changes l i
  after_stop l i s b u h = ap (changes_below l i) (omega arith) ∙ far (u - l.stop)
    where
      far : (d : ℕ) → changes_below l i (l.stop + d) ≡ changes_below l i l.stop
      far zero = ap (changes_below l i) (add-zero l.stop)
      far (suc d) =
          ap (changes_below l i) (add-suc l.stop d)
          ∙ (still l i s b (l.stop + d) (next_no l i (l.stop + d) (λ a e. absurd (omega arith))) ∙ far d)

  -- the changes below t are below every later tick
  all_below : (l : Line) (i t u : ℕ) → t ≤ u → count_below u (changes_below l i t) ≡ count l i t
  unfolding changes_below
  all_below l i zero u h = refl
  all_below l i (suc t) u h = elim (cases_Bool (differs (level l i t) (level_before l i t))) [
    | inl y ↦
        let e = all_below l i t u (omega arith) in
        let c = count_last u t (changes_below l i t) (omega arith) in
        let n = count_yes l i t y in
        ap (count_below u) (change_yes l i t y) ∙ omega arith
    | inr n ↦ ap (count_below u) (change_no l i t n) ∙ (all_below l i t u (omega arith) ∙ sym (ap length (change_no l i t n)))
  ]

  -- the later changes are not below u
  below_first : (l : Line) (i u d : ℕ) → count_below u (changes_below l i (u + d)) ≡ count l i u
  below_first l i u zero = ap (λ v. count_below u (changes_below l i v)) (add-zero u) ∙ all_below l i u u (omega arith)
  below_first l i u (suc d) =
      ap (λ v. count_below u (changes_below l i v)) (add-suc u d)
      ∙ elim (cases_Bool (differs (level l i (u + d)) (level_before l i (u + d)))) [
        | inl y ↦
            ap (count_below u) (change_yes l i (u + d) y)
            ∙ (skip_last u (u + d) (changes_below l i (u + d)) (omega arith) ∙ below_first l i u d)
        | inr n ↦ ap (count_below u) (change_no l i (u + d) n) ∙ below_first l i u d
      ]

  -- how many changes lie below a tick
  pub count_is : (l : Line) (i : ℕ) → IsCausal l → i < l.nodes → (u : ℕ) → count_below u (changes l i) ≡ count l i u
  count_is l i s b u = elim (cases_lt u l.stop) [
    | inl early ↦ ap (λ v. count_below u (changes_below l i v)) (omega arith) ∙ below_first l i u (l.stop - u)
    | inr late ↦ all_below l i l.stop u late ∙ sym (ap length (after_stop l i s b u late))
  ]

  pub level_odd : (l : Line) (i t : ℕ) → IsCausal l → i < l.nodes → level l i t ≡ odd (count_below (suc t) (changes l i))
  level_odd l i t s b = sym (ap odd (count_is l i s b (suc t)) ∙ odd_step l i t (level_before_odd l i t))
