-- A consistent guess holds, tick by tick: what is shown to a node rests on what was driven earlier.
use Rattle.std.proofs.Common.{◌≡◌, ◌≢◌, ℕ, zero, suc, ◌+◌, ◌-◌, ◌<◌, ◌≤◌, Bool, true, false, ◌&&◌, ◌||◌, ◌==◌, not, inl, inr, List, [], ◌∷◌, ◌++◌, length, take, refl, sym, ◌∙◌, ap, subst, arith, add-zero, add-suc, append_assoc, append-nil}
use Rattle.std.proofs.lemmas.Bool.{cases_lt, cases_eq, cases_Bool, cond-true, cond-false, true≢false, or_cases, or_left, or_right, and_parts, eq-eqb, ne_eqb, false_from_ne_true}
use Rattle.std.proofs.Math.Seq.{take-length, take-append_seam}
use Rattle.wl_level.specs.Levels.{level_of}
use Rattle.wl_topology.specs.Driven.{DrivenLaws, driven}
use Rattle.wl_record_core.specs.Truth.{count_below}
use Rattle.wl_record_core.specs.TableLaws.{TableLaws}
use Rattle.wl_plan.specs.Line.{Line, found}
use Rattle.wl_plan.specs.Guess.{from_others, beside, alone, IsConsistent, IsAsAlone, GuessLaws}
use Rattle.wl_plan.specs.Simulation.{level, level_before, seen, differs, changes, changes_below, ran, AreInside}
use Rattle.wl_plan.specs.Sound.{IsCausal}
use Rattle.wl_plan.proofs.LineProofs.{clock_later, ran_is, ran_once, level_is, level_before_is, found_same}
use Rattle.wl_plan.proofs.ChangeProofs.{count, count_is, change_no, change_yes, after_stop}

-- two tests that pass together
both : (a b : Bool) → (a ≡ true → b ≡ true) → (b ≡ true → a ≡ true) → a ≡ b
both true b f g = sym (f refl)
both false b f g = sym (false_from_ne_true b (λ h. true≢false (sym (g h))))

masked : (i j : ℕ) (b : Bool) → i ≢ j → (not (i == j) && b) ≡ b
masked i j b other = ap (λ v. not v && b) (ne_eqb i j other)

masked_own : (i j : ℕ) (b : Bool) → i ≡ j → (not (i == j) && b) ≡ false
masked_own i j b own = ap (λ v. not v && b) (eq-eqb i j own)

pub causal : (l : Line) (shown : ℕ → Bool) → IsCausal l → IsCausal (beside l shown)
causal l shown s = record {
  delays = λ i j b d. elim (cases_eq i j) [
    | inl own ↦ subst (λ n. 1 ≤ n) (sym (cond-true (i == j) _ _ (eq-eqb i j own))) (s.delays i j b d)
    | inr other ↦ subst (λ n. 1 ≤ n) (sym (cond-false (i == j) _ _ (ne_eqb i j other))) (omega arith)
  ];
  clocks = s.clocks;
  quiet_stays = s.quiet_stays;
  begins = s.begins;
}

none_seen : (l : Line) (shown : ℕ → Bool) (j : ℕ) → seen (beside l shown) j 0 ≡ seen l j 0
unfolding seen
none_seen l shown j = refl

none_changed : (l : Line) (shown : ℕ → Bool) (j : ℕ) → changes_below (beside l shown) j 0 ≡ changes_below l j 0
unfolding changes_below
none_changed l shown j = refl

module _ (lines : DrivenLaws) where
  module _ (l : Line) (own drove : ℕ → ℕ → Bool) (shown : ℕ → Bool) (j t : ℕ) (b : j < l.nodes) (inside : t < l.stop)
      (same : l.delay j j ≤ t → own j (t - l.delay j j) ≡ drove j (t - l.delay j j)) where
    near : (beside l shown).delay j j ≡ l.delay j j
    near = cond-true (j == j) _ _ (eq-eqb j j refl)

    far : (i : ℕ) → i ≢ j → (beside l shown).delay i j ≤ t → ⊥
    far i other h = (let e : (beside l shown).delay i j ≡ suc l.stop = cond-false (i == j) _ _ (ne_eqb i j other) in omega arith)

    masks : ℕ → ℕ → Bool
    masks i u = not (i == j) && drove i u

    there : (driven l.nodes (beside l shown).delay own j t || driven l.nodes l.delay (λ i u. not (i == j) && drove i u) j t) ≡ true → driven l.nodes l.delay drove j t ≡ true
    there h = elim (or_cases _ _ h) [
      | inl mine ↦
          (let d = lines.dominant_by l.nodes (beside l shown).delay own j t mine in
          elim (cases_eq d.0 j) [
            | inl is ↦
                let before : l.delay j j ≤ t = subst (λ n. n ≤ t) near (subst (λ n. (beside l shown).delay n j ≤ t) is d.2) in
                let drives : own j (t - l.delay j j) ≡ true = subst (λ n. own j (t - n) ≡ true) near (subst (λ n. own n (t - (beside l shown).delay n j) ≡ true) is d.3) in
                lines.dominant_from l.nodes l.delay drove j j t b before (sym (same before) ∙ drives)
            | inr other ↦ absurd (far d.0 other d.2)
          ])
      | inr others ↦
          (let d = lines.dominant_by l.nodes l.delay (λ i u. not (i == j) && drove i u) j t others in
          lines.dominant_from l.nodes l.delay drove d.0 j t d.1 d.2 (and_parts _ _ d.3).1)
    ]

    back : driven l.nodes l.delay drove j t ≡ true → (driven l.nodes (beside l shown).delay own j t || driven l.nodes l.delay (λ i u. not (i == j) && drove i u) j t) ≡ true
    back h =
        let d = lines.dominant_by l.nodes l.delay drove j t h in
        elim (cases_eq d.0 j) [
          | inl is ↦
              let before : l.delay j j ≤ t = subst (λ n. l.delay n j ≤ t) is d.2 in
              let drives : drove j (t - l.delay j j) ≡ true = subst (λ n. drove n (t - l.delay n j) ≡ true) is d.3 in
              or_left _ _ (lines.dominant_from l.nodes (beside l shown).delay own j j t b (subst (λ n. n ≤ t) (sym near) before)
              (subst (λ n. own j (t - n) ≡ true) (sym near) (same before ∙ drives)))
          | inr other ↦
              or_right _ _ (lines.dominant_from l.nodes l.delay (λ i u. not (i == j) && drove i u) d.0 j t d.1 d.2 (masked d.0 j _ other ∙ d.3))
        ]

    pub parts : shown t ≡ from_others l drove j t → found (beside l shown) own j t ≡ found l drove j t
    parts right =
        ap (λ v. driven l.nodes (beside l shown).delay own j t || v) right
        ∙ (grouped (driven l.nodes (beside l shown).delay own j t) (driven l.nodes l.delay (λ i u. not (i == j) && drove i u) j t) (l.disturbed j t)
        ∙ ap (λ v. v || l.disturbed j t) (both _ _ there back))
      where
        grouped : (x y z : Bool) → (x || (y || z)) ≡ ((x || y) || z)
        grouped true y z = refl
        grouped false y z = refl

  others_same : (l : Line) (drove other : ℕ → ℕ → Bool) (j t : ℕ) → ((i : ℕ) → i < l.nodes → l.delay i j ≤ t → drove i (t - l.delay i j) ≡ other i (t - l.delay i j))
      → from_others l drove j t ≡ from_others l other j t
  others_same l drove other j t same =
      found_same lines l (λ i u. not (i == j) && drove i u) (λ i u. not (i == j) && other i u) j t (λ i b h. ap (λ v. not (i == j) && v) (same i b h))

  -- a node that is shown what comes from the others
  module _ (l : Line) (shown : ℕ → Bool) (j : ℕ) (s : IsCausal l) (b : j < l.nodes) where
    abbrev own : Line
    own = beside l shown

    same_ran : (t : ℕ) → ran own j t ≡ ran l j t
    same_ran t =
        let r = ran_is l j s b t in
        ran_once own j t _ _ (ran_is own j (causal l shown s) b t) (record { before = r.before; inside = r.inside; after = r.after })

    -- sees the same at quanta up to a tick before which it drove the same
    same_seen : (u k : ℕ) → ((t : ℕ) → t ≤ u → shown t ≡ from_others l (level l) j t) → ((v : ℕ) → v < u → level own j v ≡ level l j v)
        → ((q : ℕ) → q < k → (l.instant j q ≤ u) × (l.instant j q < l.stop)) → seen own j k ≡ seen l j k
    unfolding seen
    same_seen u zero right drove before = refl
    same_seen u (suc k) right drove before =
        let here = before k (omega arith) in
        let t = l.instant j k in
        let d = s.delays j j b b in
        ap (λ v. seen own j k ++ level_of v ∷ [])
        (parts l (level own) (level l) shown j t b here.1 (λ come. drove (t - l.delay j j) (omega (arith, here.0, d, come))) (right t here.0))
        ∙ ap (λ xs. xs ++ level_of (found l (level l) j t) ∷ []) (same_seen u k right drove (λ q c. before q (omega (arith, c))))

    -- and so drives the same at that tick
    same_level : (w u : ℕ) → w ≤ l.stop → ((t : ℕ) → t < w → shown t ≡ from_others l (level l) j t) → ((v : ℕ) → v < u → level own j v ≡ level l j v) → u < w → level own j u ≡ level l j u
    same_level w u few right drove below =
        let r = ran_is l j s b (suc u) in
        level_is lines own j u (causal l shown s) b
        ∙ (ap (λ n. l.drives j (seen own j n)) (same_ran (suc u))
        ∙ (ap (l.drives j) (same_seen u (ran l j (suc u)) (λ t c. right t (omega (arith, c, below))) drove
        (λ q c. (let x = r.before q c in omega (arith, x), r.inside q c)))
        ∙ sym (level_is lines l j u s b)))

    same_levels : (w u : ℕ) → w ≤ l.stop → ((t : ℕ) → t < w → shown t ≡ from_others l (level l) j t) → u ≤ w → (v : ℕ) → v < u → level own j v ≡ level l j v
    same_levels w zero few right below v c = absurd (omega (arith, c))
    same_levels w (suc u) few right below v c = elim (cases_lt v u) [
      | inl before ↦ same_levels w u few right (omega (arith, below)) v before
      | inr now ↦
          (let e : u ≡ v = omega (arith, c, now) in
          subst (λ n. level own j n ≡ level l j n) e (same_level w u few right (same_levels w u few right (omega (arith, below))) (omega (arith, below))))
    ]

    module _ (w k : ℕ) (few : w ≤ l.stop) (right : (t : ℕ) → t < w → shown t ≡ from_others l (level l) j t) (inside : AreInside l j k) (below : (q : ℕ) → q < k → l.instant j q < w) where
      seen_same : (n : ℕ) → n ≤ k → seen own j n ≡ seen l j n
      seen_same zero c = none_seen l shown j
      seen_same (suc n) c =
          let last : l.instant j n < w = below n (omega (arith, c)) in
          same_seen (l.instant j n) (suc n) (λ t h. right t (omega (arith, h, last))) (λ v h. same_levels w (l.instant j n) few right (omega (arith, last)) v h)
          (λ q h. (clock_later l j q n s b (omega (arith, h)), inside q (omega (arith, h, c))))

      -- before its next quantum it has run no more
      ran_few : (t : ℕ) → t ≤ l.instant j k → ran l j t ≤ k
      ran_few t c = elim (cases_lt k (ran l j t)) [
        | inl more ↦ absurd (let x = (ran_is l j s b t).before k more in omega (arith, x, c))
        | inr fine ↦ fine
      ]

      drives_same : (t : ℕ) → t ≤ l.instant j k → l.drives j (seen own j (ran own j t)) ≡ l.drives j (seen l j (ran l j t))
      drives_same t c = ap (λ n. l.drives j (seen own j n)) (same_ran t) ∙ ap (l.drives j) (seen_same (ran l j t) (ran_few t c))

      differs_same : (t : ℕ) → t < l.instant j k → differs (level own j t) (level_before own j t) ≡ differs (level l j t) (level_before l j t)
      differs_same t c =
          let n : level own j t ≡ level l j t = level_is lines own j t (causal l shown s) b ∙ (drives_same (suc t) c ∙ sym (level_is lines l j t s b)) in
          let p : level_before own j t ≡ level_before l j t = level_before_is lines own j t (causal l shown s) b ∙ (drives_same t (omega (arith, c)) ∙ sym (level_before_is lines l j t s b)) in
          ap (λ v. differs v (level_before own j t)) n ∙ ap (λ v. differs (level l j t) v) p

      changes_same : (t : ℕ) → t ≤ l.instant j k → changes_below own j t ≡ changes_below l j t
      changes_same zero c = none_changed l shown j
      changes_same (suc t) c =
          let before = changes_same t (omega (arith, c)) in
          let e = differs_same t (omega (arith, c)) in
          elim (cases_Bool (differs (level l j t) (level_before l j t))) [
            | inl y ↦ change_yes own j t (e ∙ y) ∙ (ap (λ xs. xs ++ t ∷ []) before ∙ sym (change_yes l j t y))
            | inr n ↦ change_no own j t (e ∙ n) ∙ (before ∙ sym (change_no l j t n))
          ]

-- the changes below a tick are the first ones
more_changes : (l : Line) (i t d : ℕ) → (more : List ℕ) × (changes_below l i (t + d) ≡ changes_below l i t ++ more)
more_changes l i t zero = ([], ap (changes_below l i) (add-zero t) ∙ sym (append-nil (changes_below l i t)))
more_changes l i t (suc d) =
    let m = more_changes l i t d in
    elim (cases_Bool (differs (level l i (t + d)) (level_before l i (t + d)))) [
      | inl y ↦ (
        m.0 ++ (t + d) ∷ [],
        ap (changes_below l i) (add-suc t d)
            ∙ (change_yes l i (t + d) y ∙ (ap (λ xs. xs ++ (t + d) ∷ []) m.1 ∙ append_assoc (changes_below l i t) m.0 ((t + d) ∷ []))),
      )
      | inr n ↦ (m.0, ap (changes_below l i) (add-suc t d) ∙ (change_no l i (t + d) n ∙ m.1))
    ]

module _ (lines : DrivenLaws) (tables : TableLaws) where
  front_is : (l : Line) (i t : ℕ) → IsCausal l → i < l.nodes → take (count_below t (changes l i)) (changes l i) ≡ changes_below l i t
  front_is l i t s b =
      ap (λ n. take n (changes l i)) (count_is lines tables l i s b t)
      ∙ elim (cases_lt t l.stop) [
        | inl early ↦
            (let m = more_changes l i t (l.stop - t) in
            let all : changes l i ≡ changes_below l i t ++ m.0 = ap (changes_below l i) (omega (arith, early)) ∙ m.1 in
            ap (take (count l i t)) all ∙ take-append_seam (changes_below l i t) m.0)
        | inr late ↦
            (let e : changes_below l i t ≡ changes l i = after_stop lines tables l i s b t late in
            ap (λ xs. take (length xs) (changes l i)) e ∙ (take-length (changes l i) ∙ sym e))
      ]

  pub shown_right : (l : Line) (shown : ℕ → Bool) (j w k : ℕ) → IsCausal l → j < l.nodes → w ≤ l.stop → ((t : ℕ) → t < w → shown t ≡ from_others l (level l) j t)
      → AreInside l j k → ((q : ℕ) → q < k → l.instant j q < w) → IsAsAlone l j shown k
  shown_right l shown j w k s b few right inside below = record {
    seen = seen_same lines l shown j s b w k few right inside below k (omega arith);
    changes = front_is (beside l shown) j (l.instant j k) (causal l shown s) b
        ∙ (changes_same lines l shown j s b w k few right inside below (l.instant j k) (omega arith)
        ∙ sym (front_is l j (l.instant j k) s b));
  }

  module _ (l : Line) (from : ℕ → ℕ) (shown : ℕ → ℕ → Bool) (w : ℕ) (s : IsCausal l) (few : w ≤ l.stop) (is : IsConsistent l from shown w) where
    -- up to a tick before which each node drove what it drives on the line
    right_at : (t : ℕ) → ((i u : ℕ) → i < l.nodes → u < t → alone l shown i u ≡ level l i u) → t < w → (j : ℕ) → j < l.nodes → shown j t ≡ from_others l (level l) j t
    right_at t drove below j b = elim (cases_lt t (from j)) [
      | inl before ↦ is.begun j t b below before
      | inr after ↦
          is.agrees j t b below after
          ∙ others_same lines l (alone l shown) (level l) j t (λ i c come. let d = s.delays i j c b in drove i (t - l.delay i j) c (omega (arith, d, come)))
    ]

    all_right : (u : ℕ) → u ≤ w → ((i v : ℕ) → i < l.nodes → v < u → alone l shown i v ≡ level l i v) × ((j t : ℕ) → j < l.nodes → t < u → shown j t ≡ from_others l (level l) j t)
    all_right zero c = ((λ i v b h. absurd (omega (arith, h))), (λ j t b h. absurd (omega (arith, h))))
    all_right (suc u) c =
        let before = all_right u (omega (arith, c)) in
        let right : (j t : ℕ) → j < l.nodes → t < suc u → shown j t ≡ from_others l (level l) j t = λ j t b h. elim (cases_lt t u) [
          | inl early ↦ before.1 j t b early
          | inr now ↦
              (let e : u ≡ t = omega (arith, h, now) in
              subst (λ n. shown j n ≡ from_others l (level l) j n) e (right_at u before.0 (omega (arith, c)) j b))
        ] in
        ((λ i v b h. same_levels lines l (shown i) i s b (suc u) (suc u) (omega (arith, c, few)) (λ t. right i t b) (omega arith) v h), right)

    pub holds : (j t : ℕ) → j < l.nodes → t < w → shown j t ≡ from_others l (level l) j t
    holds j t b below = (all_right w (omega arith)).1 j t b below

pub guess_laws : DrivenLaws → TableLaws → GuessLaws
guess_laws lines tables = record {
  causal = causal;
  parts = λ l own drove shown j t b inside right same. parts lines l own drove shown j t b inside same right;
  shown_right = shown_right lines tables;
  holds = holds lines tables;
}
