-- On a line at rest each node sees recessive, and so drives recessive, tick by tick.
use Rattle.std.proofs.Common.{◌≡◌, ℕ, zero, suc, ◌+◌, ◌-◌, ◌<◌, ◌≤◌, false, ◌||◌, inl, inr, [], ◌∷◌, ◌++◌, length, replicate, sym, ◌∙◌, ap, arith, add-zero, add-suc, append-nil}
use Rattle.std.proofs.lemmas.Bool.{cases_lt, false_from_ne_true, true≢false}
use Rattle.wl_level.specs.declared.Level.TheVariants.{Recessive}
use Rattle.wl_level.specs.Levels.{level_of}
use Rattle.wl_level.proofs.Callers.{snoc}
use Rattle.wl_topology.specs.Driven.{DrivenLaws, driven}
use Rattle.wl_record_core.specs.Truth.{count_below}
use Rattle.wl_record_core.specs.TableLaws.{TableLaws}
use Rattle.wl_plan.specs.Line.{Line, found}
use Rattle.wl_plan.specs.Rest.{IsAtRest, RestLaw, StandsUpTo}
use Rattle.wl_plan.specs.Simulation.{level, level_before, seen, differs, changes, ran, AreInside}
use Rattle.wl_plan.specs.Sound.{IsCausal}
use Rattle.wl_plan.proofs.LineProofs.{IsRan, clock_later, ran_is, level_is, level_before_is}
use Rattle.wl_plan.proofs.ChangeProofs.{count, count_is, change_no}

-- a node has run no fewer quanta before a later tick
least : (l : Line) (i k t n : ℕ) → IsCausal l → i < l.nodes → AreInside l i k → IsRan l i t n → l.instant i k ≤ t → k ≤ n
least l i k t n s b h p a = elim (cases_lt n k) [
  | inr fine ↦ fine
  | inl less ↦ absurd (
      let x = h n less in
      let y = clock_later l i (suc n) k s b less in
      let z = s.clocks i n b in
      elim p.after [ inl e ↦ omega arith | inr e ↦ omega arith ])
]

module _ (lines : DrivenLaws) (tables : TableLaws) (l : Line) (ks : ℕ → ℕ) (t : ℕ) (s : IsCausal l) (rest : IsAtRest l ks t) where
  -- from its next quantum on, each node drives recessive below tick u
  abbrev AreStill : ℕ → Type 0
  AreStill u = (i v : ℕ) → i < l.nodes → l.instant i (ks i) ≤ v → v < u → v < t → level l i v ≡ false

  module _ (u : ℕ) (still : AreStill u) where
    comes_none : (i j v : ℕ) → i < l.nodes → j < l.nodes → l.instant j (ks j) ≤ v → v ≤ u → v < t → l.delay i j ≤ v → level l i (v - l.delay i j) ≡ false
    comes_none i j v b c from here below late = elim (cases_lt (v - l.delay i j) (l.instant i (ks i))) [
      | inl before ↦ rest.silent i j v b c from below late before
      | inr behind ↦ still i (v - l.delay i j) b behind (let d = s.delays i j b c in omega arith) (omega arith)
    ]

    driven_none : (j v : ℕ) → j < l.nodes → l.instant j (ks j) ≤ v → v ≤ u → v < t → driven l.nodes l.delay (level l) j v ≡ false
    driven_none j v c from here below =
        false_from_ne_true (driven l.nodes l.delay (level l) j v) (λ e.
        let d = lines.dominant_by l.nodes l.delay (level l) j v e in
        true≢false (sym d.3 ∙ comes_none d.0 j v d.1 c from here below d.2))

    finds_none : (j v : ℕ) → j < l.nodes → l.instant j (ks j) ≤ v → v ≤ u → v < t → found l (level l) j v ≡ false
    finds_none j v c from here below =
        ap (λ d. d || l.disturbed j v) (driven_none j v c from here below) ∙ rest.calm j v c from below

    -- so at its quanta it sees recessive
    sees : (i m : ℕ) → i < l.nodes → u < t → ((q : ℕ) → q < ks i + m → l.instant i q ≤ u) → seen l i (ks i + m) ≡ seen l i (ks i) ++ replicate m Recessive
    unfolding seen
    sees i zero b below before = ap (seen l i) (add-zero (ks i)) ∙ sym (append-nil (seen l i (ks i)))
    sees i (suc m) b below before =
        let here : l.instant i (ks i + m) ≤ u = before (ks i + m) (omega arith) in
        ap (seen l i) (add-suc (ks i) m)
        ∙ ap (λ f. seen l i (ks i + m) ++ level_of f ∷ []) (finds_none i (l.instant i (ks i + m)) b (clock_later l i (ks i) (ks i + m) s b (omega arith)) here (omega arith))
        ∙ ap (λ xs. xs ++ Recessive ∷ []) (sees i m b below (λ q c. before q (omega arith)))
        ∙ sym (snoc (seen l i (ks i)) Recessive m)

    -- and drives recessive
    drives_none : (i n : ℕ) → i < l.nodes → u < t → ks i ≤ n → ((q : ℕ) → q < n → l.instant i q ≤ u) → l.drives i (seen l i n) ≡ false
    drives_none i n b below low before =
        let up : StandsUpTo l i (ks i) t = rest.stands i b in
        let at : ks i + (n - ks i) ≡ n = omega arith in
        ap (λ k. l.drives i (seen l i k)) (sym at)
        ∙ ap (l.drives i) (sees i (n - ks i) b below (λ q c. before q (omega arith)))
        ∙ up.2 (n - ks i) (elim (cases_lt up.0 (n - ks i)) [
          | inl more ↦ absurd (let x = before (ks i + up.0) (omega arith) in let y = up.1 in omega arith)
          | inr few ↦ few
        ])

    drives_at : (i v : ℕ) → i < l.nodes → l.instant i (ks i) ≤ v → v ≤ suc u → u < t → l.drives i (seen l i (ran l i v)) ≡ false
    drives_at i v b from here below =
        let p : IsRan l i v (ran l i v) = ran_is l i s b v in
        drives_none i (ran l i v) b below (least l i (ks i) v (ran l i v) s b (rest.inside i b) p from) (λ q c. let x = p.before q c in omega arith)

  still_next : (u : ℕ) → AreStill u → AreStill (suc u)
  still_next u still i v b from here below = elim (cases_lt v u) [
    | inl before ↦ still i v b from before below
    | inr now ↦ (let e : v ≡ u = omega arith in level_is lines l i v s b ∙ drives_at u still i (suc v) b (omega arith) (omega arith) (omega arith))
  ]

  all_still : (u : ℕ) → AreStill u
  all_still zero = λ i v b from here below. absurd (omega arith)
  all_still (suc u) = still_next u (all_still u)

  same_count : (i v : ℕ) → i < l.nodes → l.instant i (ks i) ≤ v → v < t → count l i (suc v) ≡ count l i v
  same_count i v b from below =
      ap length (change_no l i v
      (ap (λ d. differs d (level_before l i v)) (all_still (suc v) i v b from (omega arith) below)
      ∙ (level_before_is lines l i v s b ∙ drives_at v (all_still v) i v b from (omega arith) below)))

  counts : (i : ℕ) → i < l.nodes → (d : ℕ) → l.instant i (ks i) + d ≤ t → count l i (l.instant i (ks i) + d) ≡ count l i (l.instant i (ks i))
  counts i b zero few = ap (count l i) (add-zero (l.instant i (ks i)))
  counts i b (suc d) few =
      ap (count l i) (add-suc (l.instant i (ks i)) d)
      ∙ (same_count i (l.instant i (ks i) + d) b (omega arith) (omega arith) ∙ counts i b d (omega arith))

  stays_at : (i : ℕ) → i < l.nodes → l.instant i (ks i) ≤ t → count_below t (changes l i) ≡ count_below (l.instant i (ks i)) (changes l i)
  stays_at i b from =
      let at : l.instant i (ks i) + (t - l.instant i (ks i)) ≡ t = omega arith in
      count_is lines tables l i s b t
      ∙ (ap (count l i) (sym at) ∙ (counts i b (t - l.instant i (ks i)) (omega arith) ∙ sym (count_is lines tables l i s b (l.instant i (ks i)))))

pub rest_law : DrivenLaws → TableLaws → RestLaw
rest_law lines tables l ks t s rest i b from = stays_at lines tables l ks t s rest i b from
