-- Samples by runs: one more, one run more, and the first ones.
use Rattle.std.proofs.Common.{◌≡◌, ◌∙◌, ℕ, zero, suc, ◌+◌, ◌*◌, ◌≤◌, ◌<◌, inl, inr, List, [], ◌∷◌, ◌++◌, length, take, drop, get_or, slice_set, refl, sym, ap, arith, add-one, length-append, append-nil, append_assoc}
use Rattle.std.proofs.Math.Seq.{get_or-append_seam, take-append-add, take-suc}
use Rattle.std.specs.List.{slice_get}
use Rattle.std.specs.Prelude.{Some, None}
use Rattle.std.proofs.lemmas.Bool.{cases_lt}
use Rattle.std.proofs.lemmas.Grind.{flat_map-append}
use Rattle.std.proofs.lemmas.List.{flat_map_more, get_or_append_left, get_or-append-add, take-append-drop, take-append-le, take_all}
use Rattle.std.proofs.lemmas.Option.{slice_get-get_or, slice_get_past}
use Rattle.wl_level.specs.declared.Level.{Level}
use Rattle.wl_level.specs.declared.Level.TheVariants.{Dominant}
use Rattle.wl_node.specs.declared.samples.Run.{Run}
use Rattle.wl_node.specs.Runs.{samples_from, run_samples, samples_by}

pub none_by : samples_by [] ≡ []
unfolding samples_by
none_by = refl

pub none_of : (runs : List Run) → length runs ≡ 0 → length (samples_by runs) ≡ 0
none_of [] e = ap length none_by
none_of (run ∷ runs) e = absurd (omega arith)

-- one run more
pub more_by : (runs : List Run) (run : Run) → samples_by (runs ++ run ∷ []) ≡ samples_by runs ++ run_samples run
unfolding samples_by
more_by runs run = sym (flat_map_more run_samples [] runs run)

-- the run at the front
front_by : (run : Run) (runs : List Run) → samples_by (run ∷ runs) ≡ run_samples run ++ samples_by runs
unfolding samples_by
front_by run runs = refl

-- the last run with some samples more
pub last_by : (runs : List Run) (k : ℕ) (run d : Run) (more : List (ℕ × Level)) → length runs ≡ k + 1
    → run_samples run ≡ run_samples (get_or runs k d) ++ more
    → samples_by (slice_set runs k run) ≡ samples_by runs ++ more
last_by [] k run d more all is = absurd (omega arith)
last_by (last ∷ []) (suc k) run d more all is = absurd (omega arith)
last_by (last ∷ []) zero run d more all is =
    front_by run [] ∙ ap (λ xs. xs ++ samples_by []) is
    ∙ append_assoc (run_samples last) more (samples_by [])
    ∙ ap (λ xs. run_samples last ++ xs) (ap (λ xs. more ++ xs) none_by ∙ append-nil more)
    ∙ ap (λ xs. xs ++ more) (sym (append-nil (run_samples last)) ∙ ap (λ xs. run_samples last ++ xs) (sym none_by) ∙ sym (front_by last []))
last_by (first ∷ next ∷ runs) zero run d more all is = absurd (omega arith)
last_by (first ∷ next ∷ runs) (suc k) run d more all is =
    front_by first (slice_set (next ∷ runs) k run)
    ∙ ap (λ xs. run_samples first ++ xs) (last_by (next ∷ runs) k run d more (omega arith) is)
    ∙ sym (append_assoc (run_samples first) (samples_by (next ∷ runs)) more)
    ∙ ap (λ xs. xs ++ more) (sym (front_by first (next ∷ runs)))

pub take_by : (runs : List Run) (i : ℕ) (d : Run) → i < length runs → samples_by (take (i + 1) runs) ≡ samples_by (take i runs) ++ run_samples (get_or runs i d)
take_by runs i d less = ap (λ n. samples_by (take n runs)) (add-one i) ∙ ap samples_by (take-suc runs i d less) ∙ more_by (take i runs) (get_or runs i d)

pub run_is : (run : Run) → run_samples run ≡ samples_from run.from run.step run.level run.count
unfolding run_samples
run_is run = refl

module _ (from step : ℕ) (level : Level) where
  pub from_none : samples_from from step level 0 ≡ []
  unfolding samples_from
  from_none = refl

  pub from_suc : (n : ℕ) → samples_from from step level (suc n) ≡ samples_from from step level n ++ (from + n * step, level) ∷ []
  unfolding samples_from
  from_suc n = refl

  pub from_more : (n : ℕ) → samples_from from step level (n + 1) ≡ samples_from from step level n ++ (from + n * step, level) ∷ []
  from_more n = ap (samples_from from step level) (add-one n) ∙ from_suc n

  pub from_one : samples_from from step level 1 ≡ (from, level) ∷ []
  from_one = from_suc 0 ∙ ap (λ xs. xs ++ (from + 0 * step, level) ∷ []) from_none ∙ ap (λ q. (q, level) ∷ []) (let e : from + 0 * step ≡ from = omega arith in e)

  pub length_from : (n : ℕ) → length (samples_from from step level n) ≡ n
  length_from zero = ap length from_none
  length_from (suc n) =
      ap length (from_suc n) ∙ length-append (samples_from from step level n) ((from + n * step, level) ∷ []) ∙ ap (λ k. k + 1) (length_from n) ∙ add-one n

  pub take_from : (m n : ℕ) → m ≤ n → take m (samples_from from step level n) ≡ samples_from from step level m
  take_from m zero few = (let e : m ≡ 0 = omega arith in ap (λ k. take k (samples_from from step level 0)) e ∙ (sym from_none ∙ ap (samples_from from step level) (sym e)))
  take_from m (suc n) few = elim (cases_lt m (suc n)) [
    | inl less ↦
        (let l : m ≤ length (samples_from from step level n) = omega (arith, length_from n) in
        ap (take m) (from_suc n) ∙ take-append-le m (samples_from from step level n) ((from + n * step, level) ∷ []) l ∙ take_from m n (omega arith))
    | inr more ↦
        (let e : m ≡ suc n = omega arith in
        let l : length (samples_from from step level (suc n)) ≤ m = omega (arith, length_from (suc n)) in
        take_all m (samples_from from step level (suc n)) l ∙ ap (samples_from from step level) (sym e))
  ]

  get_from : (k n : ℕ) (d : ℕ × Level) → k < n → get_or (samples_from from step level n) k d ≡ (from + k * step, level)
  get_from k zero d less = absurd (omega arith)
  get_from k (suc n) d less =
      let xs : List (ℕ × Level) = samples_from from step level n in
      let one : ℕ × Level = (from + n * step, level) in
      ap (λ (l : List (ℕ × Level)). get_or l k d) (from_suc n)
      ∙ elim (cases_lt k n) [
        | inl before ↦ get_or_append_left xs (one ∷ []) d k (omega (arith, before, length_from n)) ∙ get_from k n d before
        | inr last ↦
            (let e : k ≡ length xs = omega (arith, last, less, length_from n) in
            let same : n ≡ k = omega (arith, last, less) in
            ap (λ (j : ℕ). get_or (xs ++ one ∷ []) j d) e ∙ get_or-append_seam xs one [] d ∙ ap (λ (j : ℕ). (from + j * step, level)) same)
      ]

-- one run among others
module _ (runs : List Run) (i : ℕ) (d : Run) (less : i < length runs) where
  abbrev run_at : Run
  run_at = get_or runs i d

  split_by : (xs ys : List Run) → samples_by (xs ++ ys) ≡ samples_by xs ++ samples_by ys
  unfolding samples_by
  split_by xs ys = flat_map-append run_samples xs ys

  split_at : samples_by runs ≡ samples_by (take i runs) ++ (run_samples run_at ++ samples_by (drop (i + 1) runs))
  split_at =
      ap samples_by (sym (take-append-drop (i + 1) runs))
      ∙ split_by (take (i + 1) runs) (drop (i + 1) runs)
      ∙ ap (λ xs. xs ++ samples_by (drop (i + 1) runs)) (take_by runs i d less)
      ∙ append_assoc (samples_by (take i runs)) (run_samples run_at) (samples_by (drop (i + 1) runs))

  pub length_next : length (samples_by (take (i + 1) runs)) ≡ length (samples_by (take i runs)) + run_at.count
  length_next =
      ap length (take_by runs i d less) ∙ length-append (samples_by (take i runs)) (run_samples run_at)
      ∙ ap (λ n. length (samples_by (take i runs)) + n) (ap length (run_is run_at) ∙ length_from run_at.from run_at.step run_at.level run_at.count)

  pub sample_in : (k place : ℕ) → k ≡ length (samples_by (take i runs)) + place → place < run_at.count
      → slice_get (samples_by runs) k ≡ Some (run_at.from + place * run_at.step, run_at.level)
  sample_in k place e few =
      let front : List (ℕ × Level) = samples_by (take i runs) in
      let mid : List (ℕ × Level) = run_samples run_at in
      let back : List (ℕ × Level) = samples_by (drop (i + 1) runs) in
      let none : ℕ × Level = (0, Dominant) in
      let wide : length mid ≡ run_at.count = ap length (run_is run_at) ∙ length_from run_at.from run_at.step run_at.level run_at.count in
      let all : length (samples_by runs) ≡ length front + (length mid + length back) =
      ap length split_at ∙ length-append front (mid ++ back) ∙ ap (λ n. length front + n) (length-append mid back) in
      slice_get-get_or (samples_by runs) k none (omega (arith, all, wide, few, e))
      ∙ ap Some (ap (λ (l : List (ℕ × Level)). get_or l k none) split_at
      ∙ ap (λ (j : ℕ). get_or (front ++ (mid ++ back)) j none) e
      ∙ get_or-append-add front (mid ++ back) place none
      ∙ get_or_append_left mid back none place (omega (arith, wide, few))
      ∙ ap (λ (l : List (ℕ × Level)). get_or l place none) (run_is run_at)
      ∙ get_from run_at.from run_at.step run_at.level place run_at.count none few)

pub past_all : (runs : List Run) (i k : ℕ) → length runs ≤ i → length (samples_by (take i runs)) ≤ k → slice_get (samples_by runs) k ≡ None
past_all runs i k all past = slice_get_past (samples_by runs) k (let e = ap (λ rs. length (samples_by rs)) (take_all i runs all) in omega (arith, e, past))

module _ (runs : List Run) (run : Run) where
  pub length_more : length (samples_by (runs ++ run ∷ [])) ≡ length (samples_by runs) + run.count
  length_more =
      ap length (more_by runs run) ∙ length-append (samples_by runs) (run_samples run)
      ∙ ap (λ xs. length (samples_by runs) + length xs) (run_is run) ∙ ap (λ n. length (samples_by runs) + n) (length_from run.from run.step run.level run.count)

  -- no sample of the last run
  pub first_by : (most : ℕ) → most ≤ length (samples_by runs) → take most (samples_by (runs ++ run ∷ [])) ≡ take most (samples_by runs)
  first_by most few = ap (take most) (more_by runs run) ∙ take-append-le most (samples_by runs) (run_samples run) few

  -- so many of them
  pub some_by : (most n : ℕ) (other : Run) → most ≡ length (samples_by runs) + n → n ≤ run.count → other.from ≡ run.from → other.step ≡ run.step → other.level ≡ run.level → other.count ≡ n
      → samples_by (runs ++ other ∷ []) ≡ take most (samples_by (runs ++ run ∷ []))
  some_by most n other e few from step level count =
      more_by runs other
      ∙ ap (λ xs. samples_by runs ++ xs) (run_is other ∙ (λ i. samples_from (from i) (step i) (level i) (count i)) ∙ sym (take_from run.from run.step run.level n run.count few) ∙ ap (take n) (sym (run_is run)))
      ∙ sym (ap (λ k. take k (samples_by (runs ++ run ∷ []))) e ∙ ap (take (length (samples_by runs) + n)) (more_by runs run) ∙ take-append-add (samples_by runs) (run_samples run) n)
