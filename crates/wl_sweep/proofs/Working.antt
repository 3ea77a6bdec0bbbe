-- A finding is clean exactly where the bus works.
use Rattle.std.proofs.Common.{◌≡◌, ◌∙◌, ◌<◌, ◌&&◌, ap, sym, refl, ℕ, Bool, true, false, not, cond, List, [], ◌∷◌, length, get_or, inl, inr, Option, Some, None}
use Rattle.std.specs.Prelude.{◌==◌, slice_get}
use Rattle.std.specs.Bool.{Decides}
use Rattle.std.specs.List.{All, list_any}
use Rattle.std.specs.Cmp.Lexicographic.{pointwise}
use Rattle.std.proofs.lemmas.Bool.{cases_Bool, eqb-true}
use Rattle.std.proofs.lemmas.List.Elements.{All-weaker}
use Rattle.std.proofs.lemmas.List.Folds.{list_any_none, list_any_at}
use Rattle.std.proofs.lemmas.List.Sums.{AllPass-from_list_all, list_all-from_AllPass}
use Rattle.std.proofs.lemmas.Slice.Eq.{slice_eq-Decides}
use Rattle.wl_frame.specs.Same.{same_content, content_decides}
use Rattle.wl_node.specs.declared.setup.Passed.{Passed}
use Rattle.wl_serial.specs.declared.outcome.NodeTotals.{NodeTotals}
use Rattle.wl_sweep.specs.declared.finding.Finding.{Finding}
use Rattle.wl_sweep.specs.declared.finding.Finding.TheVariants.{Clean, Faulty, Off, Early, Missed}
use Rattle.wl_sweep.specs.Findings.{CleanIsClean, IsWorking, all_like, contents, errors_in, is_off_bus, like, like_first, some_off, unsent_in}

like_is : (ps qs : List Passed) → like ps qs ≡ pointwise same_content (contents ps) (contents qs)
like_is [] [] = refl
like_is [] (q ∷ qs) = refl
like_is (p ∷ ps) [] = refl
like_is (p ∷ ps) (q ∷ qs) = ap (λ b. same_content p.frame q.frame && b) (like_is ps qs)

like_decides : (ps qs : List Passed) → Decides (like ps qs) (contents ps ≡ contents qs)
like_decides ps qs = slice_eq-Decides content_decides (contents ps) (contents qs) (like ps qs) (like_is ps qs)

module _ {X : Type 0} (p : X → Bool) where
  by_tests : (x : X) (xs : List X) (b : Bool) → p x ≡ b → list_any p (x ∷ xs) ≡ false → (p x ≡ false) × (list_any p xs ≡ false)
  by_tests x xs true is h = absurd (let bad : true ≡ false = rw is at h in cc)
  by_tests x xs false is h = (is, rw is at h)

  none_at : (xs : List X) → list_any p xs ≡ false → (k : ℕ) (d : X) → k < length xs → p (get_or xs k d) ≡ false
  none_at xs h k d within =
      elim (cases_Bool (p (get_or xs k d))) [
        | inl passes ↦ absurd (let bad : list_any p xs ≡ true = list_any_at p xs k d within passes in cc)
        | inr fails ↦ fails
      ]

-- what the tests come to
abbrev found_by : ℕ → ℕ → Bool → Bool → Finding
found_by errors unsent off whole =
    cond (not (errors == 0)) (Faulty errors unsent) (cond off Off (cond (not (unsent == 0)) (Early unsent) (cond (not whole) Missed Clean)))

record Passes (errors unsent : ℕ) (off whole : Bool) : Type 0 where
  errors_none : errors ≡ 0
  unsent_none : unsent ≡ 0
  on : off ≡ false
  all : whole ≡ true

clean_tests : (errors unsent : ℕ) (off whole a b : Bool) → (errors == 0) ≡ a → (unsent == 0) ≡ b
    → cond (not a) (Faulty errors unsent) (cond off Off (cond (not b) (Early unsent) (cond (not whole) Missed Clean))) ≡ Clean
    → Passes errors unsent off whole
clean_tests errors unsent off whole false b x y h = absurd (let bad : Faulty errors unsent ≡ Clean = h in cc)
clean_tests errors unsent true whole true b x y h = absurd (let bad : Off ≡ Clean = h in cc)
clean_tests errors unsent false whole true false x y h = absurd (let bad : Early unsent ≡ Clean = h in cc)
clean_tests errors unsent false false true true x y h = absurd (let bad : Missed ≡ Clean = h in cc)
clean_tests errors unsent false true true true x y h =
    record { errors_none = eqb-true errors 0 x; unsent_none = eqb-true unsent 0 y; on = refl; all = refl }

clean_passes : (errors unsent : ℕ) (off whole : Bool) → found_by errors unsent off whole ≡ Clean → Passes errors unsent off whole
clean_passes errors unsent off whole h = clean_tests errors unsent off whole (errors == 0) (unsent == 0) refl refl h

passes_clean : (errors unsent : ℕ) (off whole : Bool) → Passes errors unsent off whole → found_by errors unsent off whole ≡ Clean
passes_clean errors unsent off whole t = rw (t.errors_none, t.unsent_none, t.on, t.all) refl

-- the frames of all nodes are like those of the first one
likes_are : (o : Option NodeTotals) (nodes : List NodeTotals) → like_first o nodes ≡ true
    → (first : NodeTotals) → o ≡ Some first → All (λ (n : NodeTotals). contents n.frames ≡ contents first.frames) nodes
likes_are None nodes h first is = absurd (let bad : None ≡ Some first = is in cc)
likes_are (Some f) nodes h first is =
    let same : f ≡ first = cc in
    All-weaker (λ n. like f.frames n.frames ≡ true) (λ n. contents n.frames ≡ contents first.frames)
    (λ n e. sym ((like_decides f.frames n.frames).0 e) ∙ ap (λ (m : NodeTotals). contents m.frames) same)
    nodes (AllPass-from_list_all (λ (n : NodeTotals). like f.frames n.frames) nodes h)

are_like : (o : Option NodeTotals) (nodes : List NodeTotals)
    → ((first : NodeTotals) → o ≡ Some first → All (λ (n : NodeTotals). contents n.frames ≡ contents first.frames) nodes) → like_first o nodes ≡ true
are_like None nodes h = refl
are_like (Some f) nodes h =
    list_all-from_AllPass (λ (n : NodeTotals). like f.frames n.frames) nodes
    (All-weaker (λ n. contents n.frames ≡ contents f.frames) (λ n. like f.frames n.frames ≡ true)
    (λ n e. (like_decides f.frames n.frames).1 (sym e)) nodes (h f refl))

works : (nodes : List NodeTotals) → Passes (errors_in nodes) (unsent_in nodes) (some_off nodes) (all_like nodes) → IsWorking nodes
works nodes t = record {
  errors = t.errors_none;
  unsent = t.unsent_none;
  on = λ k d within. none_at is_off_bus nodes t.on k d within;
  whole = likes_are (slice_get nodes 0) nodes t.all;
}

works_passes : (nodes : List NodeTotals) → IsWorking nodes → Passes (errors_in nodes) (unsent_in nodes) (some_off nodes) (all_like nodes)
works_passes nodes w = record {
  errors_none = w.errors;
  unsent_none = w.unsent;
  on = list_any_none is_off_bus nodes w.on;
  all = are_like (slice_get nodes 0) nodes w.whole;
}

pub clean : CleanIsClean
clean nodes = (
  λ h. works nodes (clean_passes (errors_in nodes) (unsent_in nodes) (some_off nodes) (all_like nodes) h),
  λ w. passes_clean (errors_in nodes) (unsent_in nodes) (some_off nodes) (all_like nodes) (works_passes nodes w),
)
